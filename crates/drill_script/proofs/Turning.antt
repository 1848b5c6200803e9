-- How draws and the lines of a drill go on.
use Rattle.std.proofs.Common.{◌≡◌, ℕ, suc, ◌+◌, ◌-◌, ◌*◌, ◌%◌, ◌^◌, ◌<◌, List, [], ◌∷◌, ◌++◌, refl, arith, zero-add}
use Rattle.std.proofs.Math.Nat.{mod-add-mod}
use Rattle.std.proofs.lemmas.List.{append_assoc}
use Rattle.std.proofs.lemmas.List.FromFn.{map-range_with_len_more}
use Rattle.hsm_types.specs.declared.daemons.Daemon.TheVariants.{Recall, Migrate}
use Rattle.script_text.specs.declared.lines.Line.{Line}
use Rattle.script_text.specs.declared.lines.Line.TheVariants.{Start, Settle}
use Rattle.drill_script.specs.Drill.{next, create_line, create_lines, turn_line, turn_from, next_turn, turn_lines, drill_lines}

pub wraps_to_next : (x : ℕ) → (6364136223846793005 * x % 2 ^ 64 + 1442695040888963407) % 2 ^ 64 ≡ next x
unfolding next
wraps_to_next x = mod-add-mod (6364136223846793005 * x) (2 ^ 64) 1442695040888963407

pub create_lines_none : create_lines 0 ≡ []
unfolding create_lines
create_lines_none = refl

pub create_lines_more : (count : ℕ) → create_lines (count + 1) ≡ create_lines count ++ create_line count ∷ []
unfolding create_lines
create_lines_more count = map-range_with_len_more create_line 0 count count (zero-add count)

pub turn_lines_none : (x : ℕ) → turn_lines 0 x ≡ []
unfolding turn_lines
turn_lines_none x = refl

turn_lines-suc : (count x : ℕ) → turn_lines (suc count) x ≡ turn_line (turn_from x) ∷ Settle ∷ turn_lines count (next_turn x)
unfolding turn_lines
turn_lines-suc count x = refl

pub drill_made : (n x : ℕ) (none one two created all : List Line) → none ≡ [] → one ≡ none ++ Start Recall ∷ [] → two ≡ one ++ Start Migrate ∷ [] → created ≡ two ++ create_lines 40 → x ≡ n → all ≡ created ++ turn_lines 600 x → all ≡ drill_lines n
unfolding drill_lines
drill_made n x none one two created all first second third fourth fifth last = rw (last, fourth, third, second, first, fifth) refl

-- the turns that are left once i are done
pub turn_lines_left : (count i x : ℕ) → i < count → turn_lines (count - i) x ≡ turn_line (turn_from x) ∷ Settle ∷ turn_lines (count - (i + 1)) (next_turn x)
turn_lines_left count i x more =
    let left : count - i ≡ suc (count - (i + 1)) = omega arith in
    rw left (turn_lines-suc (count - (i + 1)) x)

pub append_two : (lines : List Line) (a b : Line) (more : List Line) → ((lines ++ a ∷ []) ++ b ∷ []) ++ more ≡ lines ++ a ∷ b ∷ more
append_two lines a b more = simp append_assoc
