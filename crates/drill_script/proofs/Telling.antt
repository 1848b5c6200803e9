-- The line that tells of a drill, from the pieces that it is written of.
use Rattle.std.proofs.Common.{◌≡◌, ℕ, List, ◌++◌, length, sym}
use Rattle.std.specs.Prelude.{codes}
use Rattle.std.specs.Fmt.{decimal}
use Rattle.std.proofs.lemmas.List.{append_assoc}
use Rattle.plain_model.specs.declared.entries.Entry.{Entry}
use Rattle.drill_script.specs.Summary.{digest_of, summary_line}

-- five values, each behind a literal, and what ends them
abbrev pub written : (la a lb b lc c ld d le e end : List ℕ) → List ℕ
written la a lb b lc c ld d le e end = la ++ (a ++ (lb ++ (b ++ (lc ++ (c ++ (ld ++ (d ++ (le ++ (e ++ end)))))))))

regrouped : (la a lb b lc c ld d le e end : List ℕ) → la ++ a ++ lb ++ b ++ lc ++ c ++ ld ++ d ++ le ++ e ++ end ≡ written la a lb b lc c ld d le e end
regrouped la a lb b lc c ld d le e end = simp append_assoc

-- the line as it is written
abbrev pub written_line : ℕ → ℕ → List ℕ → ℕ → ℕ → List ℕ
written_line n entries sha used offline =
    written (codes "drill ") (decimal n) (codes " entries=") (decimal entries) (codes " sha=") sha (codes " used=") (decimal used) (codes " offline=") (decimal offline) (codes "\n")

pub told : (n used offline : ℕ) (history : List Entry) (sha text made : List ℕ) → sha ≡ digest_of history → text ≡ written_line n (length history) sha used offline → made ≡ text → made ≡ summary_line n history used offline
unfolding summary_line
told n used offline history sha text made digest line taken =
    rw (taken, line, digest) (sym (regrouped (codes "drill ") (decimal n) (codes " entries=") (decimal (length history)) (codes " sha=") (digest_of history) (codes " used=") (decimal used) (codes " offline=") (decimal offline) (codes "\n")))
