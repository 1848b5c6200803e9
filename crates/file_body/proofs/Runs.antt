-- The blocks of a run behind that of an old end.
use Rattle.std.proofs.Common.{◌≡◌, ℕ, zero, suc, ◌+◌, ◌-◌, ◌<◌, List, ◌++◌, length, get_or, refl, sym, ◌∙◌, ap, arith, length-append}
use Rattle.std.specs.Prelude.{Option, Some, None}
use Rattle.std.specs.Option.{option_to_list}
use Rattle.plain_model.specs.Blocks.{from_on}

length-from_on : (a n : ℕ) → length (from_on a n) ≡ n
length-from_on a zero = refl
length-from_on a (suc n) = ap suc (length-from_on (a + 1) n)

pub length_blocks : (old_end : Option ℕ) (first count : ℕ) → length (option_to_list old_end ++ from_on first count) ≡ length (option_to_list old_end) + count
length_blocks old_end first count = length-append (option_to_list old_end) (from_on first count) ∙ ap (λ n. length (option_to_list old_end) + n) (length-from_on first count)

run_at : (a n k : ℕ) → k < n → get_or (from_on a n) k 0 ≡ a + k
run_at a zero k h = absurd (omega arith)
run_at a (suc n) zero h = omega arith
run_at a (suc n) (suc k) h = run_at (a + 1) n k (omega arith) ∙ omega arith

pub at_run : (end : Option ℕ) (first count place : ℕ) (blocks : List ℕ) → option_to_list end ++ from_on first count ≡ blocks → end ≡ None → place < length blocks → (place < count) × (first + place ≡ get_or blocks place 0)
at_run None first count place blocks is none h =
    let small : place < count = omega (arith, ap length is, length_blocks None first count) in
    (small, sym (ap (λ l. get_or l place 0) (sym is) ∙ run_at first count place small))
at_run (Some b) first count place blocks is none h = absurd cc

pub at_run_behind : (end : Option ℕ) (b first count place : ℕ) (blocks : List ℕ) → option_to_list end ++ from_on first count ≡ blocks → end ≡ Some b → (place ≡ 0 → ⊥) → place < length blocks → (place - 1 < count) × (first + (place - 1) ≡ get_or blocks place 0)
at_run_behind None b first count place blocks is some front h = absurd cc
at_run_behind (Some a) b first count zero blocks is some front h = absurd (front refl)
at_run_behind (Some a) b first count (suc k) blocks is some front h =
    let small : k < count = omega (arith, ap length is, length_blocks (Some a) first count) in
    (omega arith, sym (ap (λ l. get_or l (suc k) 0) (sym is) ∙ (run_at first count k small ∙ omega arith)))
