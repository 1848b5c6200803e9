-- Lists of drives, from the first on.
use Rattle.std.proofs.Common.{◌++◌, ◌∷◌, [], ℕ, suc, zero, List, length, IfSome}
use Rattle.std.specs.Prelude.{slice_get}

-- what holds of each item by its place, and of the next one, holds of the longer list
pub each_more : {X : Type 0} (P : ℕ → X → Type 0) (xs : List X) (x : X) → ((i : ℕ) → IfSome (slice_get xs i) (P i)) → P (length xs) x → (i : ℕ) → IfSome (slice_get (xs ++ x ∷ []) i) (P i)
each_more P [] x each next zero = next
each_more P [] x each next (suc i) = tt
each_more P (y ∷ xs) x each next zero = each zero
each_more P (y ∷ xs) x each next (suc i) = each_more (λ j. P (suc j)) xs x (λ j. each (suc j)) next i
