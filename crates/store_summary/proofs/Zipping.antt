-- Two lists side by side.
use Rattle.std.proofs.Common.{◌≡◌, List, [], ◌∷◌, refl}
use Rattle.std.proofs.Common.{◌⊎◌, inl, inr}
use Rattle.std.specs.List.{zip}

-- no pair is left where either list is at its end
pub zip_ended : {A B : Type 0} (xs : List A) (ys : List B) → (xs ≡ []) ⊎ (ys ≡ []) → zip xs ys ≡ []
zip_ended [] ys ended = refl
zip_ended (x ∷ xs) [] ended = refl
zip_ended (x ∷ xs) (y ∷ ys) ended = elim ended [ inl none ↦ cc | inr none ↦ cc ]
