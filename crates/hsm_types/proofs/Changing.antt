-- A loop that changes one item after the other.
use Rattle.std.proofs.Common.{◌≡◌, ℕ, zero, suc, ◌+◌, ◌<◌, List, [], ◌∷◌, ◌++◌, length, take, drop, refl, sym, ap, subst, arith, slice_index_or, slice_set, ◌∙◌}
use Rattle.std.specs.Prelude.{map}

-- one item more is changed
changed_more : {X : Type 0} (change : X → X) (xs : List X) (i : ℕ) (d : X) → i < length xs
    → slice_set (map change (take i xs) ++ drop i xs) i (change (slice_index_or (map change (take i xs) ++ drop i xs) i d)) ≡ map change (take (suc i) xs) ++ drop (suc i) xs
changed_more change [] i d within = absurd (omega (arith, within))
changed_more change (x ∷ xs) zero d within = refl
changed_more change (x ∷ xs) (suc i) d within = ap (λ ys. change x ∷ ys) (changed_more change xs i d (omega (arith, within)))

pub changed_next : {X : Type 0} (change : X → X) (xs now : List X) (i : ℕ) (x y : X) → now ≡ map change (take i xs) ++ drop i xs → i < length xs → y ≡ change (slice_index_or now i x) → slice_set now i y ≡ map change (take (i + 1) xs) ++ drop (i + 1) xs
changed_next change xs now i x y is within changed =
    subst (λ n. slice_set now i y ≡ map change (take n xs) ++ drop n xs) (let next : suc i ≡ i + 1 = omega arith in next)
    (subst (λ ys. slice_set ys i y ≡ map change (take (suc i) xs) ++ drop (suc i) xs) (sym is)
    (subst (λ z. slice_set (map change (take i xs) ++ drop i xs) i z ≡ map change (take (suc i) xs) ++ drop (suc i) xs) (sym (changed ∙ ap (λ ys. change (slice_index_or ys i x)) is)) (changed_more change xs i x within)))
