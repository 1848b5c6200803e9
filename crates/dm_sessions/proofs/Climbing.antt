-- Lists whose keys ascend: what is found under each number fixes them.
use Rattle.std.proofs.Common.{◌≡◌, ℕ, zero, suc, ◌+◌, ◌<◌, ◌≤◌, ◌⊎◌, inl, inr, ⊎_elim, Bool, true, false, cond, List}
use Rattle.std.proofs.Common.{[], ◌∷◌, length, filter, get_or, map, None, Some, refl, sym, ap, ◌∙◌, eqb, arith}
use Rattle.std.proofs.lemmas.Bool.{ne_eqb, eq-eqb, cases_order, cases_lt}
use Rattle.std.proofs.lemmas.List.Sums.{sum_by-cons}
use Rattle.std.specs.Prelude.{count_by}
use Rattle.std.specs.List.{find}
use Rattle.std.specs.List.Sorted.{IsNonDecreasingBy, IsStrictlyIncreasing}

module _ {X : Type 0} (key : X → ℕ) where
  -- the keys ascend, above a number
  abbrev pub Climbs : ℕ → List X → Type 0
  Climbs low [] = Unit {0}
  Climbs low (x ∷ xs) = (low < key x) × Climbs (key x) xs

  abbrev pub at : ℕ → X → Bool
  at n x = eqb (key x) n

  pub climbs-lower : (low least : ℕ) (xs : List X) → Climbs low xs → least ≤ low → Climbs least xs
  climbs-lower low least [] h le = tt
  climbs-lower low least (x ∷ xs) h le = let above = h.0 in (omega arith, h.1)

  pub find-below : (low n : ℕ) (xs : List X) → Climbs low xs → n ≤ low → find (at n) xs ≡ None
  find-below low n [] h le = refl
  find-below low n (x ∷ xs) h le =
      let above = h.0 in
      let other : eqb (key x) n ≡ false = ne_eqb (key x) n (λ same. omega arith) in
      rw other (find-below (key x) n xs h.1 (omega arith))

  find-head : (x : X) (xs : List X) → find (at (key x)) (x ∷ xs) ≡ Some x
  find-head x xs = let own : eqb (key x) (key x) ≡ true = eq-eqb (key x) (key x) refl in rw own refl

  find-past : (low n : ℕ) (x : X) (xs : List X) → Climbs low (x ∷ xs) → n < key x → find (at n) (x ∷ xs) ≡ None
  find-past low n x xs h lt =
      let other : eqb (key x) n ≡ false = ne_eqb (key x) n (λ same. omega arith) in
      rw other (find-below (key x) n xs h.1 (omega arith))

  tails : (low n : ℕ) (x : X) (xs ys : List X) → Climbs (key x) xs → Climbs (key x) ys → find (at n) (x ∷ xs) ≡ find (at n) (x ∷ ys) → find (at n) xs ≡ find (at n) ys
  tails low n x xs ys h g same =
      ⊎_elim (λ (above : key x < n).
      let other : eqb (key x) n ≡ false = ne_eqb (key x) n (λ e. omega arith) in
      rw other at same)
      (λ (below : n ≤ key x). find-below (key x) n xs h below ∙ sym (find-below (key x) n ys g below)) (cases_lt (key x) n)

  pub climbs-same : (low : ℕ) (xs ys : List X) → Climbs low xs → Climbs low ys → ((n : ℕ) → find (at n) xs ≡ find (at n) ys) → xs ≡ ys
  climbs-same low [] [] h g same = refl
  climbs-same low [] (y ∷ ys) h g same = let met : None ≡ Some y = same (key y) ∙ find-head y ys in absurd cc
  climbs-same low (x ∷ xs) [] h g same = let met : Some x ≡ None = sym (find-head x xs) ∙ same (key x) in absurd cc
  climbs-same low (x ∷ xs) (y ∷ ys) h g same = by (cases_order (key x) (key y)) (λ climbs rest. climbs-same (key x) xs ys h.1 climbs rest)
    where
      by : (key x ≡ key y) ⊎ ((key x < key y) ⊎ (key y < key x)) → (Climbs (key x) ys → ((n : ℕ) → find (at n) xs ≡ find (at n) ys) → xs ≡ ys) → x ∷ xs ≡ y ∷ ys
      by (inl e) later =
          let met : Some x ≡ Some y = sym (find-head x xs) ∙ same (key x) ∙ ap (λ n. find (at n) (y ∷ ys)) e ∙ find-head y ys in
          let one : x ≡ y = cc in
          let climbs : Climbs (key x) ys = climbs-lower (key y) (key x) ys g.1 (omega arith) in
          let rest = later climbs (λ n. tails low n x xs ys h.1 climbs (same n ∙ ap (λ z. find (at n) (z ∷ ys)) (sym one))) in
          λ i. one i ∷ rest i
      by (inr (inl lt)) later = let met : Some x ≡ None = sym (find-head x xs) ∙ same (key x) ∙ find-past low (key x) y ys g lt in absurd cc
      by (inr (inr lt)) later = let met : None ≡ Some y = sym (find-past low (key y) x xs h lt) ∙ same (key y) ∙ find-head y ys in absurd cc

  pub climbs-filter : (p : X → Bool) (low : ℕ) (xs : List X) → Climbs low xs → Climbs low (filter p xs)
  climbs-filter p low [] h = tt
  climbs-filter p low (x ∷ xs) h =
      let rest = climbs-filter p (key x) xs h.1 in
      let above = h.0 in
      elim (p x) as (λ (b : Bool). Climbs low (cond b (x ∷ filter p xs) (filter p xs))) [
        | true ↦ (h.0, rest)
        | false ↦ climbs-lower (key x) low (filter p xs) rest (omega arith)
      ]

  counted : (n : ℕ) (x : X) (xs : List X) → key x ≡ n → count_by (at n) (x ∷ xs) ≡ suc (count_by (at n) xs)
  counted n x xs is =
      let own : eqb (key x) n ≡ true = eq-eqb (key x) n is in
      let one : cond (at n x) (suc zero) zero ≡ suc zero = ap (λ (b : Bool). cond b (suc zero) zero) own in
      omega (arith, one, sum_by-cons (λ y. cond (at n y) (suc zero) zero) x xs)

  fewer : (x : X) (xs : List X) → ((n : ℕ) → count_by (at n) (x ∷ xs) ≤ 1) → (n : ℕ) → count_by (at n) xs ≤ 1
  fewer x xs few n = let all = few n in omega (arith, sum_by-cons (λ y. cond (at n y) (suc zero) zero) x xs)

  -- a list that is sorted and has no key twice
  pub climbs-sorted : (low : ℕ) (xs : List X) → IsNonDecreasingBy key xs → ((n : ℕ) → count_by (at n) xs ≤ 1) → ((d : X) → 0 < length xs → low < key (get_or xs 0 d)) → Climbs low xs
  climbs-sorted low [] up few above = tt
  climbs-sorted low (x ∷ []) up few above = (above x (omega arith), tt)
  climbs-sorted low (x ∷ y ∷ xs) up few above = (
    above x (omega arith),
    climbs-sorted (key x) (y ∷ xs) (λ i j d le lt. up (suc i) (suc j) d (omega arith) (omega arith)) (fewer x (y ∷ xs) few)
        (λ d _. let le : key x ≤ key y = up zero (suc zero) x (omega arith) (omega arith) in
        ⊎_elim (λ (lt : key x < key y). lt) (λ (ge : key y ≤ key x).
        let all = few (key x) in
        absurd (omega (arith, counted (key x) x (y ∷ xs) refl, counted (key x) y xs (omega arith)))) (cases_lt (key x) (key y))),
  )

  step : (low : ℕ) (xs : List X) → Climbs low xs → (k n : ℕ) → n ≡ suc k → n < length (map key xs) → get_or (map key xs) k 0 < get_or (map key xs) n 0
  step low [] h k n is within = absurd (omega arith)
  step low (x ∷ []) h k n is within = absurd (omega arith)
  step low (x ∷ y ∷ xs) h zero n is within = rw is h.1.0
  step low (x ∷ y ∷ xs) h (suc k) n is within = rw is (step (key x) (y ∷ xs) h.1 k (suc k) refl (omega arith))

  -- the keys ascend strictly
  pub increasing-keys : (low : ℕ) (xs : List X) → Climbs low xs → IsStrictlyIncreasing (map key xs)
  increasing-keys low xs h k within = step low xs h k (k + 1) (omega arith) within
