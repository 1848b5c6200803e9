-- A list has one stable order: two lists that ascend, and have the items of one list that tie xs these stand in it, are the same.
use Rattle.std.proofs.Common.{◌≡◌, ℕ, suc, ◌<◌, ◌≤◌, Bool, true, false, cond, List, [], ◌∷◌, length, get_or, drop, inl, inr, refl, sym, ap, ◌∙◌, arith}
use Rattle.std.proofs.lemmas.Bool.{cases_Bool, true≢false}
use Rattle.std.specs.Cmp.{IsStrictWeakOrder}
use Rattle.std.specs.List.{filter, AllByRecursion}
use Rattle.std.specs.List.Sorted.{ties}

cancelled : {X : Type 0} (t : Bool) (a : X) (l m : List X) → cond t (a ∷ l) l ≡ cond t (a ∷ m) m → l ≡ m
cancelled true a l m same = ap (drop 1) same
cancelled false a l m same = same

some_is_none : {X : Type 0} (x : X) (xs : List X) → x ∷ xs ≡ [] → ⊥
some_is_none x xs same = absurd (omega (arith, ap length same))

module _ {X : Type 0} (lt : X → X → Bool) (o : IsStrictWeakOrder lt) where
  -- x is above none of them
  abbrev pub IsLow : X → List X → Type 0
  IsLow x ys = AllByRecursion (λ y. lt y x ≡ false) ys

  -- each is above none that follows
  abbrev pub Ascends : List X → Type 0
  Ascends [] = Unit {0}
  Ascends (x ∷ xs) = IsLow x xs × Ascends xs

  low_from : (x : X) (ys : List X) → ((k : ℕ) (d : X) → k < length ys → lt (get_or ys k d) x ≡ false) → IsLow x ys
  low_from x [] h = tt
  low_from x (y ∷ ys) h = (h 0 y (omega arith), low_from x ys (λ k d b. h (suc k) d (omega arith)))

  pub ascends_from : (xs : List X) → ((i j : ℕ) (d : X) → i ≤ j → j < length xs → lt (get_or xs j d) (get_or xs i d) ≡ false) → Ascends xs
  ascends_from [] h = tt
  ascends_from (x ∷ xs) h = (
    low_from x xs (λ k d b. h 0 (suc k) d (omega arith) (omega arith)),
    ascends_from xs (λ i j d a b. h (suc i) (suc j) d (omega arith) (omega arith)),
  )

  not_itself : (x : X) → lt x x ≡ false
  not_itself x = elim (cases_Bool (lt x x)) [ inl above ↦ o.one_way x x above | inr same ↦ same ]

  tied_itself : (x : X) → ties lt x x ≡ true
  tied_itself x = rw (not_itself x) refl

  -- what is above a ties with none of those that aren't below it
  apart : (a b z : X) → lt z b ≡ false → lt a b ≡ true → ties lt a z ≡ false
  apart a b z low above =
      elim (cases_Bool (lt a z)) [
        | inl more ↦ rw more refl
        | inr less ↦ absurd (true≢false (sym above ∙ o.chain a z b less low))
      ]

  none_tied : (a b : X) (zs : List X) → IsLow b zs → lt a b ≡ true → filter (ties lt a) zs ≡ []
  none_tied a b [] low above = refl
  none_tied a b (z ∷ zs) low above = rw (apart a b z low.0 above) (none_tied a b zs low.1 above)

  not_above : (a b : X) (xs ys : List X) → IsLow b ys → filter (ties lt a) (a ∷ xs) ≡ filter (ties lt a) (b ∷ ys) → lt a b ≡ false
  not_above a b xs ys low same =
      elim (cases_Bool (lt a b)) [
        | inl above ↦ absurd (some_is_none a (filter (ties lt a) xs) (rw (tied_itself a) at (same ∙ none_tied a b (b ∷ ys) (not_itself b, low) above)))
        | inr less ↦ less
      ]

  pub one_order : (xs ys : List X) → Ascends xs → Ascends ys → ((x : X) → filter (ties lt x) xs ≡ filter (ties lt x) ys) → xs ≡ ys
  one_order [] [] up up' same = refl
  one_order [] (b ∷ ys) up up' same = absurd (some_is_none b (filter (ties lt b) ys) (rw (tied_itself b) at (sym (same b))))
  one_order (a ∷ xs) [] up up' same = absurd (some_is_none a (filter (ties lt a) xs) (rw (tied_itself a) at (same a)))
  one_order (a ∷ xs) (b ∷ ys) up up' same =
      let le = not_above a b xs ys up'.0 (same a) in
      let ge = not_above b a ys xs up.0 (sym (same b)) in
      let tied : ties lt a b ≡ true = rw (le, ge) refl in
      let heads : a ∷ filter (ties lt a) xs ≡ b ∷ filter (ties lt a) ys = rw (tied_itself a, tied) at (same a) in
      let head : a ≡ b = ap (λ l. get_or l 0 a) heads in
      let tails : (x : X) → filter (ties lt x) xs ≡ filter (ties lt x) ys =
      λ x. cancelled (ties lt x a) a _ _ (same x ∙ ap (λ c. cond (ties lt x c) (c ∷ filter (ties lt x) ys) (filter (ties lt x) ys)) (sym head)) in
      rw (head, one_order xs ys up.1 up'.1 tails)
