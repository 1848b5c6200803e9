-- Lists in parts: what is so of each element, and where an element stands.
use Rattle.std.proofs.Common.{◌≡◌, ◌⊎◌, zero, suc, List, [], ◌∷◌, ◌++◌, Contains, inl, inr}
use Rattle.std.proofs.Common.{refl, sym, ap, subst, append-nil, arith}
use Rattle.std.specs.List.{AllByRecursion}
use Rattle.std.proofs.lemmas.List.Elements.{Contains-append_right}

-- ---- what is so of each

pub all_weaker : {A : Type 0} (P Q : A → Type 0) (xs : List A) → ((x : A) → P x → Q x) → AllByRecursion P xs → AllByRecursion Q xs
all_weaker P Q [] weaker all = tt
all_weaker P Q (x ∷ xs) weaker all = (weaker x all.0, all_weaker P Q xs weaker all.1)

pub all_then : {A : Type 0} (P : A → Type 0) (xs ys : List A) → AllByRecursion P xs → AllByRecursion P ys → AllByRecursion P (xs ++ ys)
all_then P [] ys first second = second
all_then P (x ∷ xs) ys first second = (first.0, all_then P xs ys first.1 second)

pub all_and : {A : Type 0} (P : A → Type 0) (xs : List A) (x : A) → AllByRecursion P xs → P x → AllByRecursion P (xs ++ x ∷ [])
all_and P xs x each is = all_then P xs (x ∷ []) each (is, tt)

pub all_first : {A : Type 0} (P : A → Type 0) (xs ys : List A) → AllByRecursion P (xs ++ ys) → AllByRecursion P xs
all_first P [] ys each = tt
all_first P (x ∷ xs) ys each = (each.0, all_first P xs ys each.1)

pub all_at : {A : Type 0} (P : A → Type 0) (before : List A) (x : A) (rest : List A) → AllByRecursion P (before ++ x ∷ rest) → P x
all_at P [] x rest each = each.0
all_at P (b ∷ before) x rest each = all_at P before x rest each.1

-- ---- its elements

pub none_in : {A : Type 0} (x : A) → Contains [] x → ⊥
none_in x has = let within = has.1 in omega (arith, within)

pub first_in : {A : Type 0} (x : A) (xs : List A) → Contains (x ∷ xs) x
first_in x xs = (0, omega arith, refl)

pub later_in : {A : Type 0} (x : A) (xs : List A) (y : A) → Contains xs y → Contains (x ∷ xs) y
later_in x xs y has = let within = has.1 in (suc has.0, omega (arith, within), has.2)

pub first_or_rest : {A : Type 0} (x : A) (xs : List A) (y : A) → Contains (x ∷ xs) y → (x ≡ y) ⊎ Contains xs y
first_or_rest x xs y (zero, within, is) = inl is
first_or_rest x xs y (suc i, within, is) = inr (i, omega (arith, within), is)

-- ---- where an element stands

pub stands_in : {A : Type 0} (before : List A) (x : A) (rest : List A) → Contains (before ++ x ∷ rest) x
stands_in before x rest = Contains-append_right before (x ∷ rest) x (first_in x rest)

pub parts : {A : Type 0} (xs : List A) (x : A) → Contains xs x → (before : List A) × (rest : List A) × (xs ≡ before ++ x ∷ rest)
parts [] x has = absurd (none_in x has)
parts (y ∷ xs) x (zero, within, same) = ([], xs, ap (λ (z : _). z ∷ xs) same)
parts (y ∷ xs) x (suc n, within, same) = let later = parts xs x (n, omega arith, same) in (y ∷ later.0, later.1, ap (λ (z : _). y ∷ z) later.2)

pub none_there : {A : Type 0} (before : List A) (x : A) (rest : List A) → [] ≡ before ++ x ∷ rest → ⊥
none_there [] x rest is = cc
none_there (b ∷ before) x rest is = cc

-- an element of two lists is one of the first or of the second
abbrev pub IsInEither : {A : Type 0} → (one two before : List A) → A → (rest : List A) → Type 0
IsInEither {A = A} one two before x rest = ((more : List A) × (one ≡ before ++ x ∷ more) × (rest ≡ more ++ two)) ⊎ ((more : List A) × (before ≡ one ++ more) × (two ≡ more ++ x ∷ rest))

pub in_either : {A : Type 0} (one two before : List A) (x : A) (rest : List A) → one ++ two ≡ before ++ x ∷ rest → IsInEither one two before x rest
in_either [] two before x rest is = inr (before, refl, is)
in_either {A = A} (a ∷ one) two [] x rest is = let same : a ≡ x = cc in inl (one, ap (λ (y : A). y ∷ one) same, cc)
in_either (a ∷ one) two (b ∷ before) x rest is =
    let same : a ≡ b = cc in
    elim (in_either one two before x rest cc) [
      | inl within ↦ inl (within.0, (λ i. same i ∷ within.1 i), within.2)
      | inr behind ↦ inr (behind.0, (λ i. sym same i ∷ behind.1 i), behind.2)
    ]

-- one of a list with one element more is that one, with nothing behind it, or it is one of the list
abbrev pub Place : {A : Type 0} → List A → A → List A → A → List A → Type 0
Place {A = A} xs x before y rest = ((before ≡ xs) × (y ≡ x) × (rest ≡ [])) ⊎ ((more : List A) × (rest ≡ more ++ x ∷ []) × (xs ≡ before ++ y ∷ more))

last_place : {A : Type 0} (xs : List A) (x : A) (more : List A) (y : A) (rest : List A) → x ∷ [] ≡ more ++ y ∷ rest → Place xs x (xs ++ more) y rest
last_place xs x [] y rest is = inl (append-nil xs, cc, cc)
last_place xs x (m ∷ more) y rest is = absurd (none_there more y rest cc)

pub place : {A : Type 0} (xs : List A) (x : A) (before : List A) (y : A) (rest : List A) → xs ++ x ∷ [] ≡ before ++ y ∷ rest → Place xs x before y rest
place {A = A} xs x before y rest is = elim (in_either xs (x ∷ []) before y rest is) [
  | inl within ↦ inr (within.0, within.2, within.1)
  | inr behind ↦ subst (λ (l : List A). Place xs x l y rest) (sym behind.1) (last_place xs x behind.0 y rest behind.2)
]

pub both_none : {A : Type 0} (one two : List A) → [] ≡ one ++ two → (one ≡ []) × (two ≡ [])
both_none [] two is = (refl, sym is)
both_none (a ∷ one) two is = cc
