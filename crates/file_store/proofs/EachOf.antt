-- What is true of each of a list.
use Rattle.file_store.proofs.Names.{◌≡◌, ◌<◌, ℕ, zero, suc, List, [], ◌∷◌, ◌++◌, length, map, get_or, Some, true, false, eqb, subst, arith}
use Rattle.file_store.proofs.Names.{AllByRecursion, list_any, recursion_from_All, All-from_has, slice_get_within, get_or_from_slice_get}
use Rattle.std.specs.List.{slice_get}

module _ {X : Type 0} where
  pub each-all : (P : X → Type 0) → ((x : X) → P x) → (xs : List X) → AllByRecursion P xs
  each-all P all [] = tt
  each-all P all (x ∷ xs) = (all x, each-all P all xs)

  pub each-weaker : (P Q : X → Type 0) → ((x : X) → P x → Q x) → (xs : List X) → AllByRecursion P xs → AllByRecursion Q xs
  each-weaker P Q weaker [] all = tt
  each-weaker P Q weaker (x ∷ xs) all = (weaker x all.0, each-weaker P Q weaker xs all.1)

  pub each-both : (P Q R : X → Type 0) → ((x : X) → P x → Q x → R x) → (xs : List X) → AllByRecursion P xs → AllByRecursion Q xs → AllByRecursion R xs
  each-both P Q R both [] p q = tt
  each-both P Q R both (x ∷ xs) p q = (both x p.0 q.0, each-both P Q R both xs p.1 q.1)

  pub each-join : (P : X → Type 0) (xs ys : List X) → AllByRecursion P xs → AllByRecursion P ys → AllByRecursion P (xs ++ ys)
  each-join P [] ys p q = q
  each-join P (x ∷ xs) ys p q = (p.0, each-join P xs ys p.1 q)

  pub each-parts : (P : X → Type 0) (xs ys : List X) → AllByRecursion P (xs ++ ys) → AllByRecursion P xs × AllByRecursion P ys
  each-parts P [] ys all = (tt, all)
  each-parts P (x ∷ xs) ys all = let rest = each-parts P xs ys all.1 in ((all.0, rest.0), rest.1)

  pub each-mapped : {Y : Type 0} (P : Y → Type 0) (f : X → Y) (xs : List X) → AllByRecursion P (map f xs) → AllByRecursion (λ x. P (f x)) xs
  each-mapped P f [] all = tt
  each-mapped P f (x ∷ xs) all = (all.0, each-mapped P f xs all.1)

  pub each-at : (P : X → Type 0) (xs : List X) (i : ℕ) (d : X) → i < length xs → AllByRecursion P xs → P (get_or xs i d)
  each-at P [] i d h all = absurd (omega arith)
  each-at P (x ∷ xs) zero d h all = all.0
  each-at P (x ∷ xs) (suc i) d h all = each-at P xs i d (omega arith) all.1

  pub each-there : (P : X → Type 0) (xs : List X) (i : ℕ) (x : X) → AllByRecursion P xs → slice_get xs i ≡ Some x → P x
  each-there P xs i x all at = subst P (get_or_from_slice_get xs i x x at) (each-at P xs i x (slice_get_within xs i x at) all)

pub each_member : (P : ℕ → Type 0) (ns : List ℕ) → ((n : ℕ) → list_any (λ m. eqb m n) ns ≡ true → P n) → AllByRecursion P ns
each_member P ns all = recursion_from_All P ns (All-from_has P ns all)

pub each_other : (n : ℕ) (ns : List ℕ) → list_any (λ m. eqb m n) ns ≡ false → AllByRecursion (λ m. n ≡ m → ⊥) ns
each_other n ns none = grind (arith, each_member)
