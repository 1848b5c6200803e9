-- What is true of each of a list: of two lists together, of a weaker statement, and of the one at a place.
use Rattle.std.proofs.Common.{◌≡◌, ℕ, zero, suc, List, [], ◌∷◌, ◌++◌, map, Some, subst}
use Rattle.std.specs.List.{slice_get, AllByRecursion}

pub all-both : {X : Type 0} (P : X → Type 0) (xs ys : List X) → AllByRecursion P xs → AllByRecursion P ys → AllByRecursion P (xs ++ ys)
all-both P [] ys p q = q
all-both P (x ∷ xs) ys p q = (p.0, all-both P xs ys p.1 q)

pub all-parts : {X : Type 0} (P : X → Type 0) (xs ys : List X) → AllByRecursion P (xs ++ ys) → AllByRecursion P xs × AllByRecursion P ys
all-parts P [] ys all = (tt, all)
all-parts P (x ∷ xs) ys all = let more = all-parts P xs ys all.1 in ((all.0, more.0), more.1)

pub each-as : {X : Type 0} (P Q : X → Type 0) (xs : List X) → ((x : X) → P x → Q x) → AllByRecursion P xs → AllByRecursion Q xs
each-as P Q [] to each = tt
each-as P Q (x ∷ xs) to each = (to x each.0, each-as P Q xs to each.1)

pub each-and : {X : Type 0} (P Q : X → Type 0) (xs : List X) → AllByRecursion P xs → AllByRecursion Q xs → AllByRecursion (λ x. P x × Q x) xs
each-and P Q [] p q = tt
each-and P Q (x ∷ xs) p q = ((p.0, q.0), each-and P Q xs p.1 q.1)

pub each-map : {X Y : Type 0} (P : Y → Type 0) (f : X → Y) (xs : List X) → AllByRecursion (λ x. P (f x)) xs → AllByRecursion P (map f xs)
each-map P f [] each = tt
each-map P f (x ∷ xs) each = (each.0, each-map P f xs each.1)

pub map-each : {X Y : Type 0} (P : Y → Type 0) (f : X → Y) (xs : List X) → AllByRecursion P (map f xs) → AllByRecursion (λ x. P (f x)) xs
map-each P f [] each = tt
map-each P f (x ∷ xs) each = (each.0, map-each P f xs each.1)

pub each-got : {X : Type 0} (P : X → Type 0) (xs : List X) (i : ℕ) (x : X) → AllByRecursion P xs → slice_get xs i ≡ Some x → P x
each-got P [] i x each at = cc
each-got P (y ∷ xs) zero x each at = let it : y ≡ x = cc in subst P it each.0
each-got P (y ∷ xs) (suc i) x each at = each-got P xs i x each.1 at
