-- Lists in two parts: what is so of both, and lists that begin alike.
use Rattle.std.proofs.Common.{◌≡◌, ◌∷◌, ◌++◌, [], List, length, drop, All, refl, ap, subst}
use Rattle.std.specs.Prelude.{slice_get}
use Rattle.std.proofs.lemmas.List.{take_at, drop_at}
use Rattle.std.proofs.lemmas.List.Elements.{All-take, All-drop}
use Rattle.std.proofs.lemmas.Option.{none-some, same_Some}

pub all_first : {X : Type 0} (P : X → Type 0) (xs ys : List X) → All P (xs ++ ys) → All P xs
all_first P xs ys all = subst (λ (l : List _). All P l) (take_at xs ys (length xs) refl) (All-take P (length xs) (xs ++ ys) all)

pub all_rest : {X : Type 0} (P : X → Type 0) (xs ys : List X) → All P (xs ++ ys) → All P ys
all_rest P xs ys all = subst (λ (l : List _). All P l) (drop_at xs ys (length xs) refl) (All-drop P (length xs) (xs ++ ys) all)

pub same_head : {X : Type 0} (x y : X) (xs ys : List X) → x ∷ xs ≡ y ∷ ys → x ≡ y
same_head x y xs ys is = same_Some x y (ap (λ (l : List _). slice_get l 0) is)

pub same_tail : {X : Type 0} (x y : X) (xs ys : List X) → x ∷ xs ≡ y ∷ ys → xs ≡ ys
same_tail x y xs ys is = ap (λ (l : List _). drop 1 l) is

pub nil-cons : {X : Type 0} (x : X) (xs : List X) → [] ≡ x ∷ xs → ⊥
nil-cons x xs is = none-some x (ap (λ (l : List _). slice_get l 0) is)
