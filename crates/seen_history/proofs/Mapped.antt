-- Lists of files of which each is mapped to what is known of it.
use Rattle.std.proofs.Common.{◌≡◌, List, [], ◌∷◌, map, Bool, true, false, Option, Some, None, refl, ap}
use Rattle.std.specs.Prelude.{nat_lt, if◌then◌else◌, IfSome}
use Rattle.std.specs.List.{AllByRecursion}
use Rattle.std.specs.Option.{option_map}
use Rattle.hsm_types.specs.declared.keys.FileKey.{FileKey}
use Rattle.hsm_types.specs.Keyed.{same_key, find_key, change_key, put_key, drop_key}

-- ---- what is known follows what is done

find_if : {F G : Type 0} (of : F → G) (b : Bool) (f : F) (x : Option F) (y : Option G) → y ≡ option_map of x → (if b then Some (of f) else y) ≡ option_map of (if b then Some f else x)
find_if of true f x y rest = refl
find_if of false f x y rest = rest

pub find_mapped : {F G : Type 0} (key : G → FileKey) (of : F → G) (k : FileKey) (fs : List F) → find_key key k (map of fs) ≡ option_map of (find_key (λ f. key (of f)) k fs)
find_mapped key of k [] = refl
find_mapped key of k (f ∷ fs) = find_if of (same_key (key (of f)) k) f (find_key (λ x. key (of x)) k fs) (find_key key k (map of fs)) (find_mapped key of k fs)

map_if : {F G : Type 0} (of : F → G) (b : Bool) (x y : List F) (u v : List G) → map of x ≡ u → map of y ≡ v → map of (if b then x else y) ≡ (if b then u else v)
map_if of true x y u v here there = here
map_if of false x y u v here there = there

pub put_mapped : {F G : Type 0} (key : G → FileKey) (of : F → G) (g : F) (fs : List F) → map of (put_key (λ f. key (of f)) g fs) ≡ put_key key (of g) (map of fs)
put_mapped key of g [] = refl
put_mapped key of g (f ∷ fs) =
    map_if of (nat_lt (key (of g)).ino (key (of f)).ino) (g ∷ f ∷ fs) (f ∷ put_key (λ x. key (of x)) g fs) (of g ∷ of f ∷ map of fs) (of f ∷ put_key key (of g) (map of fs)) refl
    (ap (λ xs. of f ∷ xs) (put_mapped key of g fs))

pub drop_mapped : {F G : Type 0} (key : G → FileKey) (of : F → G) (k : FileKey) (fs : List F) → map of (drop_key (λ f. key (of f)) k fs) ≡ drop_key key k (map of fs)
drop_mapped key of k [] = refl
drop_mapped key of k (f ∷ fs) =
    map_if of (same_key (key (of f)) k) fs (f ∷ drop_key (λ x. key (of x)) k fs) (map of fs) (of f ∷ drop_key key k (map of fs)) refl (ap (λ xs. of f ∷ xs) (drop_mapped key of k fs))

change_if : {F G : Type 0} (of : F → G) (change : F → F) (known : G → G) (b : Bool) (f : F) (o : Option F) (fs there : List F) (gs : List G)
    → IfSome (if b then Some f else o) (λ x. of (change x) ≡ known (of x)) → (IfSome o (λ x. of (change x) ≡ known (of x)) → map of there ≡ gs)
    → map of (if b then change f ∷ fs else f ∷ there) ≡ (if b then known (of f) ∷ map of fs else of f ∷ gs)
change_if of change known true f o fs there gs same later = ap (λ x. x ∷ map of fs) same
change_if of change known false f o fs there gs same later = ap (λ xs. of f ∷ xs) (later same)

-- where it does so of the file with the key
pub change_mapped : {F G : Type 0} (key : G → FileKey) (of : F → G) (k : FileKey) (change : F → F) (known : G → G) (fs : List F)
    → IfSome (find_key (λ f. key (of f)) k fs) (λ f. of (change f) ≡ known (of f)) → map of (change_key (λ f. key (of f)) k change fs) ≡ change_key key k known (map of fs)
change_mapped key of k change known [] same = refl
change_mapped key of k change known (f ∷ fs) same =
    change_if of change known (same_key (key (of f)) k) f (find_key (λ x. key (of x)) k fs) fs (change_key (λ x. key (of x)) k change fs) (change_key key k known (map of fs)) same
    (change_mapped key of k change known fs)

kept_if : {G : Type 0} (known : G → G) (b : Bool) (g : G) (gs there : List G) → known g ≡ g → there ≡ gs → (if b then known g ∷ gs else g ∷ there) ≡ g ∷ gs
kept_if known true g gs there here rest = ap (λ x. x ∷ gs) here
kept_if known false g gs there here rest = ap (λ xs. g ∷ xs) rest

-- a change that leaves each as it is
pub change_kept : {G : Type 0} (key : G → FileKey) (k : FileKey) (known : G → G) (gs : List G) → ((g : G) → known g ≡ g) → change_key key k known gs ≡ gs
change_kept key k known [] same = refl
change_kept key k known (g ∷ gs) same = kept_if known (same_key (key g) k) g gs (change_key key k known gs) (same g) (change_kept key k known gs same)

pub some_mapped : {F G : Type 0} (of : F → G) (P : G → Type 0) (o : Option F) → IfSome (option_map of o) P → IfSome o (λ f. P (of f))
some_mapped of P None is = tt
some_mapped of P (Some f) is = is

pub mapped_some : {F G : Type 0} (of : F → G) (P : G → Type 0) (o : Option F) → IfSome o (λ f. P (of f)) → IfSome (option_map of o) P
mapped_some of P None is = tt
mapped_some of P (Some f) is = is

-- ---- what is so of all of them

module _ {F : Type 0} (P : F → Type 0) where
  all_if : (b : Bool) (x y : List F) → AllByRecursion P x → AllByRecursion P y → AllByRecursion P (if b then x else y)
  all_if true x y here there = here
  all_if false x y here there = there

  pub put_all : (key : F → FileKey) (g : F) (fs : List F) → P g → AllByRecursion P fs → AllByRecursion P (put_key key g fs)
  put_all key g [] is all = (is, tt)
  put_all key g (f ∷ fs) is all = all_if (nat_lt (key g).ino (key f).ino) (g ∷ f ∷ fs) (f ∷ put_key key g fs) (is, all) (all.0, put_all key g fs is all.1)

  pub drop_all : (key : F → FileKey) (k : FileKey) (fs : List F) → AllByRecursion P fs → AllByRecursion P (drop_key key k fs)
  drop_all key k [] all = tt
  drop_all key k (f ∷ fs) all = all_if (same_key (key f) k) fs (f ∷ drop_key key k fs) all.1 (all.0, drop_all key k fs all.1)

  changed_if : (Q : F → Type 0) (change : F → F) (b : Bool) (f : F) (o : Option F) (fs there : List F) → ((x : F) → Q x → P x → P (change x)) → IfSome (if b then Some f else o) Q → P f → AllByRecursion P fs
      → (IfSome o Q → AllByRecursion P there) → AllByRecursion P (if b then change f ∷ fs else f ∷ there)
  changed_if Q change true f o fs there each fits here all later = (each f fits here, all)
  changed_if Q change false f o fs there each fits here all later = (here, later fits)

  pub change_all : (Q : F → Type 0) (key : F → FileKey) (k : FileKey) (change : F → F) (fs : List F) → ((x : F) → Q x → P x → P (change x)) → IfSome (find_key key k fs) Q → AllByRecursion P fs → AllByRecursion P (change_key key k change fs)
  change_all Q key k change [] each fits all = tt
  change_all Q key k change (f ∷ fs) each fits all =
      changed_if Q change (same_key (key f) k) f (find_key key k fs) fs (change_key key k change fs) each fits all.0 all.1 (λ later. change_all Q key k change fs each later all.1)
