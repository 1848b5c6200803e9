-- Files by name, after one more and after one less.
use Rattle.std.proofs.Common.{◌≡◌, ℕ, List, [], ◌∷◌, Bool, true, false, cond, Option, Some, None, ltb, refl, sym, ◌∙◌, ap, subst}
use Rattle.std.proofs.lemmas.Bool.{cond_both, cond-false, false_from_ne_true}
use Rattle.std.proofs.lemmas.Slice.Eq.{bytes_eq-Decides}
use Rattle.std.specs.Str.{bytes_eq}
use Rattle.hsm_types.specs.declared.keys.FileKey.{FileKey}
use Rattle.hsm_types.specs.Keyed.{same_key, find_key, put_key, drop_key}
use Rattle.hsm_types.specs.Listing.{Listed, named}
use Rattle.inode_table.specs.Listing.{Differ}
use Rattle.inode_table.proofs.Choices.{none_of, other_order}

-- no test for two different names holds of one
one_name : (x y q : List ℕ) → bytes_eq x q ≡ true → bytes_eq y q ≡ true → bytes_eq x y ≡ true
one_name x y q a b = (bytes_eq-Decides x y).1 ((bytes_eq-Decides x q).0 a ∙ sym ((bytes_eq-Decides y q).0 b))

turned : (x y : List ℕ) → bytes_eq x y ≡ false → bytes_eq y x ≡ false
turned x y differs = false_from_ne_true (bytes_eq y x) (λ yes. let is = (bytes_eq-Decides x y).1 (sym ((bytes_eq-Decides y x).0 yes)) in cc)

pub named-put : (l : Listed) (ls : List Listed) (q : List ℕ) → named l.name ls ≡ None → named q (put_key (λ x. x.key) l ls) ≡ cond (bytes_eq l.name q) (Some l) (named q ls)
named-put l [] q new = refl
named-put l (x ∷ ls) q new =
    let parts = none_of (bytes_eq x.name l.name) x (named l.name ls) new in
    let P : List Listed → Type 0 = λ r. named q r ≡ cond (bytes_eq l.name q) (Some l) (named q (x ∷ ls)) in
    cond_both (ltb l.key.ino x.key.ino) (l ∷ x ∷ ls) (x ∷ put_key (λ y. y.key) l ls) P
    (λ before. refl)
    (λ after. ap (λ (o : Option Listed). cond (bytes_eq x.name q) (Some x) o) (named-put l ls q parts.1)
    ∙ other_order (bytes_eq x.name q) (bytes_eq l.name q) (Some x) (Some l) (named q ls) (λ a b. let one = one_name x.name l.name q a b in let differs = parts.0 in cc))

pub differ-put : (l : Listed) (ls : List Listed) → Differ ls → named l.name ls ≡ None → Differ (put_key (λ x. x.key) l ls)
differ-put l [] d new = (refl, tt)
differ-put l (x ∷ ls) d new =
    let parts = none_of (bytes_eq x.name l.name) x (named l.name ls) new in
    let P : List Listed → Type 0 = λ r. Differ r in
    cond_both (ltb l.key.ino x.key.ino) (l ∷ x ∷ ls) (x ∷ put_key (λ y. y.key) l ls) P
    (λ before. (new, d))
    (λ after. (named-put l ls x.name parts.1 ∙ cond-false (bytes_eq l.name x.name) (Some l) (named x.name ls) (turned x.name l.name parts.0) ∙ d.0, differ-put l ls d.1 parts.1))

-- a file that is found by key has a name
pub found-named : (k : FileKey) (f : Listed) (ls : List Listed) → find_key (λ x. x.key) k ls ≡ Some f → named f.name ls ≡ None → ⊥
found-named k f [] found none = cc
found-named k f (x ∷ ls) found none =
    let parts = none_of (bytes_eq x.name f.name) x (named f.name ls) none in
    let P : Option Listed → Type 0 = λ o. o ≡ Some f → ⊥ in
    cond_both (same_key x.key k) (Some x) (find_key (λ y. y.key) k ls) P
    (λ same is. let e : x.name ≡ f.name = cc in let yes = (bytes_eq-Decides x.name f.name).1 e in let differs = parts.0 in cc)
    (λ other is. found-named k f ls is parts.1) found

once : {X : Type 0} (b : Bool) (u o : Option X) → (b ≡ true → o ≡ None) → o ≡ cond b None (cond b u o)
once true u o none = none refl
once false u o none = refl

pub named-drop : (k : FileKey) (f : Listed) (ls : List Listed) (q : List ℕ) → Differ ls → find_key (λ x. x.key) k ls ≡ Some f → named q (drop_key (λ x. x.key) k ls) ≡ cond (bytes_eq f.name q) None (named q ls)
named-drop k f [] q d found = cc
named-drop k f (x ∷ ls) q d found =
    let N : List ℕ → Type 0 = λ n. named n ls ≡ None in
    let G : Listed → Type 0 = λ g. named q ls ≡ cond (bytes_eq g.name q) None (named q (x ∷ ls)) in
    elim (same_key x.key k) as (λ b. cond b (Some x) (find_key (λ y. y.key) k ls) ≡ Some f → named q (cond b ls (x ∷ drop_key (λ y. y.key) k ls)) ≡ cond (bytes_eq f.name q) None (named q (x ∷ ls))) [
      | true ↦ λ is.
          let e : x ≡ f = cc in
          subst G e (once (bytes_eq x.name q) (Some x) (named q ls) (λ yes. subst N ((bytes_eq-Decides x.name q).0 yes) d.0))
      | false ↦ λ is.
          ap (λ (o : Option Listed). cond (bytes_eq x.name q) (Some x) o) (named-drop k f ls q d.1 is)
          ∙ other_order (bytes_eq x.name q) (bytes_eq f.name q) (Some x) None (named q ls) (λ a b. found-named k f ls is (subst N ((bytes_eq-Decides x.name f.name).0 (one_name x.name f.name q a b)) d.0))
    ] found

nameless-drop : (k : FileKey) (ls : List Listed) (q : List ℕ) → named q ls ≡ None → named q (drop_key (λ x. x.key) k ls) ≡ None
nameless-drop k [] q none = refl
nameless-drop k (x ∷ ls) q none =
    let parts = none_of (bytes_eq x.name q) x (named q ls) none in
    let P : List Listed → Type 0 = λ r. named q r ≡ None in
    cond_both (same_key x.key k) ls (x ∷ drop_key (λ y. y.key) k ls) P
    (λ same. parts.1)
    (λ other. cond-false (bytes_eq x.name q) (Some x) (named q (drop_key (λ y. y.key) k ls)) parts.0 ∙ nameless-drop k ls q parts.1)

pub differ-drop : (k : FileKey) (ls : List Listed) → Differ ls → Differ (drop_key (λ x. x.key) k ls)
differ-drop k [] d = tt
differ-drop k (x ∷ ls) d =
    let P : List Listed → Type 0 = λ r. Differ r in
    cond_both (same_key x.key k) ls (x ∷ drop_key (λ y. y.key) k ls) P (λ same. d.1) (λ other. (nameless-drop k ls x.name d.0, differ-drop k ls d.1))
