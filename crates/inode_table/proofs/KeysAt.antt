-- Keys by their inodes.
use Rattle.std.proofs.Common.{◌≡◌, ◌+◌, ◌<◌, ℕ, zero, suc, List, [], ◌∷◌, length, get_or, true, false, cond, Option, Some, None, eqb, refl, subst, arith}
use Rattle.std.specs.Prelude.{IsSome}
use Rattle.std.proofs.lemmas.Bool.{cond_both, and_from, and_parts, eqb-true, eq-eqb, ne_eqb, ltb-true, ltb-false}
use Rattle.hsm_types.specs.declared.keys.FileKey.{FileKey}
use Rattle.hsm_types.specs.Keyed.{same_key, find_key}
use Rattle.hsm_types.specs.Listing.{Listed}
use Rattle.inode_table.specs.declared.entries.FileEntry.{FileEntry}
use Rattle.inode_table.specs.Listing.{listing, key_at, Ascend}
use Rattle.inode_table.specs.Places.{Cuts, StandsAt}
use Rattle.inode_table.proofs.PlacesOfFiles.{other_inode}

-- ---- from the place of an inode

pub cuts-key : (ino i : ℕ) (d : FileEntry) (es : List FileEntry) → Cuts ino i es → i < length es → (get_or es i d).key.ino ≡ ino → key_at ino (listing es) ≡ Some (get_or es i d).key
cuts-key ino i d [] c lt is = absurd (omega arith)
cuts-key ino zero d (f ∷ es) c lt is = rw (eq-eqb f.key.ino ino is) refl
cuts-key ino (suc i) d (f ∷ es) c lt is =
    let below = ltb-true f.key.ino ino c.0 in
    let other : eqb f.key.ino ino ≡ false = ne_eqb f.key.ino ino (λ e. absurd (omega arith)) in
    rw other (cuts-key ino i d es c.1 (omega arith) is)

none-below : (n ino : ℕ) (ls : List Listed) → Ascend n ls → ino < n → key_at ino ls ≡ None
none-below n ino [] a lt = refl
none-below n ino (l ∷ ls) a lt =
    let low = a.0 in
    let other : eqb l.key.ino ino ≡ false = ne_eqb l.key.ino ino (λ e. absurd (omega arith)) in
    rw other (none-below (l.key.ino + 1) ino ls a.1 (omega arith))

pub cuts-no_key : (n ino i : ℕ) (d : FileEntry) (es : List FileEntry) → Ascend n (listing es) → Cuts ino i es → (i < length es → (get_or es i d).key.ino ≡ ino → ⊥) → key_at ino (listing es) ≡ None
cuts-no_key n ino zero d [] a c unlike = refl
cuts-no_key n ino zero d (f ∷ es) a c unlike =
    let from = ltb-false f.key.ino ino c in
    let differs : f.key.ino ≡ ino → ⊥ = unlike (omega arith) in
    let other : eqb f.key.ino ino ≡ false = ne_eqb f.key.ino ino differs in
    rw other (none-below (f.key.ino + 1) ino (listing es) a.1 (omega arith))
cuts-no_key n ino (suc i) d [] a c unlike = absurd c
cuts-no_key n ino (suc i) d (f ∷ es) a c unlike =
    let below = ltb-true f.key.ino ino c.0 in
    let other : eqb f.key.ino ino ≡ false = ne_eqb f.key.ino ino (λ e. absurd (omega arith)) in
    rw other (cuts-no_key (f.key.ino + 1) ino i d es a.1 c.1 (λ lt. unlike (omega arith)))

-- ---- among files in the order of their inodes, a live key is the one at its inode

same_itself : (k : FileKey) → same_key k k ≡ true
same_itself k = and_from (eqb k.ino k.ino) (eqb k.igen k.igen) (eq-eqb k.ino k.ino refl) (eq-eqb k.igen k.igen refl)

same_keys : (j k : FileKey) → same_key j k ≡ true → j ≡ k
same_keys j k same =
    let parts = and_parts (eqb j.ino k.ino) (eqb j.igen k.igen) same in
    let ino = eqb-true j.ino k.ino parts.0 in
    let igen = eqb-true j.igen k.igen parts.1 in
    rw (ino, igen) refl

pub found-key_at : (n : ℕ) (key : FileKey) (l : Listed) (ls : List Listed) → Ascend n ls → find_key (λ x. x.key) key ls ≡ Some l → key_at key.ino ls ≡ Some key
found-key_at n key l [] a found = cc
found-key_at n key l (x ∷ ls) a found =
    let P : FileKey → Type 0 = λ k. key_at k.ino (x ∷ ls) ≡ Some k in
    let Q : Option FileKey → Type 0 = λ o. o ≡ Some key in
    elim (same_key x.key key) as (λ b. same_key x.key key ≡ b → cond b (Some x) (find_key (λ y. y.key) key ls) ≡ Some l → P key) [
      | true ↦ λ same is. subst P (same_keys x.key key same) (rw (eq-eqb x.key.ino x.key.ino refl) refl)
      | false ↦ λ other is.
          let later = found-key_at (x.key.ino + 1) key l ls a.1 is in
          cond_both (eqb x.key.ino key.ino) (Some x.key) (key_at key.ino ls) Q
          (λ here. let at = eqb-true x.key.ino key.ino here in let none = none-below (x.key.ino + 1) key.ino ls a.1 (omega arith) in cc)
          (λ apart. later)
    ] refl found

pub key_at-found : (ino : ℕ) (key : FileKey) (ls : List Listed) → key_at ino ls ≡ Some key → (key.ino ≡ ino) × IsSome (find_key (λ l. l.key) key ls)
key_at-found ino key [] is = cc
key_at-found ino key (x ∷ ls) is =
    let P : FileKey → Type 0 = λ k. (k.ino ≡ ino) × IsSome (find_key (λ l. l.key) k (x ∷ ls)) in
    let Q : Option Listed → Type 0 = λ o. IsSome o in
    elim (eqb x.key.ino ino) as (λ b. eqb x.key.ino ino ≡ b → cond b (Some x.key) (key_at ino ls) ≡ Some key → P key) [
      | true ↦ λ here is. let it : x.key ≡ key = cc in subst P it (eqb-true x.key.ino ino here, rw (same_itself x.key) refl)
      | false ↦ λ other is.
          let later = key_at-found ino key ls is in
          (later.0, cond_both (same_key x.key key) (Some x) (find_key (λ l. l.key) key ls) Q (λ same. refl) (λ apart. later.1))
    ] refl is

-- a key that is there
pub there : (o : Option FileKey) → IsSome o → (k : FileKey) × (o ≡ Some k)
there o some = grind arith

-- the file with that inode stands before which the inode does
pub keyed-stands : (n ino i : ℕ) (key : FileKey) (es : List FileEntry) → Ascend n (listing es) → Cuts ino i es → key_at ino (listing es) ≡ Some key → (i < length es) × StandsAt key i es
keyed-stands n ino zero key [] a c is = cc
keyed-stands n ino (suc i) key [] a c is = absurd c
keyed-stands n ino zero key (f ∷ es) a c is =
    let from = ltb-false f.key.ino ino c in
    let here : same_key f.key key ≡ true = elim (eqb f.key.ino ino) as (λ b. cond b (Some f.key) (key_at ino (listing es)) ≡ Some key → same_key f.key key ≡ true) [
      | true ↦ λ it. let one : f.key ≡ key = cc in subst (λ (k : FileKey). same_key f.key k ≡ true) one (same_itself f.key)
      | false ↦ λ later. let none = none-below (f.key.ino + 1) ino (listing es) a.1 (omega arith) in cc
    ] is in
    (omega arith, here)
keyed-stands n ino (suc i) key (f ∷ es) a c is =
    let below = ltb-true f.key.ino ino c.0 in
    let other : eqb f.key.ino ino ≡ false = ne_eqb f.key.ino ino (λ e. absurd (omega arith)) in
    let later = rw other at is in
    let at = (key_at-found ino key (listing es) later).0 in
    let rest = keyed-stands (f.key.ino + 1) ino i key es a.1 c.1 later in
    (omega (arith, rest.0), (other_inode f.key key (λ e. absurd (omega (arith, at))), rest.1))
