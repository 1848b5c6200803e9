-- What edits of entries are to their listing.
use Rattle.std.proofs.Common.{◌≡◌, ℕ, suc, length, List, [], ◌∷◌, Bool, true, false, cond, Some, None, ltb, refl, ap}
use Rattle.hsm_types.specs.declared.keys.FileKey.{FileKey}
use Rattle.hsm_types.specs.Keyed.{same_key, find_key, change_key, put_key, drop_key}
use Rattle.hsm_types.specs.Listing.{Listed}
use Rattle.inode_table.specs.declared.entries.FileEntry.{FileEntry}
use Rattle.inode_table.specs.Listing.{listed, listing}

pub length-listing : (es : List FileEntry) → length (listing es) ≡ length es
length-listing [] = refl
length-listing (f ∷ es) = ap (λ n. suc n) (length-listing es)

chosen : (b : Bool) (x y : List FileEntry) (u v : List Listed) → listing x ≡ u → listing y ≡ v → listing (cond b x y) ≡ cond b u v
chosen true x y u v p q = p
chosen false x y u v p q = q

pub listing-put : (e : FileEntry) (es : List FileEntry) → listing (put_key (λ f. f.key) e es) ≡ put_key (λ l. l.key) (listed e) (listing es)
listing-put e [] = refl
listing-put e (f ∷ es) = chosen (ltb e.key.ino f.key.ino) (e ∷ f ∷ es) (f ∷ put_key (λ g. g.key) e es) _ _ refl (ap (λ ls. listed f ∷ ls) (listing-put e es))

pub listing-drop : (k : FileKey) (es : List FileEntry) → listing (drop_key (λ f. f.key) k es) ≡ drop_key (λ l. l.key) k (listing es)
listing-drop k [] = refl
listing-drop k (f ∷ es) = chosen (same_key f.key k) es (f ∷ drop_key (λ g. g.key) k es) _ _ refl (ap (λ ls. listed f ∷ ls) (listing-drop k es))

pub listing-change : (k : FileKey) (size : ℕ) (es : List FileEntry) → listing (change_key (λ f. f.key) k (λ f. record f { size = size }) es) ≡ listing es
listing-change k size [] = refl
listing-change k size (f ∷ es) =
    elim (same_key f.key k) as (λ b. listing (cond b (record f { size = size } ∷ es) (f ∷ change_key (λ g. g.key) k (λ g. record g { size = size }) es)) ≡ listing (f ∷ es)) [
      | true ↦ refl
      | false ↦ ap (λ ls. listed f ∷ ls) (listing-change k size es)
    ]

pub found-listed : (k : FileKey) (f : FileEntry) (es : List FileEntry) → find_key (λ g. g.key) k es ≡ Some f → find_key (λ l. l.key) k (listing es) ≡ Some (listed f)
found-listed k f [] found = cc
found-listed k f (x ∷ es) found =
    elim (same_key x.key k) as (λ b. cond b (Some x) (find_key (λ g. g.key) k es) ≡ Some f → cond b (Some (listed x)) (find_key (λ l. l.key) k (listing es)) ≡ Some (listed f)) [
      | true ↦ λ is. let e : x ≡ f = cc in ap (λ (g : FileEntry). Some (listed g)) e
      | false ↦ λ is. found-listed k f es is
    ] found

-- where no file has the key, none is taken out
pub drop-absent : (k : FileKey) (es : List FileEntry) → find_key (λ g. g.key) k es ≡ None → drop_key (λ g. g.key) k es ≡ es
drop-absent k [] none = refl
drop-absent k (x ∷ es) none =
    elim (same_key x.key k) as (λ b. cond b (Some x) (find_key (λ g. g.key) k es) ≡ None → cond b es (x ∷ drop_key (λ g. g.key) k es) ≡ x ∷ es) [
      | true ↦ λ is. cc
      | false ↦ λ is. ap (λ fs. x ∷ fs) (drop-absent k es is)
    ] none
