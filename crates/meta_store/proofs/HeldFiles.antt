-- Edits of the table and of the array of parts are edits of the catalog.
use Rattle.std.proofs.Common.{◌≡◌, ℕ, ◌+◌, ◌-◌, ◌≤◌, List, [], ◌∷◌, length, map, get_or, set, true, false, cond, Some, refl, ap, ◌∙◌, arith, get_or-set_same, get_or-set_other}
use Rattle.hsm_types.specs.declared.keys.FileKey.{FileKey}
use Rattle.hsm_types.specs.Keyed.{same_key, find_key, change_key, put_key}
use Rattle.inode_table.specs.declared.entries.FileEntry.{FileEntry}
use Rattle.inode_table.specs.Listing.{listing, has_inode, Ascend, Within}
use Rattle.inode_table.specs.Table.{entry_of}
use Rattle.inode_table.proofs.Orders.{absent-low}
use Rattle.snapshot_text.specs.Files.{CatalogFile}
use Rattle.meta_store.specs.Catalogs.{names_of}
use Rattle.snapshot_text.specs.declared.file_parts.FileParts.{FileParts}
use Rattle.snapshot_text.specs.Parts.{no_parts, file_of}
use Rattle.meta_store.specs.InMemory.{file_held, files_held}
use Rattle.meta_store.proofs.FileEdits.{map-put}
use Rattle.meta_store.proofs.FoundFiles.{same_keys}

pub names_of-held : (ps : List FileParts) (es : List FileEntry) → names_of (files_held ps es) ≡ listing es
names_of-held ps [] = refl
names_of-held ps (e ∷ es) = rw (names_of-held ps es) refl

pub entries-held : (ps : List FileParts) (es : List FileEntry) → map (λ f. entry_of f.key f.name f.size) (files_held ps es) ≡ es
entries-held ps [] = refl
entries-held ps (e ∷ es) = rw (entries-held ps es) refl

-- The parts of the other inodes stay.
held-other : (ps : List FileParts) (n ino : ℕ) (x : FileParts) (es : List FileEntry) → 1 ≤ ino → 1 ≤ n → Ascend n (listing es) → has_inode ino (listing es) ≡ false → files_held (set ps (ino - 1) x) es ≡ files_held ps es
held-other ps n ino x [] low from a free = refl
held-other ps n ino x (e ∷ es) low from a free =
    let here : get_or (set ps (ino - 1) x) (e.key.ino - 1) no_parts ≡ get_or ps (e.key.ino - 1) no_parts = get_or-set_other ps (ino - 1) (e.key.ino - 1) x no_parts (λ same. grind (arith, a.0)) in
    rw (here, held-other ps (e.key.ino + 1) ino x es low (omega arith) a.1 (grind arith)) refl

-- The file that is put has the parts that are set for its inode.
pub held-put_at : (ps : List FileParts) (e : FileEntry) (x : FileParts) (es : List FileEntry) → 1 ≤ e.key.ino → e.key.ino ≤ length ps → Ascend 1 (listing es) → has_inode e.key.ino (listing es) ≡ false
    → files_held (set ps (e.key.ino - 1) x) (put_key (λ f. f.key) e es) ≡ put_key (λ f. f.key) (file_of e.key e.name e.size x) (files_held ps es)
held-put_at ps e x es low high a free =
    let here : get_or (set ps (e.key.ino - 1) x) (e.key.ino - 1) no_parts ≡ x = get_or-set_same ps (e.key.ino - 1) x no_parts (omega arith) in
    map-put (λ (f : CatalogFile). f.key) (file_held (set ps (e.key.ino - 1) x)) e es ∙ rw (here, held-other ps 1 e.key.ino x es low (omega arith) a free) refl

-- its key, and the bounds of its inode
pub found-within : (n limit next : ℕ) (k : FileKey) (e : FileEntry) (es : List FileEntry) → Ascend n (listing es) → Within limit next (listing es) → find_key (λ x. x.key) k es ≡ Some e → (e.key ≡ k) × (n ≤ k.ino) × (k.ino ≤ limit)
found-within n limit next k e [] a w found = cc
found-within n limit next k e (f ∷ es) a w found = grind (arith, same_keys f.key k, found-within (f.key.ino + 1) limit next k e es a.1 w.2)

-- Its size and its parts are set to those of the changed file.
pub held-change : (ps : List FileParts) (n limit next : ℕ) (k : FileKey) (to : CatalogFile → CatalogFile) (e : FileEntry) (x : FileParts) (size : ℕ) (es : List FileEntry) → 1 ≤ n → limit ≤ length ps → Ascend n (listing es) → Within limit next (listing es)
    → find_key (λ f. f.key) k es ≡ Some e → to (file_held ps e) ≡ file_of e.key e.name size x
    → files_held (set ps (k.ino - 1) x) (change_key (λ f. f.key) k (λ f. record f { size = size }) es) ≡ change_key (λ f. f.key) k to (files_held ps es)
held-change ps n limit next k to e x size [] from high a w found is = cc
held-change ps n limit next k to e x size (f ∷ es) from high a w found is =
    let keys = same_keys f.key k in
    let own = λ (mine : f.key.ino ≡ k.ino). get_or-set_same ps (k.ino - 1) x no_parts (omega (arith, a.0, w.0)) in
    let stay = λ (mine : f.key.ino ≡ k.ino). held-other ps (f.key.ino + 1) k.ino x es (omega (arith, a.0)) (omega arith) a.1 (absent-low k.ino (f.key.ino + 1) (listing es) a.1 (omega arith)) in
    let later = λ (there : find_key (λ g. g.key) k es ≡ Some e). held-change ps (f.key.ino + 1) limit next k to e x size es (omega arith) high a.1 w.2 there is in
    let apart = λ (there : find_key (λ g. g.key) k es ≡ Some e). let above = (found-within (f.key.ino + 1) limit next k e es a.1 w.2 there).1 in get_or-set_other ps (k.ino - 1) (f.key.ino - 1) x no_parts (λ same. absurd (omega (arith, a.0, above))) in
    grind (arith, keys, own, stay, later, apart)

-- a file whose size becomes what it is
pub change-same : (k : FileKey) (e : FileEntry) (es : List FileEntry) → find_key (λ f. f.key) k es ≡ Some e → change_key (λ f. f.key) k (λ f. record f { size = e.size }) es ≡ es
change-same k e [] found = refl
change-same k e (f ∷ es) found =
    elim (same_key f.key k) as (λ b. cond b (Some f) (find_key (λ g. g.key) k es) ≡ Some e → cond b (record f { size = e.size } ∷ es) (f ∷ change_key (λ g. g.key) k (λ g. record g { size = e.size }) es) ≡ f ∷ es) [
      | true ↦ λ is. let it : e ≡ f = cc in ap (λ (g : FileEntry). record f { size = g.size } ∷ es) it
      | false ↦ λ is. ap (λ (fs : List FileEntry). f ∷ fs) (change-same k e es is)
    ] found
