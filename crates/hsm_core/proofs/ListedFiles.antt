-- The files as the table of a catalog lists them.
use Rattle.std.proofs.Common.{◌≡◌, List, [], ◌∷◌, Bool, true, false, Option, Some, None, refl, sym, ◌∙◌, ap}
use Rattle.std.specs.Prelude.{map, is_some, if◌then◌else◌}
use Rattle.std.specs.Option.{option_map}
use Rattle.hsm_types.specs.declared.keys.FileKey.{FileKey}
use Rattle.hsm_types.specs.Keyed.{same_key, find_key}
use Rattle.plain_model.specs.Plain.{Listed}
use Rattle.plain_model.specs.State.{Held}
use Rattle.inode_table.specs.declared.entries.FileEntry.{FileEntry}
use Rattle.inode_table.specs.Listing.{listing}
use Rattle.inode_table.specs.Table.{entry_of}
use Rattle.snapshot_text.specs.Files.{CatalogFile}
use Rattle.meta_store.specs.Catalogs.{Catalog, names_of}
use Rattle.file_store.specs.Stores.{Told, Shows}

abbrev pub entries : List CatalogFile → List FileEntry
entries fs = map (λ f. entry_of f.key f.name f.size) fs

pub names_of-entries : (fs : List CatalogFile) → listing (entries fs) ≡ names_of fs
names_of-entries [] = refl
names_of-entries (f ∷ fs) = ap (λ (ls : List Listed). record { key = f.key; name = f.name } ∷ ls) (names_of-entries fs)

either_some : {A B : Type 0} (b : Bool) (x : A) (y : B) (p : Option A) (q : Option B) → is_some p ≡ is_some q → is_some (if b then Some x else p) ≡ is_some (if b then Some y else q)
either_some true x y p q same = refl
either_some false x y p q same = same

live-entries : (k : FileKey) (fs : List CatalogFile) → is_some (find_key (λ e. e.key) k (entries fs)) ≡ is_some (find_key (λ f. f.key) k fs)
live-entries k [] = refl
live-entries k (f ∷ fs) = either_some (same_key f.key k) (entry_of f.key f.name f.size) f (find_key (λ e. e.key) k (entries fs)) (find_key (λ f. f.key) k fs) (live-entries k fs)

some_map : {A B : Type 0} (to : A → B) (o : Option A) → is_some (option_map to o) ≡ is_some o
some_map to None = refl
some_map to (Some x) = refl

-- the table tells which files are held
pub live-shown : (k : FileKey) (known : Catalog) (h : Held) → Shows known h → is_some (option_map (λ e. e.size) (find_key (λ e. e.key) k (entries known.files))) ≡ is_some (find_key (λ f. f.key) k h.files)
live-shown k known h shows =
    some_map (λ e. e.size) (find_key (λ e. e.key) k (entries known.files)) ∙ live-entries k known.files
    ∙ sym (some_map _ (find_key (λ f. f.key) k known.files)) ∙ ap (λ (o : Option Told). is_some o) (shows.found k) ∙ some_map _ (find_key (λ f. f.key) k h.files)
