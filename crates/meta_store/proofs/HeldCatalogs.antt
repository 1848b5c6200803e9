-- A catalog in memory, after one file more, one less and one changed.
use Rattle.std.proofs.Common.{◌≡◌, ℕ, zero, suc, ◌+◌, ◌-◌, ◌<◌, ◌≤◌, List, [], ◌∷◌, length, map, get_or, set, false, Option, Some, None, refl, sym, ◌∙◌}
use Rattle.std.proofs.Common.{ap, subst, arith}
use Rattle.std.specs.List.{slice_get}
use Rattle.std.specs.Option.{IsSome, option_map, unwrap_or}
use Rattle.std.proofs.lemmas.List.{get_or_read}
use Rattle.hsm_types.specs.Limits.{large_geometry}
use Rattle.hsm_types.specs.declared.keys.FileKey.{FileKey}
use Rattle.hsm_types.specs.Attributes.{bytes_of_attributes}
use Rattle.hsm_types.specs.Keyed.{find_key, drop_key}
use Rattle.inode_table.specs.declared.entries.FileEntry.{FileEntry}
use Rattle.inode_table.specs.Listing.{listing, key_at, has_inode, Ascend, Within}
use Rattle.inode_table.specs.Table.{Table, IsTable, entry_of}
use Rattle.inode_table.specs.Table.{with_file as with_entry}
use Rattle.inode_table.proofs.KeysAt.{found-key_at, key_at-found}
use Rattle.inode_table.proofs.Listings.{found-listed}
use Rattle.snapshot_text.specs.declared.file_parts.FileParts.{FileParts}
use Rattle.meta_store.specs.declared.catalog.Catalog.TheInside.{Inside}
use Rattle.snapshot_text.specs.Files.{CatalogFile, geometry_of, present}
use Rattle.meta_store.specs.Catalogs.{Catalog, IsCatalog, names_of, blocks_of, attribute_total, stub_total}
use Rattle.meta_store.specs.Records.{with_put, without_file, others_total, others_stubs, key_on}
use Rattle.snapshot_text.specs.Parts.{no_parts, parts_of, file_of}
use Rattle.meta_store.specs.InMemory.{catalog_held, file_held, files_held, IsHeld}
use Rattle.meta_store.proofs.SnapshotFits.{blocks-few, geometry-bounded, few-stubs}
use Rattle.meta_store.proofs.FileEdits.{count_of, stubs_of, mapped_of, used-sum, sum-drop, map-find, map-drop}
use Rattle.meta_store.proofs.HeldFiles.{names_of-held, entries-held, held-put_at, found-within}

-- what is true of each catalog in memory
abbrev pub IsCounted : ℕ → Table → List FileParts → ℕ → ℕ → ℕ → Type 0
IsCounted geometry t ps total stubs used = IsHeld geometry t ps total stubs × (used ≡ length (blocks_of (files_held ps t.files)))

-- ---- a file that is found

within_get : (n limit next i : ℕ) (e : FileEntry) (es : List FileEntry) → Ascend n (listing es) → Within limit next (listing es) → slice_get es i ≡ Some e → (n ≤ e.key.ino) × (e.key.ino ≤ limit)
within_get n limit next i e [] a w there = cc
within_get n limit next zero e (f ∷ es) a w there = grind (arith, a.0, w.0)
within_get n limit next (suc i) e (f ∷ es) a w there = grind (arith, a.0, within_get (f.key.ino + 1) limit next i e es a.1 w.2 there)

some_mapped : {X Y : Type 0} (to : X → Y) (o : Option X) (y : Y) → option_map to o ≡ Some y → (x : X) × (o ≡ Some x) × (to x ≡ y)
some_mapped to None y is = cc
some_mapped to (Some x) y is = (x, refl, cc)

pub there : {X : Type 0} (o : Option X) → IsSome o → (x : X) × (o ≡ Some x)
there o some = grind arith

inode_at : (ino : ℕ) (o : Option FileKey) → ((k : FileKey) → o ≡ Some k → k.ino ≡ ino) → (unwrap_or o (record { ino = ino; igen = 0 })).ino ≡ ino
inode_at ino o is = grind (arith, is)

-- where the entry of a live file is, and its parts
pub record IsLive (t : Table) (ps : List FileParts) (k : FileKey) (f : CatalogFile) : Type 0 where
  pub key : f.key ≡ k
  pub entry : find_key (λ e. e.key) k t.files ≡ Some (entry_of f.key f.name f.size)
  pub low : 1 ≤ k.ino
  pub high : k.ino ≤ length ps
  pub parts : get_or ps (k.ino - 1) no_parts ≡ parts_of f

-- what is read of the parts at its inode
pub read-live : (t : Table) (ps : List FileParts) (k : FileKey) (f : CatalogFile) → IsLive t ps k f → (at : ℕ) (x : FileParts) → at ≡ k.ino - 1 → x ≡ get_or ps at x → x ≡ parts_of f
read-live t ps k f one at x here read =
    get_or_read ps (k.ino - 1) x (omega (arith, one.low, one.high)) (rw here at read) no_parts ∙ one.parts

pub held-live : (t : Table) (ps : List FileParts) (k : FileKey) (f : CatalogFile) → IsLive t ps k f → file_held ps (entry_of f.key f.name f.size) ≡ f
held-live t ps k f one = rw (one.key, one.parts) refl

-- how much a file with these parts leaves to the others
pub record IsLeft (s : Inside) (v : Catalog) (k : FileKey) (x : FileParts) : Type 0 where
  pub attributes : others_total k v + bytes_of_attributes x.attributes ≡ s.attribute_total
  pub stubs : others_stubs k v + length x.stubs ≡ s.stub_total
  pub used : length (blocks_of (without_file k v).files) + length (present x.places) ≡ s.used

module _ (s : Inside) (v : Catalog) (is : catalog_held s.geometry s.table s.parts.items ≡ v) (i : IsCounted s.geometry s.table s.parts.items s.attribute_total s.stub_total s.used) where
  pub lawful : IsCatalog v
  lawful = rw (← is) i.0.catalog

  pub names : names_of v.files ≡ listing s.table.files
  names = rw (← is) (names_of-held s.parts.items s.table.files)

  pub table : IsTable (geometry_of s.geometry).files s.table.next (listing s.table.files)
  table = rw (names_of-held s.parts.items s.table.files) at i.0.catalog.table

  -- the table alone
  pub table-held : s.table ≡ record { limit = (geometry_of v.geometry).files; next = v.next; files = map (λ f. entry_of f.key f.name f.size) v.files }
  table-held = rw (← is, entries-held s.parts.items s.table.files, ← i.0.limit) refl

  pub counts : (s.attribute_total ≡ attribute_total v.files) × (s.stub_total ≡ stub_total v.files) × (s.used ≡ length (blocks_of v.files))
  counts = rw (← is) (i.0.counted, i.0.stubbed, i.1)

  pub bounded : (s.attribute_total ≤ (geometry_of v.geometry).attributes) × ((geometry_of v.geometry).attributes ≤ large_geometry.attributes) × (s.used ≤ large_geometry.blocks) × (s.stub_total ≤ (geometry_of v.geometry).stubs) × ((geometry_of v.geometry).stubs ≤ large_geometry.stubs)
  bounded =
      let most = geometry-bounded v.geometry in
      (omega (arith, counts.0, lawful.few), most.2, omega (arith, most.1, counts.2, blocks-few v lawful), omega (arith, counts.1, lawful.few_stubs), few-stubs v.geometry)

  pub slot-within : (at : ℕ) (e : FileEntry) → slice_get s.table.files at ≡ Some e → (1 ≤ e.key.ino) × (e.key.ino ≤ length s.parts.items)
  slot-within at e there = rw i.0.count (within_get 1 (geometry_of s.geometry).files s.table.next at e s.table.files table.ascend table.within there)

  pub found-held : (k : FileKey) → find_key (λ g. g.key) k v.files ≡ option_map (file_held s.parts.items) (find_key (λ e. e.key) k s.table.files)
  found-held k = rw (← is) (map-find (λ (f : CatalogFile). f.key) (file_held s.parts.items) k s.table.files)

  pub live : (k : FileKey) (f : CatalogFile) → find_key (λ g. g.key) k v.files ≡ Some f → IsLive s.table s.parts.items k f
  live k f found =
      let one = some_mapped (file_held s.parts.items) (find_key (λ e. e.key) k s.table.files) f (sym (found-held k) ∙ found) in
      let within = found-within 1 (geometry_of s.geometry).files s.table.next k one.0 s.table.files table.ascend table.within one.1 in
      subst (IsLive s.table s.parts.items k) one.2
      (record { key = within.0; entry = one.1; low = within.1; high = rw i.0.count within.2; parts = ap (λ (j : FileKey). get_or s.parts.items (j.ino - 1) no_parts) (sym within.0) })

  -- what is counted of one file and of the others
  pub others : (k : FileKey) (f : CatalogFile) → find_key (λ g. g.key) k v.files ≡ Some f → IsLeft s v k (parts_of f)
  others k f found = record {
    attributes = omega (arith, sum-drop count_of k f v.files found, counts.0);
    stubs = omega (arith, sum-drop stubs_of k f v.files found, counts.1);
    used = omega (arith, sum-drop mapped_of k f v.files found, used-sum v.files, used-sum (without_file k v).files, counts.2);
  }

  -- ---- the file of an inode

  module _ (ino : ℕ) (some : IsSome (find_key (λ g. g.key) (key_on ino v) v.files)) where
    pub file : (f : CatalogFile) × (find_key (λ g. g.key) (key_on ino v) v.files ≡ Some f)
    file = there (find_key (λ g. g.key) (key_on ino v) v.files) some

    pub inode : (key_on ino v).ino ≡ ino
    inode = inode_at ino (key_at ino (names_of v.files)) (λ j here. (key_at-found ino j (names_of v.files) here).0)

    pub live-on : IsLive s.table s.parts.items (key_on ino v) file.0
    live-on = live (key_on ino v) file.0 file.1

    pub live-at : key_at ino (listing s.table.files) ≡ Some (key_on ino v)
    live-at =
        let k : FileKey = key_on ino v in
        let listed = found-listed k (entry_of file.0.key file.0.name file.0.size) s.table.files live-on.entry in
        subst (λ (n : ℕ). key_at n (listing s.table.files) ≡ Some k) inode (found-key_at 1 k _ (listing s.table.files) table.ascend listed)

    -- where its parts stand
    module _ (at : ℕ) (here : at ≡ ino - 1) where
      pub place-within : at < length s.parts.items
      place-within = let k = inode in let low = live-on.low in let high = live-on.high in omega arith

      pub place-same : (x : FileParts) → x ≡ get_or s.parts.items at x → x ≡ parts_of file.0
      place-same x read = read-live s.table s.parts.items (key_on ino v) file.0 live-on at x (here ∙ ap (λ (n : ℕ). n - 1) (sym inode)) read

      pub left : (x : FileParts) → x ≡ get_or s.parts.items at x → IsLeft s v (key_on ino v) x
      left x read = rw (place-same x read) (others (key_on ino v) file.0 file.1)

  -- ---- after a change

  pub after : (t' : Table) (ps' : List FileParts) (w : Catalog) (total' stubs' used' : ℕ) → catalog_held s.geometry t' ps' ≡ w → t'.limit ≡ s.table.limit → length ps' ≡ length s.parts.items → IsCatalog w → total' ≡ attribute_total w.files → stubs' ≡ stub_total w.files
      → used' ≡ length (blocks_of w.files) → IsCounted s.geometry t' ps' total' stubs' used'
  after t' ps' w total' stubs' used' held limit len good bytes entries blocks = (record { limit = limit ∙ i.0.limit; count = len ∙ i.0.count; counted = grind arith; stubbed = grind arith; catalog = subst IsCatalog (sym held) good }, grind arith)

  pub put-held : (key : FileKey) (name : List ℕ) (size : ℕ) (x : FileParts) → 1 ≤ key.ino → key.ino ≤ (geometry_of v.geometry).files → has_inode key.ino (names_of v.files) ≡ false
      → catalog_held s.geometry (with_entry (entry_of key name size) s.table) (set s.parts.items (key.ino - 1) x) ≡ with_put (file_of key name size x) v
  put-held key name size x low high free =
      let kind = ap (λ (c : Catalog). (geometry_of c.geometry).files) is in
      rw (← is, held-put_at s.parts.items (entry_of key name size) x s.table.files low (omega (arith, i.0.count)) table.ascend (rw names at free)) refl

  pub drop-held : (key : FileKey) → catalog_held s.geometry (record s.table { files = drop_key (λ e. e.key) key s.table.files }) s.parts.items ≡ without_file key v
  drop-held key = rw (← is, map-drop (λ (f : CatalogFile). f.key) (file_held s.parts.items) key s.table.files) refl

-- ---- a part of a file that is found

pub part_some : {X : Type 0} (g : FileParts → X) (o : Option CatalogFile) (p : FileParts) → Some p ≡ option_map parts_of o → Some (g p) ≡ option_map (λ f. g (parts_of f)) o
part_some g o p is = grind arith

pub ruleset table_held = (table-held)

pub ruleset put_steps = (names_of-held, geometry-bounded, few-stubs)
