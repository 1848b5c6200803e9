-- The parts of the file that a record is about, once they are lent, and the catalog with what they become.
use Rattle.std.proofs.Common.{◌≡◌, ℕ, ◌+◌, ◌-◌, ◌≤◌, List, length, set, Option, Some, None, refl, sym, ◌∙◌, ap, arith, get_or, subst}
use Rattle.std.specs.Option.{IsSome, unwrap_or}
use Rattle.hsm_types.specs.Limits.{large_geometry}
use Rattle.hsm_types.specs.declared.stores.Geometry.{Geometry}
use Rattle.hsm_types.specs.Attributes.{bytes_of_attributes}
use Rattle.hsm_types.specs.Keyed.{find_key, change_key}
use Rattle.hsm_types.specs.Regions.{regions_refusal}
use Rattle.inode_table.specs.Listing.{listing, key_at}
use Rattle.inode_table.specs.Table.{Table, entry_of}
use Rattle.snapshot_text.specs.declared.file_parts.FileParts.{FileParts}
use Rattle.snapshot_text.specs.declared.file_parts.Others.{Others}
use Rattle.journal_records.specs.declared.records.Record.{Record}
use Rattle.meta_store.specs.declared.catalog.Catalog.TheInside.{Inside}
use Rattle.meta_store.specs.Catalogs.{Catalog, blocks_of}
use Rattle.snapshot_text.specs.Files.{geometry_of, CatalogFile, IsCatalogFile}
use Rattle.meta_store.specs.Records.{refusal_of, without_file, with_changed, key_on, others_of, CanStandOn, CanStand, IsAboutOne}
use Rattle.snapshot_text.specs.FileRecords.{file_after, part_refusal}
use Rattle.journal_records.specs.Texts.{inode_of}
use Rattle.snapshot_text.specs.Parts.{kept_in, parts_of, parts_after, file_of}
use Rattle.meta_store.specs.InMemory.{catalog_held}
use Rattle.meta_store.proofs.FoundFiles.{each-found}
use Rattle.meta_store.proofs.FilesAfter.{stood, file-after}
use Rattle.meta_store.proofs.HeldFiles.{held-change}
use Rattle.meta_store.proofs.HeldCatalogs.{bounded, IsCounted, IsLive, lawful, table, file, inode, live-on, live-at, held-live, place-same, others}
use Rattle.meta_store.proofs.StubsAfter.{room-after}

-- a file has the inode
pub stands-on : (r : Record) (c : Catalog) → IsAboutOne r → CanStand r c → IsSome (find_key (λ f. f.key) (key_on (inode_of r) c) c.files)
stands-on r c about stands = rw (stood r c about stands).1 refl

found-one : {F : Type 0} (o : Option F) (f g : F) → o ≡ Some f → o ≡ Some g → g ≡ f
found-one o f g is at = cc

-- what is known of the file, and of its parts
pub record IsLent (s : Inside) (v : Catalog) (r : Record) (place : ℕ) (x : FileParts) (rest : Others) (geometry : Geometry) : Type 0 where
  pub view : catalog_held s.geometry s.table s.parts.items ≡ v
  pub held : IsCounted s.geometry s.table s.parts.items s.attribute_total s.stub_total s.used
  pub file : CatalogFile
  pub found : find_key (λ g. g.key) (key_on (inode_of r) v) v.files ≡ Some file
  pub stands : CanStandOn r file v
  pub live : IsLive s.table s.parts.items (key_on (inode_of r) v) file
  pub at : key_at (inode_of r) (listing s.table.files) ≡ Some (key_on (inode_of r) v)
  pub here : place ≡ (key_on (inode_of r) v).ino - 1
  pub same : x ≡ parts_of file
  pub others : rest ≡ others_of (key_on (inode_of r) v) v
  pub bound : geometry ≡ geometry_of v.geometry

module _ {s : Inside} {v : Catalog} {r : Record} {place : ℕ} {x : FileParts} {rest : Others} {geometry : Geometry} (t : IsLent s v r place x rest geometry) where
  pub lawful-file : IsCatalogFile (geometry_of v.geometry) t.file
  lawful-file = each-found (IsCatalogFile (geometry_of v.geometry)) (key_on (inode_of r) v) t.file v.files (lawful s v t.view t.held).each t.found

  pub lawful-regions : regions_refusal geometry.limits (kept_in x).regions ≡ None
  lawful-regions = rw (t.bound, t.same) lawful-file.kept.regions

  pub room : (rest.attributes + bytes_of_attributes x.attributes ≤ geometry.attributes) × (rest.stubs + length x.stubs ≤ geometry.stubs) × (geometry.attributes ≤ large_geometry.attributes) × (geometry.stubs ≤ large_geometry.stubs) × (length (blocks_of (without_file (key_on (inode_of r) v) v).files) ≤ large_geometry.blocks)
  room =
      let sums = others s v t.view t.held (key_on (inode_of r) v) t.file t.found in
      let most = bounded s v t.view t.held in
      rw (t.others, t.same, t.bound) (omega arith, omega arith, most.1, most.4, omega arith)

  pub refusal : refusal_of r v ≡ part_refusal r rest geometry (kept_in x)
  refusal = rw (t.bound, t.others, t.same, t.found) refl

  -- the parts after it, and the size that it says, if it says one
  module _ (new : FileParts) (to : Option ℕ) (taken : new ≡ parts_after r x) (sized : (f : CatalogFile) → (file_after r f).size ≡ unwrap_or to f.size) where
    pub changed : file_after r t.file ≡ file_of t.file.key t.file.name (unwrap_or to t.file.size) new
    changed = file-after r t.file new (unwrap_or to t.file.size) (taken ∙ ap (parts_after r) t.same) (sym (sized t.file))

    pub stubs-few : part_refusal r rest geometry (kept_in x) ≡ None → rest.stubs + length new.stubs ≤ geometry.stubs
    stubs-few none = rw taken (room-after r x rest geometry (rw t.same lawful-file.ascend) none room.1)

    abbrev pub resized : Table
    resized = record s.table { files = change_key (λ e. e.key) (key_on (inode_of r) v) (λ e. record e { size = unwrap_or to t.file.size }) s.table.files }

    pub new-held : catalog_held s.geometry resized (set s.parts.items place new) ≡ with_changed (key_on (inode_of r) v) (file_after r) v
    new-held =
        let order = table s v t.view t.held in
        let files = held-change s.parts.items 1 (geometry_of s.geometry).files s.table.next (key_on (inode_of r) v) (file_after r) (entry_of t.file.key t.file.name t.file.size) new (unwrap_or to t.file.size) s.table.files (omega arith)
        (omega (arith, t.held.0.count)) order.ascend order.within t.live.entry (ap (file_after r) (held-live s.table s.parts.items (key_on (inode_of r) v) t.file t.live) ∙ changed) in
        rw t.here (ap (λ (fs : List CatalogFile). record { geometry = s.geometry; next = s.table.next; files = fs }) files ∙ ap (λ (c : Catalog). with_changed (key_on (inode_of r) v) (file_after r) c) t.view)

-- once the parts at its inode are lent
pub lend : (s : Inside) (v : Catalog) (is : catalog_held s.geometry s.table s.parts.items ≡ v) (i : IsCounted s.geometry s.table s.parts.items s.attribute_total s.stub_total s.used) (r : Record) → IsAboutOne r → CanStand r v
    → (place : ℕ) → place ≡ inode_of r - 1 → (x : FileParts) → x ≡ get_or s.parts.items place x → (rest : Others) → rest ≡ others_of (key_on (inode_of r) v) v → (geometry : Geometry) → geometry ≡ geometry_of v.geometry → IsLent s v r place x rest geometry
lend s v is i r about stands place here x read rest left geometry bound =
    let one = stood r v about stands in
    let some = stands-on r v about stands in
    let own = file s v is i (inode_of r) some in
    let same = found-one _ _ _ one.1 own.1 in
    record {
      view = is;
      held = i;
      file = one.0;
      found = one.1;
      stands = one.2;
      live = subst (IsLive s.table s.parts.items (key_on (inode_of r) v)) same (live-on s v is i (inode_of r) some);
      at = live-at s v is i (inode_of r) some;
      here = here ∙ ap (λ (n : ℕ). n - 1) (sym (inode s v is i (inode_of r) some));
      same = place-same s v is i (inode_of r) some place here x read ∙ ap parts_of same;
      others = left;
      bound = bound;
    }
