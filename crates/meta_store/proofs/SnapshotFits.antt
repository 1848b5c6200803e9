-- The snapshot of a catalog fits its fields, and its area.
use Rattle.std.proofs.Common.{◌≡◌, ℕ, ◌+◌, ◌*◌, ◌≤◌, ◌<◌, ◌^◌, List, [], ◌∷◌, length, map, Option, Some, None, true, false, eqb, refl, length-append, arith}
use Rattle.std.specs.List.{AllByRecursion, flat_map, list_any, IsDistinct}
use Rattle.std.proofs.lemmas.List.{length-map}
use Rattle.std.proofs.lemmas.List.Sums.{sum_by-cons}
use Rattle.std.proofs.lemmas.Map.Steps.{length-le_from_distinct_below}
use Rattle.hsm_types.specs.Limits.{large_geometry, name_bytes, file_bytes, file_regions, IsCountable, last_generation, last_number}
use Rattle.hsm_types.specs.Names.{is_name}
use Rattle.hsm_types.specs.declared.regions.Region.{Region}
use Rattle.hsm_types.specs.declared.stores.Geometry.{Geometry}
use Rattle.hsm_types.specs.Attributes.{bytes_of_attributes}
use Rattle.hsm_types.specs.Stubs.{Stubs}
use Rattle.plain_model.specs.Distinct.{Distinct}
use Rattle.inode_table.specs.Listing.{Within}
use Rattle.inode_table.proofs.Orders.{few}
use Rattle.commit_slots.specs.Places.{layout_of}
use Rattle.commit_slots.specs.Images.{empty_snapshot}
use Rattle.snapshot_text.specs.declared.snapshot.Mapping.{Mapping}
use Rattle.snapshot_text.specs.Files.{CatalogFile, NumbersFit, IsCatalogStub, IsCatalogFile, geometry_of, present}
use Rattle.meta_store.specs.Catalogs.{Catalog, IsCatalog, blocks_of}
use Rattle.meta_store.specs.Catalogs.{names_of, attribute_total, stub_total}
use Rattle.journal_records.specs.Texts.{region_bytes}
use Rattle.snapshot_text.specs.Snapshots.{extent_bytes, stub_bytes, bytes_of_file, extents_from, spelling, snapshot_file}
use Rattle.meta_store.specs.Snapshots.{snapshot_of}
use Rattle.snapshot_text.specs.Snapshots.{ExtentFits, FileFits, Fits}
use Rattle.snapshot_text.proofs.SpreadPlaces.{present-few, length-extents}
use Rattle.snapshot_text.proofs.KeptBounds.{regions-few, regions-fit, attributes-few, attributes-fit, attributes-short}
use Rattle.snapshot_text.proofs.EachOf.{all-both, each-as}

-- ---- numbers that differ, below a bound

others : (n : ℕ) (ms : List ℕ) → list_any (λ m. eqb m n) ms ≡ false → AllByRecursion (λ m. eqb n m ≡ false) ms
others n [] none = tt
others n (m ∷ ms) none = (grind arith, others n ms (grind arith))

differ : (ns : List ℕ) → Distinct ns → IsDistinct eqb ns
unfolding IsDistinct
differ [] d = tt
differ (n ∷ ns) d = (others n ns d.0, differ ns d.1)

one_below : (n : ℕ) (ns : List ℕ) → AllByRecursion (λ b. b < n) ns → (q : ℕ) → list_any (eqb q) ns ≡ true → q < n
one_below n [] below q here = absurd cc
one_below n (m ∷ ns) below q here = grind (arith, one_below n ns below.1 q)

-- ---- what bounds a catalog

pub geometry-bounded : (geometry : ℕ) → ((geometry_of geometry).files ≤ large_geometry.files) × ((geometry_of geometry).blocks ≤ large_geometry.blocks) × ((geometry_of geometry).attributes ≤ large_geometry.attributes)
unfolding geometry_of
geometry-bounded geometry = grind arith

pub few-stubs : (geometry : ℕ) → (geometry_of geometry).stubs ≤ large_geometry.stubs
unfolding geometry_of
few-stubs geometry = grind arith

-- the code can count what each format allows
pub limits_countable : (geometry : ℕ) → IsCountable (geometry_of geometry).limits
unfolding geometry_of
limits_countable geometry = grind arith

pub size-few : (geometry : ℕ) (f : CatalogFile) → IsCatalogFile (geometry_of geometry) f → f.size ≤ file_bytes
size-few geometry f is = omega (arith, is.size, (limits_countable geometry).0)

pub name-short : (name : List ℕ) → is_name name ≡ true → length name ≤ name_bytes
name-short name is = grind arith

pub blocks-within : (g : Geometry) (fs : List CatalogFile) → AllByRecursion (IsCatalogFile g) fs → AllByRecursion (λ b. b < g.blocks) (blocks_of fs)
blocks-within g [] each = tt
blocks-within g (f ∷ fs) each = all-both (λ b. b < g.blocks) (present f.places) (blocks_of fs) each.0.within (blocks-within g fs each.1)

-- the pigeonhole
pub blocks-few : (c : Catalog) → IsCatalog c → length (blocks_of c.files) ≤ (geometry_of c.geometry).blocks
blocks-few c is =
    let blocks = (geometry_of c.geometry).blocks in
    length-le_from_distinct_below (blocks_of c.files) blocks (differ (blocks_of c.files) is.distinct) (one_below blocks (blocks_of c.files) (blocks-within (geometry_of c.geometry) c.files is.each))

pub files-few : (c : Catalog) → IsCatalog c → length c.files ≤ (geometry_of c.geometry).files
files-few c is =
    let most = few (geometry_of c.geometry).files c.next 1 (names_of c.files) is.table.ascend is.table.within in
    let same : length (names_of c.files) ≡ length c.files = length-map c.files _ in
    omega arith

-- ---- the fields

module _ (g : Geometry) (next : ℕ) (few_blocks : g.blocks ≤ large_geometry.blocks) (few_files : g.files ≤ large_geometry.files) (countable : IsCountable g.limits) (old : next ≤ last_generation) where
  extents-fit : (n : ℕ) (places : List (Option ℕ)) → n + length places ≤ 2 ^ 32 → AllByRecursion (λ b. b < g.blocks) (present places) → AllByRecursion ExtentFits (extents_from n places)
  extents-fit n [] fit below = tt
  extents-fit n (None ∷ places) fit below = extents-fit (n + 1) places (omega arith) below
  extents-fit n (Some at ∷ places) fit below = ((omega arith, omega (arith, below.0)), extents-fit (n + 1) places (omega arith) below.1)

  file-fits : (f : CatalogFile) → f.key.ino ≤ g.files → f.key.igen < next → bytes_of_attributes f.kept.attributes ≤ large_geometry.attributes → length f.kept.stubs ≤ large_geometry.stubs → IsCatalogFile g f → FileFits (snapshot_file f)
  file-fits f ino igen few few_stubs is = record {
    ino = omega arith;
    igen = omega arith;
    size = omega (arith, is.size, countable.0);
    name = omega (arith, name-short f.name is.name);
    regions = omega (arith, regions-few g.limits countable f.kept.regions is.kept.regions);
    each_region = regions-fit g.limits countable f.kept.regions is.kept.regions;
    attributes = omega (arith, attributes-few f.kept.attributes);
    each_attribute = attributes-fit f.kept.attributes is.kept.eight is.kept.attributes;
    extents = omega (arith, length-extents 0 f.places, present-few f.places, is.size, is.places, countable.0);
    each_extent = extents-fit 0 f.places (omega (arith, is.size, is.places, countable.0)) is.within;
    stubs = omega arith;
    each_stub = each-as (IsCatalogStub f) NumbersFit f.kept.stubs (λ x stub. stub.numbers) is.stubs;
  }

  files-fit : (fs : List CatalogFile) → Within g.files next (names_of fs) → attribute_total fs ≤ large_geometry.attributes → stub_total fs ≤ large_geometry.stubs → AllByRecursion (IsCatalogFile g) fs → AllByRecursion FileFits (map snapshot_file fs)
  files-fit [] w few few_stubs each = tt
  files-fit (f ∷ fs) w few few_stubs each =
      let sum = sum_by-cons (λ (g : CatalogFile). bytes_of_attributes g.kept.attributes) f fs in
      let stubs = sum_by-cons (λ (g : CatalogFile). length g.kept.stubs) f fs in
      (file-fits f w.0 w.1 (omega arith) (omega arith) each.0, files-fit fs w.2 (omega arith) (omega arith) each.1)

pub fits_of : (n : ℕ) (c : Catalog) → n ≤ last_number → IsCatalog c → Fits (snapshot_of n c)
unfolding snapshot_of
fits_of n c low is =
    let g = geometry-bounded c.geometry in
    record {
      number = omega arith;
      next = omega (arith, is.next);
      count = omega (arith, length-map c.files snapshot_file, files-few c is);
      each = files-fit (geometry_of c.geometry) c.next g.1 g.0 (limits_countable c.geometry) is.next c.files is.table.within (omega (arith, is.few)) (omega (arith, is.few_stubs, few-stubs c.geometry)) is.each;
    }

-- ---- the area

length-regions : (rs : List Region) → length (flat_map region_bytes rs) ≡ 17 * length rs
length-regions [] = refl
length-regions (r ∷ rs) = omega (arith, length-append (region_bytes r) (flat_map region_bytes rs), length-regions rs)

length-mappings : (es : List Mapping) → length (flat_map extent_bytes es) ≡ 8 * length es
length-mappings [] = refl
length-mappings (e ∷ es) = omega (arith, length-append (extent_bytes e) (flat_map extent_bytes es), length-mappings es)

length-stubs : (stubs : Stubs) → AllByRecursion NumbersFit stubs → length (flat_map stub_bytes stubs) ≡ 49 * length stubs
length-stubs [] fit = refl
length-stubs (x ∷ stubs) fit = simp length-append (omega (arith, fit.0.entry.digest, length-stubs stubs fit.1))

-- what a file has in a snapshot beside its extents, attributes and stub entries, at most: its name, its regions, and fields of 38 bytes
abbrev most_beside : ℕ
most_beside = name_bytes + 17 * file_regions + 38

file-short : (g : Geometry) (f : CatalogFile) → IsCountable g.limits → IsCatalogFile g f → length (bytes_of_file (snapshot_file f)) ≤ most_beside + 8 * length (present f.places) + bytes_of_attributes f.kept.attributes + 49 * length f.kept.stubs
unfolding bytes_of_file
file-short g f countable is =
    let k = is.kept in
    let stubs = length-stubs f.kept.stubs (each-as (IsCatalogStub f) NumbersFit f.kept.stubs (λ x stub. stub.numbers) is.stubs) in
    simp length-append (omega (arith, stubs, length-regions f.kept.regions, length-mappings (extents_from 0 f.places), length-extents 0 f.places, name-short f.name is.name, regions-few g.limits countable f.kept.regions k.regions, attributes-short f.kept.attributes k.eight))

files-short : (g : Geometry) (fs : List CatalogFile) → IsCountable g.limits → AllByRecursion (IsCatalogFile g) fs
    → length (flat_map bytes_of_file (map snapshot_file fs)) ≤ most_beside * length fs + 8 * length (blocks_of fs) + attribute_total fs + 49 * stub_total fs
files-short g [] countable each = omega arith
files-short g (f ∷ fs) countable each =
    let attributes = sum_by-cons (λ (g : CatalogFile). bytes_of_attributes g.kept.attributes) f fs in
    let stubs = sum_by-cons (λ (g : CatalogFile). length g.kept.stubs) f fs in
    simp length-append (omega (arith, attributes, stubs, file-short g f countable each.0, files-short g fs countable each.1))

area-bounded : (geometry : ℕ) → 24 + most_beside * (geometry_of geometry).files + 8 * (geometry_of geometry).blocks + (geometry_of geometry).attributes + 49 * (geometry_of geometry).stubs ≤ (layout_of geometry).snapshot_len
unfolding geometry_of layout_of
area-bounded geometry = grind arith

pub snapshot-short : (n : ℕ) (c : Catalog) → IsCatalog c → length (spelling (snapshot_of n c)) ≤ (layout_of c.geometry).snapshot_len
unfolding spelling snapshot_of
snapshot-short n c is = omega (arith, files-short (geometry_of c.geometry) c.files (limits_countable c.geometry) is.each, blocks-few c is, files-few c is, is.few, is.few_stubs, area-bounded c.geometry)

-- `format` writes the snapshot of no file
pub spelling-empty : (geometry : ℕ) → spelling (snapshot_of 0 (record { geometry = geometry; next = 1; files = [] })) ≡ empty_snapshot
unfolding spelling snapshot_of
spelling-empty geometry = refl
