-- Which files pass the judgement.
use Rattle.std.proofs.lemmas.List.Sums.{sum_by-cons, sum_by-append}
use Rattle.std.proofs.lemmas.List.Folds.{fold-map}
use Rattle.std.proofs.Common.{◌≡◌, ℕ, ◌+◌, ◌-◌, ◌≤◌, List, [], ◌∷◌, ◌++◌, length, map, true, leb, refl, ap, sym, ◌∙◌, arith}
use Rattle.std.specs.List.{sum_by, AllByRecursion}
use Rattle.std.proofs.lemmas.List.{map-append}
use Rattle.std.proofs.lemmas.List.Concat.{flat_map-append}
use Rattle.hsm_types.specs.declared.stores.Geometry.{Geometry}
use Rattle.plain_model.specs.Blocks.{blocks_in}
use Rattle.inode_table.specs.Listing.{Within}
use Rattle.hsm_types.specs.Attributes.{bytes_of_attributes}
use Rattle.snapshot_text.specs.Files.{CatalogFile, IsCatalogFile, HasLengths, geometry_of}
use Rattle.meta_store.specs.Catalogs.{Catalog, IsCatalog, AreLengths, names_of, blocks_of, attribute_total, stub_total}
use Rattle.snapshot_text.specs.Snapshots.{SnapshotFile, snapshot_file}
use Rattle.meta_store.specs.Validity.{listed_in, names_in, places_in, is_file, is_kept, can_follow}
use Rattle.snapshot_text.specs.FileValidity.{places_of, places_by, AreLawfulStubs, MayKeep}
use Rattle.meta_store.specs.Validity.{attribute_total_in, stub_total_in, Follows, IsNext}
use Rattle.snapshot_text.proofs.KeptAttributes.{attributes-pass}
use Rattle.snapshot_text.proofs.LawfulStubs.{stubs-pass}
use Rattle.snapshot_text.proofs.EachOf.{all-parts}
use Rattle.snapshot_text.proofs.SpreadPlaces.{places_of-extents, are_extents-from, places-again}
use Rattle.meta_store.proofs.StandOnce.{above-last, nameless, unused-from}

pub names_in-snapshot : (fs : List CatalogFile) → names_in (map snapshot_file fs) ≡ names_of fs
names_in-snapshot [] = refl
names_in-snapshot (f ∷ fs) = rw (names_in-snapshot fs) refl

pub places_in-snapshot : (fs : List CatalogFile) → places_in (map snapshot_file fs) ≡ blocks_of fs
places_in-snapshot [] = refl
places_in-snapshot (f ∷ fs) = rw (places_of-extents 0 f.places, places_in-snapshot fs) refl

pub attribute_total_in-snapshot : (fs : List CatalogFile) → attribute_total fs ≡ attribute_total_in (map snapshot_file fs)
attribute_total_in-snapshot fs = sym (fold-map (λ (sum : ℕ) (s : SnapshotFile). sum + bytes_of_attributes s.kept.attributes) snapshot_file 0 fs)

pub stub_total_in-snapshot : (fs : List CatalogFile) → stub_total fs ≡ stub_total_in (map snapshot_file fs)
stub_total_in-snapshot fs = sym (fold-map (λ (sum : ℕ) (s : SnapshotFile). sum + length s.kept.stubs) snapshot_file 0 fs)

-- what is judged of a file alone
abbrev Passes : Geometry → ℕ → SnapshotFile → Type 0
Passes g next f = (leb f.key.ino g.files ≡ true) × (is_file g next f ≡ true) × (is_kept g.limits f ≡ true) × AreLawfulStubs f.size f.kept.regions (places_by f) f.kept.stubs

each-alone : (g : Geometry) (next : ℕ) (fs : List CatalogFile) → Within g.files next (names_of fs) → AllByRecursion (IsCatalogFile g) fs → AllByRecursion HasLengths fs → AllByRecursion (Passes g next) (map snapshot_file fs)
each-alone g next [] within each long = tt
each-alone g next (f ∷ fs) within each long =
    let extents = are_extents-from 0 0 (blocks_in f.size) g.blocks f.places (omega arith) (omega (arith, each.0.places)) each.0.within in
    let kept : is_kept g.limits (snapshot_file f) ≡ true = rw (each.0.kept.regions, attributes-pass f.kept.attributes each.0.kept.attributes) refl in
    let stubs : AreLawfulStubs f.size f.kept.regions (places_by (snapshot_file f)) f.kept.stubs = rw (places-again f each.0.places) (stubs-pass f each.0.ascend each.0.stubs long.0) in
    ((grind arith, grind (arith, each.0), kept, stubs), each-alone g next fs within.2 each.1 long.1)

-- of what is summed, the files up to one have no more than all
total-before : (m : SnapshotFile → ℕ) (fs : List CatalogFile) (before : List SnapshotFile) (f : SnapshotFile) (rest : List SnapshotFile) → map snapshot_file fs ≡ before ++ f ∷ rest → sum_by m before + m f ≤ sum_by (λ g. m (snapshot_file g)) fs
total-before m fs before f rest e = omega (arith, sum_by-append m before (f ∷ rest), sum_by-cons m f rest, ap (sum_by m) e, fold-map (λ (sum : ℕ) (s : SnapshotFile). sum + m s) snapshot_file 0 fs)

pub passes : (c : Catalog) (before : List SnapshotFile) (f : SnapshotFile) (rest : List SnapshotFile) → IsCatalog c → AreLengths c → map snapshot_file c.files ≡ before ++ f ∷ rest → IsNext (geometry_of c.geometry) c.next before f
passes c before f rest is long e =
    let g : Geometry = geometry_of c.geometry in
    let names : names_of c.files ≡ names_in before ++ listed_in f ∷ names_in rest = sym (names_in-snapshot c.files) ∙ ap names_in e ∙ map-append listed_in before (f ∷ rest) in
    let places : blocks_of c.files ≡ places_in before ++ (places_of f.extents ++ places_in rest) = sym (places_in-snapshot c.files) ∙ ap places_in e ∙ flat_map-append (λ (s : SnapshotFile). places_of s.extents) before (f ∷ rest) in
    let alone = (all-parts (Passes g c.next) before (f ∷ rest) (rw e at (each-alone g c.next c.files is.table.within is.each long))).1.0 in
    let few = total-before (λ s. bytes_of_attributes s.kept.attributes) c.files before f rest e in
    let few_stubs = total-before (λ s. length s.kept.stubs) c.files before f rest e in
    let fresh = nameless (names_in before) (listed_in f) (names_in rest) (rw names at is.table.differ) in
    let above = above-last 0 (names_in before) (listed_in f) (names_in rest) (rw names at is.table.ascend) in
    let unused = unused-from (places_in before) (places_of f.extents) (places_in rest) (rw places at is.distinct) in
    record { judged = grind (arith, alone.0, alone.1, alone.2, is.few, is.few_stubs); stubs = alone.3 }

-- behind others, which have so many bytes of attributes and so many stub entries, it may keep what it does
pub may-keep : (geometry : Geometry) (next : ℕ) (before : List SnapshotFile) (f : SnapshotFile) (total stubs : ℕ) → total ≡ attribute_total_in before → stubs ≡ stub_total_in before → IsNext geometry next before f
    → MayKeep geometry.limits (geometry.attributes - total) (geometry.stubs - stubs) f
may-keep geometry next before f total stubs counted stubbed is =
    let judged = is.judged in
    record { regions = grind arith; attributes = grind arith; few = grind (arith, counted); stubs = is.stubs; few_stubs = grind (arith, stubbed) }

-- what the judgement tells
pub follows : (geometry : Geometry) (next : ℕ) (before : List SnapshotFile) (f : SnapshotFile) → can_follow geometry next before f ≡ true → Follows geometry next before f
follows geometry next before f e = grind arith
