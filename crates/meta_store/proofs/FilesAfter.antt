-- The file that a record is about, after it.
use Rattle.std.proofs.Common.{◌≡◌, ℕ, ◌+◌, ◌<◌, ◌≤◌, length, Some, None, ◌∙◌, arith}
use Rattle.hsm_types.specs.declared.stores.Geometry.{Geometry}
use Rattle.hsm_types.specs.Keyed.{find_key}
use Rattle.plain_model.specs.Blocks.{blocks_in}
use Rattle.snapshot_text.specs.declared.file_parts.FileParts.{FileParts}
use Rattle.snapshot_text.specs.declared.file_parts.Others.{Others}
use Rattle.journal_records.specs.declared.records.Record.{Record}
use Rattle.journal_records.specs.declared.records.Record.TheVariants.{Make, Drop, Size, Map, Stub}
use Rattle.snapshot_text.specs.Files.{CatalogFile, IsCatalogFile, geometry_of, present}
use Rattle.meta_store.specs.Catalogs.{Catalog, IsCatalog, blocks_of}
use Rattle.journal_records.specs.Texts.{inode_of}
use Rattle.snapshot_text.specs.FileRecords.{mappings_from, file_after}
use Rattle.meta_store.specs.Records.{key_on, CanStandOn, CanStand, IsAboutOne}
use Rattle.snapshot_text.specs.Parts.{parts_of, file_of, parts_after, FitsParts}
use Rattle.snapshot_text.proofs.BlockUses.{uses, distinct-uses, each-used, used-each}
use Rattle.snapshot_text.proofs.MappedPlaces.{length-fitted, uses-fitted, length-places_set, uses-mapped, new_or_used}
use Rattle.snapshot_text.proofs.ClearedPlaces.{length-gone_if, uses-gone_if}
use Rattle.meta_store.proofs.StubsAfter.{IsTakenOn, stubs-after}
use Rattle.meta_store.proofs.FileEdits.{name_of, uses_of}
use Rattle.meta_store.proofs.SnapshotFits.{limits_countable}

pub stood : (r : Record) (c : Catalog) → IsAboutOne r → CanStand r c → (f : CatalogFile) × (find_key (λ g. g.key) (key_on (inode_of r) c) c.files ≡ Some f) × CanStandOn r f c
stood (Make key name) c about stands = absurd about
stood (Drop ino) c about stands = absurd about
stood r c about stands = stands

pub fits : (r : Record) (f : CatalogFile) (c : Catalog) → CanStandOn r f c → FitsParts r (parts_of f)
fits (Size ino size) f c stands = omega (arith, stands, (limits_countable c.geometry).0)
fits (Map ino block places) f c stands = stands.blocks
fits (Stub ino j None) f c stands = stands
fits (Stub ino j (Some stub)) f c stands = stands.turns
fits r f c stands = tt

pub named-after : (r : Record) (g : CatalogFile) → name_of (file_after r g) ≡ name_of g
named-after r g = grind arith

pub file-after : (r : Record) (f : CatalogFile) (x : FileParts) (size : ℕ) → x ≡ parts_after r (parts_of f) → size ≡ (file_after r f).size → file_after r f ≡ file_of f.key f.name size x
file-after r f x size is sized = grind arith

sized-after : (r : Record) (f : CatalogFile) (c : Catalog) → CanStandOn r f c → f.size ≤ (geometry_of c.geometry).limits.bytes → length f.places ≡ blocks_in f.size → ((file_after r f).size ≤ (geometry_of c.geometry).limits.bytes) × (length (file_after r f).places ≡ blocks_in (file_after r f).size)
sized-after (Size ino size) f c stands few count = (stands, length-fitted size f.places)
sized-after (Map ino block places) f c stands few count = (few, length-places_set (mappings_from block places) f.places ∙ count)
sized-after (Stub ino j None) f c stands few count = (few, count)
sized-after (Stub ino j (Some stub)) f c stands few count = (few, length-gone_if stub.offline j f.places ∙ count)
sized-after r f c stands few count = (few, count)

-- the file's blocks are some of those before, and new ones of the disk that no file used
pub uses-after : (n : ℕ) (r : Record) (f : CatalogFile) (c : Catalog) → CanStandOn r f c → uses n (blocks_of c.files) ≤ 1 → (new : ℕ) × (uses_of n (file_after r f) ≤ new + uses_of n f) × (new + uses n (blocks_of c.files) ≤ 1) × (1 ≤ new → n < (geometry_of c.geometry).blocks)
uses-after n (Map ino block places) f c stands once =
    (uses n places, uses-mapped n block places f.places, grind (arith, new_or_used n places (blocks_of c.files) stands.unused, distinct-uses places stands.distinct n), each-used (λ b. b < (geometry_of c.geometry).blocks) places stands.within n)
uses-after n (Size ino size) f c stands once = (0, omega (arith, uses-fitted n size f.places), omega arith, λ some. absurd (omega arith))
uses-after n (Stub ino j None) f c stands once = (0, omega arith, omega arith, λ some. absurd (omega arith))
uses-after n (Stub ino j (Some stub)) f c stands once = (0, omega (arith, uses-gone_if n stub.offline j f.places), omega arith, λ some. absurd (omega arith))
uses-after n r f c stands once = (0, omega arith, omega arith, λ some. absurd (omega arith))

pub IsCatalogFile-after : (r : Record) (f : CatalogFile) (c : Catalog) (others : Others) (geometry : Geometry) → IsCatalog c → IsTakenOn r f c others geometry → IsCatalogFile (geometry_of c.geometry) f → IsCatalogFile (geometry_of c.geometry) (file_after r f)
IsCatalogFile-after r f c others geometry is t old =
    let named = named-after r f in
    let sized = sized-after r f c t.stands old.size old.places in
    record {
      generation = grind (arith, named, old.generation);
      name = grind (arith, named, old.name);
      size = sized.0;
      places = sized.1;
      within = used-each _ _ (λ n used. let more = uses-after n r f c t.stands (distinct-uses (blocks_of c.files) is.distinct n) in let before = each-used (λ b. b < (geometry_of c.geometry).blocks) (present f.places) old.within n in grind (arith, more.1, more.3));
      kept = t.kept;
      ascend = t.ascend;
      stubs = stubs-after r f c others geometry t old.stubs;
    }
