-- What records change of a catalog. Those of one event are taken together.
use Rattle.std.specs.Prelude.{◌≡◌, ℕ, ◌+◌, ◌/◌, ◌≤◌, ◌<◌, max, List, [], ◌∷◌, length}
use Rattle.std.specs.Prelude.{true, false, ◌==◌, Option, Some, None}
use Rattle.std.specs.List.{list_any, AllByRecursion}
use Rattle.std.specs.Option.{option_map, unwrap_or}
use Rattle.hsm_types.specs.Limits.{segment_blocks, last_generation}
use Rattle.hsm_types.specs.Names.{is_name}
use Rattle.hsm_types.specs.declared.keys.FileKey.{FileKey}
use Rattle.hsm_types.specs.declared.dm.DmRefusal.{DmRefusal}
use Rattle.hsm_types.specs.Refusals.{first_refusal}
use Rattle.hsm_types.specs.Stubs.{offline_at}
use Rattle.hsm_types.specs.declared.stubs.Stub.{Stub as StubOf}
use Rattle.hsm_types.specs.Kept.{Kept, nothing_kept}
use Rattle.hsm_types.specs.Keyed.{find_key, change_key, put_key, drop_key}
use Rattle.plain_model.specs.Plain.{named}
use Rattle.plain_model.specs.Distinct.{Distinct}
use Rattle.inode_table.specs.Listing.{key_at, has_inode}
use Rattle.journal_records.specs.declared.records.Record.{Record}
use Rattle.journal_records.specs.declared.records.Record.TheVariants.{Make, Drop, Size, Map, Stub}
use Rattle.snapshot_text.specs.declared.file_parts.Others.{Others}
use Rattle.snapshot_text.specs.Files.{CatalogFile, FitsButLength, geometry_of}
use Rattle.meta_store.specs.Catalogs.{Catalog, names_of, blocks_of, attribute_total, stub_total}
use Rattle.journal_records.specs.Texts.{inode_of}
use Rattle.snapshot_text.specs.FileRecords.{file_after, part_refusal, FitsStub, IsSure}

-- ---- the catalog

-- a file more; its generation isn't given again
abbrev pub with_put : CatalogFile → Catalog → Catalog
with_put f c = record c { next = max c.next (f.key.igen + 1); files = put_key (λ g. g.key) f c.files }

-- a file more, empty, with which nothing is kept
abbrev pub with_file : FileKey → List ℕ → Catalog → Catalog
with_file key name c = with_put (record { key = key; name = name; size = 0; places = []; kept = nothing_kept }) c

abbrev pub without_file : FileKey → Catalog → Catalog
without_file key c = record c { files = drop_key (λ f. f.key) key c.files }

-- that file has changed
abbrev pub with_changed : FileKey → (CatalogFile → CatalogFile) → Catalog → Catalog
with_changed key to c = record c { files = change_key (λ f. f.key) key to c.files }

-- the key of the file that has that inode; where none has it, one of no file
abbrev pub key_on : ℕ → Catalog → FileKey
key_on ino c = unwrap_or (key_at ino (names_of c.files)) (record { ino = ino; igen = 0 })

-- the catalog after a record
abbrev pub after : Record → Catalog → Catalog
after (Make key name) c = with_file key name c
after (Drop ino) c = without_file (key_on ino c) c
after r c = with_changed (key_on (inode_of r) c) (file_after r) c

abbrev pub after_all : List Record → Catalog → Catalog
after_all [] c = c
after_all (r ∷ rs) c = after_all rs (after r c)

-- ---- what refuses a record

-- what is kept with the file
abbrev pub kept_at : FileKey → Catalog → Kept
kept_at key c = unwrap_or (option_map (λ f. f.kept) (find_key (λ f. f.key) key c.files)) nothing_kept

-- what the attributes of all other files count
abbrev pub others_total : FileKey → Catalog → ℕ
others_total key c = attribute_total (without_file key c).files

-- how many stub entries they have
abbrev pub others_stubs : FileKey → Catalog → ℕ
others_stubs key c = stub_total (without_file key c).files

abbrev pub others_of : FileKey → Catalog → Others
others_of key c = record { attributes = others_total key c; stubs = others_stubs key c }

abbrev pub refusal_of : Record → Catalog → Option DmRefusal
refusal_of r c = part_refusal r (others_of (key_on (inode_of r) c) c) (geometry_of c.geometry) (kept_at (key_on (inode_of r) c) c)

-- of records, the refusal of the first that is refused, over the catalog after those before it
abbrev pub refusal_of_all : List Record → Catalog → Option DmRefusal
refusal_of_all [] c = None
refusal_of_all (r ∷ rs) c = first_refusal (refusal_of r c ∷ refusal_of_all rs (after r c) ∷ [])

-- ---- which records can come

-- A new file: its name and its inode are free, and its generation wasn't given yet.
pub record IsNewFile (key : FileKey) (name : List ℕ) (c : Catalog) : Type 0 where
  pub lawful : is_name name ≡ true
  pub free : named name (names_of c.files) ≡ None
  pub low : 1 ≤ key.ino
  pub high : key.ino ≤ (geometry_of c.geometry).files
  pub inode : has_inode key.ino (names_of c.files) ≡ false
  pub generation : c.next ≤ key.igen
  pub last : key.igen < last_generation

-- Blocks of a file and their places: the file has the blocks, none of them in a segment that is offline, and the disk has the places, which no file
-- uses, each once.
pub record IsMappable (block : ℕ) (places : List ℕ) (f : CatalogFile) (c : Catalog) : Type 0 where
  pub blocks : block + length places ≤ length f.places
  pub here : (b : ℕ) → block ≤ b → b < block + length places → offline_at f.kept.stubs (b / segment_blocks) ≡ false
  pub within : AllByRecursion (λ p. p < (geometry_of c.geometry).blocks) places
  pub unused : AllByRecursion (λ p. list_any (λ b. b == p) (blocks_of c.files) ≡ false) places
  pub distinct : Distinct places

-- a stub entry of a file, in the place of those that it has
pub record IsStubbable (j : ℕ) (stub : StubOf) (f : CatalogFile) : Type 0 where
  pub fits : FitsButLength f (j, stub)
  pub turns : FitsStub j stub f.kept.stubs

-- What no part judges: a file has the inode, and the record fits it. A segment without an entry has its bytes.
abbrev pub CanStandOn : Record → CatalogFile → Catalog → Type 0
CanStandOn (Size ino size) f c = size ≤ (geometry_of c.geometry).limits.bytes
CanStandOn (Map ino block places) f c = IsMappable block places f c
CanStandOn (Stub ino j None) f c = offline_at f.kept.stubs j ≡ false
CanStandOn (Stub ino j (Some stub)) f c = IsStubbable j stub f
CanStandOn r f c = Unit {0}

abbrev pub CanStand : Record → Catalog → Type 0
CanStand (Make key name) c = IsNewFile key name c
CanStand r c = (f : CatalogFile) × (find_key (λ f. f.key) (key_on (inode_of r) c) c.files ≡ Some f) × CanStandOn r f c

-- each stands on the catalog after those before it
abbrev pub CanStandAll : List Record → Catalog → Type 0
CanStandAll [] c = Unit {0}
CanStandAll (r ∷ rs) c = CanStand r c × CanStandAll rs (after r c)

-- it makes no file and drops none
abbrev pub IsAboutOne : Record → Type 0
IsAboutOne (Make key name) = ⊥
IsAboutOne (Drop ino) = ⊥
IsAboutOne r = Unit {0}

-- The records of an event are one, and behind it such as are sure. So none but the first may be refused, or take memory.
abbrev pub IsEvent : List Record → Type 0
IsEvent [] = Unit {0}
IsEvent (r ∷ rs) = AllByRecursion IsSure rs
