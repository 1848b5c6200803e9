-- The bytes of a snapshot.
use Rattle.std.specs.Prelude.{◌≡◌, ℕ, ◌+◌, ◌<◌, ◌^◌, List, [], ◌∷◌, ◌++◌, length, map, Option, Some, None}
use Rattle.std.specs.List.{AllByRecursion}
use Rattle.byteorder.specs.Endian.{big_bytes}
use Rattle.hsm_types.specs.declared.keys.FileKey.{FileKey}
use Rattle.hsm_types.specs.declared.attributes.AttrName.{AttrName}
use Rattle.hsm_types.specs.Kept.{Kept}
use Rattle.hsm_types.specs.declared.stubs.Stub.{Stub}
use Rattle.journal_records.specs.Texts.{sized_bytes, counted_bytes, region_bytes, entry_bytes, state_of, RegionFits}
use Rattle.snapshot_text.specs.declared.snapshot.Mapping.{Mapping}
use Rattle.snapshot_text.specs.declared.snapshot.RawFile.{RawFile}
use Rattle.snapshot_text.specs.declared.snapshot.RawSnapshot.{RawSnapshot}
use Rattle.snapshot_text.specs.Files.{CatalogFile, NumbersFit}

-- a file as a snapshot spells it
pub record SnapshotFile : Type 0 where
  pub key : FileKey
  pub size : ℕ
  pub name : List ℕ
  pub kept : Kept
  pub extents : List Mapping

-- a snapshot: the number of history entries before the commit, the next generation, and the files
pub record Snapshot : Type 0 where
  pub number : ℕ
  pub next : ℕ
  pub files : List SnapshotFile

-- the snapshot that was read
abbrev pub raw_file : RawFile → SnapshotFile
raw_file f = record { key = f.key; size = f.size; name = f.name; kept = record { regions = f.regions; attributes = f.attributes.items; stubs = f.stubs.items }; extents = f.extents.items }

abbrev pub raw_snapshot : RawSnapshot → Snapshot
raw_snapshot s = record { number = s.number; next = s.next; files = map raw_file s.files.items }

-- ---- its bytes, all numbers big-endian

abbrev pub key_bytes : FileKey → List ℕ
key_bytes k = big_bytes 8 k.ino ++ big_bytes 8 k.igen

abbrev pub extent_bytes : Mapping → List ℕ
extent_bytes e = big_bytes 4 e.block ++ big_bytes 4 e.place

-- the name of an attribute has eight bytes, and its value its length in front
abbrev pub attribute_bytes : AttrName × List ℕ → List ℕ
attribute_bytes a = a.0.0 ++ sized_bytes 2 a.1

-- a segment with its state and its entry
abbrev pub stub_bytes : ℕ × Stub → List ℕ
stub_bytes x = big_bytes 4 x.0 ++ big_bytes 1 (state_of x.1.offline) ++ entry_bytes x.1.entry

unfoldable pub bytes_of_file : SnapshotFile → List ℕ
bytes_of_file f =
    key_bytes f.key ++ big_bytes 8 f.size
    ++ sized_bytes 1 f.name
    ++ counted_bytes 1 region_bytes f.kept.regions
    ++ counted_bytes 4 attribute_bytes f.kept.attributes
    ++ counted_bytes 4 extent_bytes f.extents
    ++ counted_bytes 4 stub_bytes f.kept.stubs

-- The format is 1.
unfoldable pub spelling : Snapshot → List ℕ
spelling s = big_bytes 8 s.number ++ big_bytes 8 s.next ++ big_bytes 4 1 ++ counted_bytes 4 bytes_of_file s.files

abbrev pub AttributeFits : AttrName × List ℕ → Type 0
AttributeFits a = (length a.0.0 ≡ 8) × (length a.1 < 2 ^ 16)

abbrev pub ExtentFits : Mapping → Type 0
ExtentFits e = (e.block < 2 ^ 32) × (e.place < 2 ^ 32)

-- each number is one that its field can hold
pub record FileFits (f : SnapshotFile) : Type 0 where
  pub ino : f.key.ino < 2 ^ 64
  pub igen : f.key.igen < 2 ^ 64
  pub size : f.size < 2 ^ 64
  pub name : length f.name < 2 ^ 8
  pub regions : length f.kept.regions < 2 ^ 8
  pub each_region : AllByRecursion RegionFits f.kept.regions
  pub attributes : length f.kept.attributes < 2 ^ 32
  pub each_attribute : AllByRecursion AttributeFits f.kept.attributes
  pub extents : length f.extents < 2 ^ 32
  pub each_extent : AllByRecursion ExtentFits f.extents
  pub stubs : length f.kept.stubs < 2 ^ 32
  pub each_stub : AllByRecursion NumbersFit f.kept.stubs

pub record Fits (s : Snapshot) : Type 0 where
  pub number : s.number < 2 ^ 64
  pub next : s.next < 2 ^ 64
  pub count : length s.files < 2 ^ 32
  pub each : AllByRecursion FileFits s.files

-- The snapshot is spelled at the front of the area. What is behind it isn't read.
pub record IsSpelled (area : List ℕ) (s : Snapshot) : Type 0 where
  pub fits : Fits s
  pub rest : List ℕ
  pub spelled : area ≡ spelling s ++ rest

-- ---- the file of a catalog

-- the blocks from n on that the disk has
abbrev pub extents_from : ℕ → List (Option ℕ) → List Mapping
extents_from n [] = []
extents_from n (None ∷ places) = extents_from (n + 1) places
extents_from n (Some at ∷ places) = (record { block = n; place = at }) ∷ extents_from (n + 1) places

abbrev pub snapshot_file : CatalogFile → SnapshotFile
snapshot_file f = record { key = f.key; size = f.size; name = f.name; kept = f.kept; extents = extents_from 0 f.places }
