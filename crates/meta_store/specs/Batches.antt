-- What a batch of a journal may be. Its records change, one after the other, what a snapshot would say of the files. Each is to apply where it stands;
-- all else is judged by what stands after the last of them, and not by what stands in between: there a block may lie past its file's end.
use Rattle.std.specs.Prelude.{◌≡◌, ℕ, ◌+◌, ◌*◌, ◌≤◌, List, [], ◌∷◌, length, filter, Bool, true, false, not, ◌&&◌, ◌==◌, nat_lt, nat_le, if◌then◌else◌, Some, None}
use Rattle.std.specs.List.{list_any, AllByRecursion}
use Rattle.hsm_types.specs.Limits.{segment_blocks, last_number, last_generation}
use Rattle.hsm_types.specs.declared.keys.FileKey.{FileKey}
use Rattle.hsm_types.specs.Attributes.{with_value, without_value}
use Rattle.hsm_types.specs.Kept.{nothing_kept}
use Rattle.hsm_types.specs.Keyed.{change_key, put_key, drop_key}
use Rattle.hsm_types.specs.Segments.{segments_in}
use Rattle.hsm_types.specs.Stubs.{with_stub, without_stub, stubs_below}
use Rattle.plain_model.specs.Plain.{named}
use Rattle.plain_model.specs.Blocks.{blocks_in}
use Rattle.plain_model.specs.Distinct.{Distinct}
use Rattle.inode_table.specs.Listing.{key_at, has_inode}
use Rattle.inode_table.specs.Table.{IsTable}
use Rattle.commit_slots.specs.Places.{layout_of}
use Rattle.std.specs.Option.{unwrap_or}
use Rattle.snapshot_text.specs.declared.snapshot.Mapping.{Mapping}
use Rattle.journal_records.specs.declared.records.Record.{Record}
use Rattle.journal_records.specs.declared.records.Record.TheVariants.{Make, Drop, Size, Map, Regions, SetAttr, DropAttr, Stub}
use Rattle.snapshot_text.specs.Files.{CatalogFile, geometry_of, HasLengths, IsCatalogFile}
use Rattle.meta_store.specs.Catalogs.{Catalog, IsCatalog, AreLengths}
use Rattle.journal_records.specs.Texts.{inode_of, records_text, IsShort, RecordFits}
use Rattle.snapshot_text.specs.FileRecords.{mappings_from}
use Rattle.snapshot_text.specs.Snapshots.{SnapshotFile, Snapshot, snapshot_file}
use Rattle.meta_store.specs.Snapshots.{snapshot_of}
use Rattle.meta_store.specs.Validity.{names_in, places_in, attribute_total_in, stub_total_in}

-- ---- extents of a file, which ascend

-- one more, in the place of that of the same block
abbrev pub with_extent : Mapping → List Mapping → List Mapping
with_extent m [] = m ∷ []
with_extent m (x ∷ xs) = if nat_lt x.block m.block then x ∷ with_extent m xs else if x.block == m.block then m ∷ xs else m ∷ x ∷ xs

abbrev pub with_extents : List Mapping → List Mapping → List Mapping
with_extents [] xs = xs
with_extents (m ∷ ms) xs = with_extents ms (with_extent m xs)

-- those of the first n blocks
abbrev pub extents_below : ℕ → List Mapping → List Mapping
extents_below n xs = filter (λ x. nat_lt x.block n) xs

-- those of all blocks but the segment's
abbrev pub extents_without : ℕ → List Mapping → List Mapping
extents_without j xs = filter (λ x. not (nat_le (segment_blocks * j) x.block && nat_lt x.block (segment_blocks * j + segment_blocks))) xs

-- ---- what records change

-- the file that a record is about, after it
abbrev pub file_changed : Record → SnapshotFile → SnapshotFile
file_changed (Size ino size) f = record f { size = size; extents = extents_below (blocks_in size) f.extents; kept = record f.kept { stubs = stubs_below (segments_in size) f.kept.stubs } }
file_changed (Map ino block places) f = record f { extents = with_extents (mappings_from block places) f.extents }
file_changed (Regions ino regions) f = record f { kept = record f.kept { regions = regions } }
file_changed (SetAttr ino name value) f = record f { kept = record f.kept { attributes = with_value name value f.kept.attributes } }
file_changed (DropAttr ino name) f = record f { kept = record f.kept { attributes = without_value name f.kept.attributes } }
file_changed (Stub ino j None) f = record f { kept = record f.kept { stubs = without_stub j f.kept.stubs } }
file_changed (Stub ino j (Some stub)) f = record f { extents = if stub.offline then extents_without j f.extents else f.extents; kept = record f.kept { stubs = with_stub j stub f.kept.stubs } }
file_changed r f = f

abbrev pub empty_file : FileKey → List ℕ → SnapshotFile
empty_file key name = record { key = key; size = 0; name = name; kept = nothing_kept; extents = [] }

-- the key of the file that has that inode; where none has it, one of no file
abbrev pub key_in : ℕ → List SnapshotFile → FileKey
key_in ino files = unwrap_or (key_at ino (names_in files)) (record { ino = ino; igen = 0 })

-- the store after a record
abbrev pub changed : Record → Snapshot → Snapshot
changed (Make key name) s = record s { next = key.igen + 1; files = put_key (λ f. f.key) (empty_file key name) s.files }
changed (Drop ino) s = record s { files = drop_key (λ f. f.key) (key_in ino s.files) s.files }
changed r s = record s { files = change_key (λ f. f.key) (key_in (inode_of r) s.files) (file_changed r) s.files }

abbrev pub changed_all : List Record → Snapshot → Snapshot
changed_all [] s = s
changed_all (r ∷ rs) s = changed_all rs (changed r s)

-- ---- batches

-- A new file's inode and its name are free, and its generation wasn't given yet.
pub record IsNew (key : FileKey) (name : List ℕ) (s : Snapshot) : Type 0 where
  pub inode : has_inode key.ino (names_in s.files) ≡ false
  pub free : named name (names_in s.files) ≡ None
  pub generation : s.next ≤ key.igen

-- what the record speaks of is there: a file with its inode, or for one that makes a file room for that
abbrev pub Applies : Record → Snapshot → Type 0
Applies (Make key name) s = IsNew key name s
Applies r s = has_inode (inode_of r) (names_in s.files) ≡ true

-- each does after those before it
abbrev pub AllApply : List Record → Snapshot → Type 0
AllApply [] s = Unit {0}
AllApply (r ∷ rs) s = Applies r s × AllApply rs (changed r s)

-- a valid snapshot of a store of that geometry could say this
pub record IsLawful (geometry : ℕ) (s : Snapshot) : Type 0 where
  pub catalog : Catalog
  pub kind : catalog.geometry ≡ geometry
  pub number : s.number ≤ last_number
  pub lawful : IsCatalog catalog
  pub lengths : AreLengths catalog
  pub says : s ≡ snapshot_of s.number catalog

-- the store after a batch of that number
abbrev pub after_batch : ℕ → List Record → Snapshot → Snapshot
after_batch number rs s = record (changed_all rs s) { number = number }

-- These records can stand in a batch of that number behind this store: each can be spelled, and applies.
pub record CanFollow (geometry : ℕ) (s : Snapshot) (number : ℕ) (rs : List Record) : Type 0 where
  pub rises : s.number ≤ number
  pub fit : AllByRecursion RecordFits rs
  pub files : AllApply rs s
  pub lawful : IsLawful geometry (after_batch number rs s)

-- ---- by what a batch is judged: by the files that its records are about, and by what is asked of all files together

-- one of the records is about that inode
abbrev pub is_about : List Record → ℕ → Bool
is_about rs ino = list_any (λ r. inode_of r == ino) rs

-- a file as a valid snapshot of such a store may have it, whatever others there are
pub record IsLawfulFile (geometry : ℕ) (f : SnapshotFile) : Type 0 where
  pub file : CatalogFile
  pub lawful : IsCatalogFile (geometry_of geometry) file
  pub lengths : HasLengths file
  pub says : f ≡ snapshot_file file

-- The files of a store that a valid snapshot may have together: their keys and names, the blocks of the disk, each once, and what their attributes and their
-- stub entries count.
pub record AreTogether (geometry : ℕ) (s : Snapshot) : Type 0 where
  pub first : 1 ≤ s.next
  pub next : s.next ≤ last_generation
  pub table : IsTable (geometry_of geometry).files s.next (names_in s.files)
  pub distinct : Distinct (places_in s.files)
  pub few : attribute_total_in s.files ≤ (geometry_of geometry).attributes
  pub few_stubs : stub_total_in s.files ≤ (geometry_of geometry).stubs

-- each file that one of the records is about is lawful
abbrev pub AreChangedLawful : ℕ → List Record → List SnapshotFile → Type 0
AreChangedLawful geometry rs files = AllByRecursion (λ f. is_about rs f.key.ino ≡ true → IsLawfulFile geometry f) files

-- ---- what fits a journal without batches

-- the bytes of a batch beside those of its records, with the gate behind it
abbrev pub batch_frame : ℕ
batch_frame = 18

-- Each of the records can be spelled, and a batch of them fits an empty journal of a store of that geometry.
pub record FitEmpty (geometry : ℕ) (rs : List Record) : Type 0 where
  pub short : AllByRecursion IsShort rs
  pub room : batch_frame + length (records_text rs) ≤ (layout_of geometry).journal_len
