-- How many bytes the records of an event have.
use Rattle.std.specs.Prelude.{◌≡◌, ℕ, ◌≤◌, true, List, [], ◌∷◌, length, Option, Some, None, is_some}
use Rattle.std.specs.List.{AllByRecursion}
use Rattle.hsm_types.specs.Limits.{name_bytes, value_bytes, access_bytes, file_regions, file_segments}
use Rattle.hsm_types.specs.Segments.{from_on}
use Rattle.hsm_types.specs.Stubs.{Stubs, stub_at, entry_print}
use Rattle.hsm_types.specs.declared.stubs.Stub.{Stub as StubOf}
use Rattle.plain_model.specs.Blocks.{touched}
use Rattle.journal_records.specs.declared.records.Record.{Record}
use Rattle.journal_records.specs.declared.records.Record.TheVariants.{Make, Map, Regions, SetAttr, DropAttr, Stub}
use Rattle.journal_records.specs.Texts.{records_text, IsShort}
use Rattle.meta_store.specs.Batches.{FitEmpty}
use Rattle.file_store.specs.Punches.{punch_records}
use Rattle.file_store.specs.declared.rewrites.Rewrite.{Rewrite}
use Rattle.file_store.specs.declared.rewrites.Rewrite.TheVariants.{Write, Resize, Restore}
use Rattle.file_store.specs.Rewrites.{effect_of, IsRewrite, IsRewriting, mappings_of}

-- of the greatest: a punch of all segments of the longest file, 256 entries of 58 bytes
abbrev pub event_bytes : ℕ
event_bytes = 14848

-- the blocks that an access touches: those that its bytes meet, and that in which the file ended
abbrev pub access_blocks : ℕ
access_blocks = 18

-- Each of the records can be spelled, and together they have no more bytes than those of the greatest event.
pub record AreFew (rs : List Record) : Type 0 where
  pub short : AllByRecursion IsShort rs
  pub bytes : length (records_text rs) ≤ event_bytes

-- the digest of the entry has 32 bytes
abbrev pub HasDigest : Option StubOf → Type 0
HasDigest None = Unit {0}
HasDigest (Some stub) = length (entry_print stub.entry).digest.0 ≡ 32

-- so have those of all entries of a file
abbrev pub HaveDigests : Stubs → Type 0
HaveDigests stubs = (j : ℕ) → HasDigest (stub_at j stubs)

-- what it names and lists is within the limits
abbrev pub IsSmall : Record → Type 0
IsSmall (Make key name) = length name ≤ name_bytes
IsSmall (Map ino block places) = length places ≤ access_blocks
IsSmall (Regions ino regions) = length regions ≤ file_regions
IsSmall (SetAttr ino name value) = (length name.0 ≡ 8) × (length value ≤ value_bytes)
IsSmall (DropAttr ino name) = length name.0 ≡ 8
IsSmall (Stub ino j stub) = HasDigest stub
IsSmall r = Unit {0}

-- what is written is no longer than the longest access
abbrev pub IsAccess : Rewrite → Type 0
IsAccess (Write offset bytes) = length bytes.now ≤ access_bytes
IsAccess change = Unit {0}

-- ---- which events there are

-- a record alone
abbrev pub IsFewAlone : Record → Type 0
IsFewAlone r = IsSmall r → AreFew (r ∷ [])

-- the records of a change of a file's bytes
abbrev pub IsFewRewritten : (ino : ℕ) (change : Rewrite) (size : ℕ) (stubs : Stubs) (places : List ℕ) → List Record → Type 0
IsFewRewritten ino change size stubs places rs = IsRewrite change → IsAccess change → HaveDigests stubs → IsRewriting ino change size stubs (mappings_of (touched (effect_of change) size) places) rs → AreFew rs

-- those of a punch
abbrev pub IsFewPunched : (ino : ℕ) (stubs : Stubs) (segments : List ℕ) → Type 0
IsFewPunched ino stubs segments = HaveDigests stubs → length segments ≤ file_segments → AreFew (punch_records ino stubs segments)

-- the greatest: each segment of the longest file has an entry
abbrev pub IsGreatest : (ino : ℕ) (stubs : Stubs) → Type 0
IsGreatest ino stubs = HaveDigests stubs → ((j : ℕ) → is_some (stub_at j stubs) ≡ true) → length (records_text (punch_records ino stubs (from_on 0 file_segments))) ≡ event_bytes

-- whatever the geometry, its empty journal has room for each
abbrev pub FitsEach : ℕ → List Record → Type 0
FitsEach geometry rs = AreFew rs → FitEmpty geometry rs
