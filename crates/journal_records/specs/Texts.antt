-- How the records of a journal are spelled. All numbers are big-endian.
use Rattle.std.specs.Prelude.{◌≡◌, ℕ, ◌<◌, ◌^◌, List, [], ◌++◌, length, Bool, if◌then◌else◌, Option, Some, None}
use Rattle.std.specs.List.{flat_map, AllByRecursion}
use Rattle.byteorder.specs.Endian.{big_bytes}
use Rattle.hsm_types.specs.declared.regions.Region.{Region}
use Rattle.hsm_types.specs.declared.stubs.StubEntry.{StubEntry}
use Rattle.hsm_types.specs.declared.stubs.Stub.{Stub as StubOf}
use Rattle.hsm_types.specs.Stubs.{entry_place, entry_print}
use Rattle.journal_records.specs.declared.records.Record.{Record}
use Rattle.journal_records.specs.declared.records.Record.TheVariants.{Make, Drop, Size, Map, Regions, SetAttr, DropAttr, Stub}

-- the inode of the file that a record is about
abbrev pub inode_of : Record → ℕ
inode_of (Make key name) = key.ino
inode_of (Drop ino) = ino
inode_of (Size ino size) = ino
inode_of (Map ino block places) = ino
inode_of (Regions ino regions) = ino
inode_of (SetAttr ino name value) = ino
inode_of (DropAttr ino name) = ino
inode_of (Stub ino j stub) = ino

-- what each kind of record begins with
abbrev pub tag_of : Record → ℕ
tag_of (Make key name) = 1
tag_of (Drop ino) = 2
tag_of (Size ino size) = 3
tag_of (Map ino block places) = 4
tag_of (Regions ino regions) = 5
tag_of (SetAttr ino name value) = 6
tag_of (DropAttr ino name) = 7
tag_of (Stub ino j stub) = 8

-- ---- fields

-- a number of n bytes that says how many there are, and each
abbrev pub counted_bytes : {X : Type 0} → ℕ → (X → List ℕ) → List X → List ℕ
counted_bytes n text xs = big_bytes n (length xs) ++ flat_map text xs

-- a number of n bytes that says how many bytes there are, and they
abbrev pub sized_bytes : ℕ → List ℕ → List ℕ
sized_bytes n bytes = big_bytes n (length bytes) ++ bytes

abbrev pub region_bytes : Region → List ℕ
region_bytes r = big_bytes 8 r.offset ++ big_bytes 8 r.size ++ big_bytes 1 r.flags

abbrev pub entry_bytes : StubEntry → List ℕ
entry_bytes e = big_bytes 4 (entry_place e).volume ++ big_bytes 4 (entry_place e).object ++ big_bytes 4 (entry_print e).len ++ (entry_print e).digest.0

-- a segment without an entry has the state 0, a sealed one 1, and one that is offline 2
abbrev pub state_of : Bool → ℕ
state_of offline = if offline then 2 else 1

abbrev pub stub_bytes : Option StubOf → List ℕ
stub_bytes None = big_bytes 1 0
stub_bytes (Some stub) = big_bytes 1 (state_of stub.offline) ++ entry_bytes stub.entry

-- ---- records

-- what stands behind the tag and the inode
abbrev pub fields_text : Record → List ℕ
fields_text (Make key name) = big_bytes 8 key.igen ++ sized_bytes 1 name
fields_text (Drop ino) = []
fields_text (Size ino size) = big_bytes 8 size
fields_text (Map ino block places) = big_bytes 4 block ++ counted_bytes 1 (big_bytes 4) places
fields_text (Regions ino regions) = counted_bytes 1 region_bytes regions
fields_text (SetAttr ino name value) = name.0 ++ sized_bytes 2 value
fields_text (DropAttr ino name) = name.0
fields_text (Stub ino j stub) = big_bytes 4 j ++ stub_bytes stub

unfoldable pub record_text : Record → List ℕ
record_text r = big_bytes 1 (tag_of r) ++ big_bytes 8 (inode_of r) ++ fields_text r

-- one record behind the other
abbrev pub records_text : List Record → List ℕ
records_text rs = flat_map record_text rs

-- ---- what can be spelled

-- no list is longer than its count can say
abbrev pub IsShort : Record → Type 0
IsShort (Make key name) = length name < 2 ^ 8
IsShort (Map ino block places) = length places < 2 ^ 8
IsShort (Regions ino regions) = length regions < 2 ^ 8
IsShort (SetAttr ino name value) = length value < 2 ^ 16
IsShort r = Unit {0}

abbrev pub RegionFits : Region → Type 0
RegionFits r = (r.offset < 2 ^ 64) × (r.size < 2 ^ 64) × (r.flags < 2 ^ 8)

-- a digest has 32 bytes
pub record EntryFits (e : StubEntry) : Type 0 where
  pub volume : (entry_place e).volume < 2 ^ 32
  pub object : (entry_place e).object < 2 ^ 32
  pub len : (entry_print e).len < 2 ^ 32
  pub digest : length (entry_print e).digest.0 ≡ 32

abbrev pub StubFits : Option StubOf → Type 0
StubFits None = Unit {0}
StubFits (Some stub) = EntryFits stub.entry

abbrev pub FieldsFit : Record → Type 0
FieldsFit (Make key name) = (key.igen < 2 ^ 64) × (length name < 2 ^ 8)
FieldsFit (Drop ino) = Unit {0}
FieldsFit (Size ino size) = size < 2 ^ 64
FieldsFit (Map ino block places) = (block < 2 ^ 32) × (length places < 2 ^ 8) × AllByRecursion (λ p. p < 2 ^ 32) places
FieldsFit (Regions ino regions) = (length regions < 2 ^ 8) × AllByRecursion RegionFits regions
FieldsFit (SetAttr ino name value) = (length name.0 ≡ 8) × (length value < 2 ^ 16)
FieldsFit (DropAttr ino name) = length name.0 ≡ 8
FieldsFit (Stub ino j stub) = (j < 2 ^ 32) × StubFits stub

-- each number is one that its field can hold, and each list as long as its count can say
abbrev pub RecordFits : Record → Type 0
RecordFits r = (inode_of r < 2 ^ 64) × FieldsFit r
