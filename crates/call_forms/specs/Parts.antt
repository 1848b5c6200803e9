-- The parts of which calls are made.
use Rattle.std.specs.Prelude.{ℕ, List, [], ◌∷◌, length, min, sum_by, replicate, drop, Option, Some, None}
use Rattle.hsm_types.specs.Limits.{access_bytes}
use Rattle.hsm_types.specs.Stubs.{entry_at}
use Rattle.hsm_types.specs.declared.attributes.AttrName.{AttrName}
use Rattle.hsm_types.specs.Messages.{no_kinds}
use Rattle.hsm_types.specs.declared.dm.Kinds.{Kinds}
use Rattle.hsm_types.specs.declared.dm.Response.{Response}
use Rattle.hsm_types.specs.declared.dm.Response.TheVariants.{Continue}
use Rattle.hsm_types.specs.declared.dm.Right.{Right}
use Rattle.hsm_types.specs.declared.dm.Right.TheVariants.{Null}
use Rattle.hsm_types.specs.declared.keys.Handle.{Handle}
use Rattle.hsm_types.specs.declared.regions.Region.{Region}
use Rattle.hsm_types.specs.declared.stubs.Digest.{Digest}
use Rattle.hsm_types.specs.declared.stubs.StubEntry.{StubEntry}
use Rattle.call_forms.specs.declared.parts.PartKind.{PartKind}
use Rattle.call_forms.specs.declared.parts.PartKind.TheVariants as kinds
use Rattle.call_forms.specs.declared.parts.Part.{Part}
use Rattle.call_forms.specs.declared.parts.Part.TheVariants as part
use Rattle.call_forms.specs.declared.parts.PartRef.{PartRef}
use Rattle.call_forms.specs.declared.parts.PartRef.TheVariants as lent

abbrev pub kind_of : Part → PartKind
kind_of (part.Number n) = kinds.Number
kind_of (part.Count n) = kinds.Count
kind_of (part.Fetch len) = kinds.Fetch
kind_of (part.Word word) = kinds.Word
kind_of (part.Handle handle) = kinds.Handle
kind_of (part.Regions regions) = kinds.Regions
kind_of (part.Name name) = kinds.Name
kind_of (part.Kinds taken) = kinds.Kinds
kind_of (part.Response response) = kinds.Response
kind_of (part.Right right) = kinds.Right
kind_of (part.Digest digest) = kinds.Digest
kind_of (part.Data bytes) = kinds.Data
kind_of (part.Verified bytes) = kinds.Verified

-- a part that is lent
abbrev pub part_of : PartRef → Part
part_of (lent.Number n) = part.Number n
part_of (lent.Count n) = part.Count n
part_of (lent.Fetch len) = part.Fetch len
part_of (lent.Word word) = part.Word word.now
part_of (lent.Handle handle) = part.Handle handle
part_of (lent.Regions regions) = part.Regions regions.now
part_of (lent.Name name) = part.Name name
part_of (lent.Kinds taken) = part.Kinds taken
part_of (lent.Response response) = part.Response response.now
part_of (lent.Right right) = part.Right right
part_of (lent.Digest digest) = part.Digest digest
part_of (lent.Data bytes) = part.Data bytes.now
part_of (lent.Verified bytes) = part.Verified bytes.now

-- the parts that are lent in as many places or more
abbrev pub parts_in : List (Option PartRef) → List Part
parts_in [] = []
parts_in (None ∷ places) = parts_in places
parts_in (Some part ∷ places) = part_of part ∷ parts_in places

-- the bytes that a part brings or may fetch. The store refuses longer reads
abbrev pub part_access : Part → ℕ
part_access (part.Fetch len) = min len access_bytes
part_access (part.Data bytes) = length bytes
part_access (part.Verified bytes) = length bytes
part_access other = 0

-- the bytes that parts bring or may fetch together
abbrev pub access_of : List Part → ℕ
access_of parts = sum_by part_access parts

-- ---- the first part, if it is of that kind

abbrev pub number_in : List Part → ℕ
number_in (part.Number n ∷ parts) = n
number_in parts = 0

abbrev pub count_in : List Part → ℕ
count_in (part.Count n ∷ parts) = n
count_in parts = 0

abbrev pub fetch_in : List Part → ℕ
fetch_in (part.Fetch len ∷ parts) = len
fetch_in parts = 0

abbrev pub word_in : List Part → List ℕ
word_in (part.Word word ∷ parts) = word
word_in parts = []

abbrev pub handle_in : List Part → Handle
handle_in (part.Handle handle ∷ parts) = handle
handle_in parts = record { fsid = 0; key = record { ino = 0; igen = 0 } }

abbrev pub regions_in : List Part → List Region
regions_in (part.Regions regions ∷ parts) = regions
regions_in parts = []

abbrev pub name_in : List Part → AttrName
name_in (part.Name name ∷ parts) = name
name_in parts = record { 0 = replicate 8 0 }

abbrev pub kinds_in : List Part → Kinds
kinds_in (part.Kinds taken ∷ parts) = taken
kinds_in parts = no_kinds

abbrev pub response_in : List Part → Response
response_in (part.Response response ∷ parts) = response
response_in parts = Continue

abbrev pub right_in : List Part → Right
right_in (part.Right right ∷ parts) = right
right_in parts = Null

abbrev pub digest_in : List Part → Digest
digest_in (part.Digest digest ∷ parts) = digest
digest_in parts = record { 0 = replicate 32 0 }

-- of the first four parts
abbrev pub entry_in : List Part → StubEntry
entry_in parts = entry_at
    (record { volume = count_in parts; object = count_in (drop 1 parts) })
    (record { len = count_in (drop 1 (drop 1 parts)); digest = digest_in (drop 1 (drop 1 (drop 1 parts))) })

abbrev pub verified_in : List Part → List ℕ
verified_in (part.Verified bytes ∷ parts) = bytes
verified_in parts = []

abbrev pub data_in : List Part → List ℕ
data_in (part.Data bytes ∷ parts) = bytes
data_in parts = []
