-- What is kept of a file beside its key, its name and its size.
use Rattle.std.specs.Prelude.{◌≡◌, ℕ, ◌+◌, ◌≤◌, List, [], length, false, Some, None}
use Rattle.hsm_types.specs.Limits.{file_bytes}
use Rattle.hsm_types.specs.declared.keys.FileKey.{FileKey}
use Rattle.hsm_types.specs.Kept.{Kept}
use Rattle.hsm_types.specs.Stubs.{offline_at}
use Rattle.snapshot_text.specs.declared.file_parts.FileParts.{FileParts}
use Rattle.journal_records.specs.declared.records.Record.{Record}
use Rattle.journal_records.specs.declared.records.Record.TheVariants.{Size, Map, SetAttr, Stub}
use Rattle.snapshot_text.specs.Files.{CatalogFile, NumbersFit}
use Rattle.snapshot_text.specs.FileRecords.{file_after, FitsStub}

-- of a new file
abbrev pub no_parts : FileParts
no_parts = record { places = []; regions = []; attributes = []; stubs = [] }

-- what sessions keep with the file
abbrev pub kept_in : FileParts → Kept
kept_in parts = record { regions = parts.regions; attributes = parts.attributes; stubs = parts.stubs }

abbrev pub file_of : FileKey → List ℕ → ℕ → FileParts → CatalogFile
file_of key name size parts = record { key = key; name = name; size = size; places = parts.places; kept = kept_in parts }

-- what is kept of a file beside its key, its name and its size
abbrev pub parts_of : CatalogFile → FileParts
parts_of f = record { places = f.places; regions = f.kept.regions; attributes = f.kept.attributes; stubs = f.kept.stubs }

-- the parts after a record about their file
abbrev pub parts_after : Record → FileParts → FileParts
parts_after r parts = parts_of (file_after r (file_of (record { ino = 0; igen = 0 }) [] 0 parts))

-- the record is within what the code can count of a file, and what the parts have
abbrev pub FitsParts : Record → FileParts → Type 0
FitsParts (Size ino size) parts = size ≤ file_bytes
FitsParts (Map ino block places) parts = block + length places ≤ length parts.places
FitsParts (Stub ino j None) parts = offline_at parts.stubs j ≡ false
FitsParts (Stub ino j (Some stub)) parts = FitsStub j stub parts.stubs
FitsParts r parts = Unit {0}

-- each number of an entry that the record sets is one that its field can hold
abbrev pub IsNumbered : Record → Type 0
IsNumbered (Stub ino j (Some stub)) = NumbersFit (j, stub)
IsNumbered r = Unit {0}

-- the name of an attribute that the record sets has eight bytes
abbrev pub IsNamed : Record → Type 0
IsNamed (SetAttr ino name value) = length name.0 ≡ 8
IsNamed r = Unit {0}
