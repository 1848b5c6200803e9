-- Files while batches are taken.
use Rattle.std.specs.Prelude.{ℕ, List, map}
use Rattle.hsm_types.specs.declared.keys.FileKey.{FileKey}
use Rattle.hsm_types.specs.declared.regions.Region.{Region}
use Rattle.hsm_types.specs.Attributes.{Attributes}
use Rattle.hsm_types.specs.Stubs.{Stubs}
use Rattle.snapshot_text.specs.declared.snapshot.Mapping.{Mapping}
use Rattle.snapshot_text.specs.Snapshots.{SnapshotFile}

-- a block and its place, as an extent
abbrev pub mapping_of : ℕ × ℕ → Mapping
mapping_of e = record { block = e.0; place = e.1 }

-- what contracts see of a file
abbrev pub file_seen : FileKey → List ℕ → ℕ → List Region → Attributes → List (ℕ × ℕ) → Stubs → SnapshotFile
file_seen key name size regions attributes extents stubs = record { key = key; size = size; name = name; kept = record { regions = regions; attributes = attributes; stubs = stubs }; extents = map mapping_of extents }
