-- What is judged of files after a batch.
use Rattle.std.specs.Prelude.{◌≡◌, ℕ, ◌<◌, ◌≤◌, length}
use Rattle.hsm_types.specs.declared.stores.Geometry.{Geometry}
use Rattle.hsm_types.specs.Attributes.{bytes_of_attributes}
use Rattle.snapshot_text.specs.Files.{CatalogFile, HasLengths, IsCatalogFile}
use Rattle.snapshot_text.specs.Snapshots.{SnapshotFile, snapshot_file}

-- a file as a valid snapshot of such a store may have it, where that is the next generation, but for its name and its blocks beside those of others
pub record IsAlone (geometry : Geometry) (next : ℕ) (f : SnapshotFile) : Type 0 where
  pub low : 1 ≤ f.key.ino
  pub high : f.key.ino ≤ geometry.files
  pub early : f.key.igen < next
  pub few : bytes_of_attributes f.kept.attributes ≤ geometry.attributes
  pub few_stubs : length f.kept.stubs ≤ geometry.stubs
  pub file : CatalogFile
  pub lawful : IsCatalogFile geometry file
  pub lengths : HasLengths file
  pub says : f ≡ snapshot_file file
