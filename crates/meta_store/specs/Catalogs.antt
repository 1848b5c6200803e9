-- What a store keeps of its files beside their bytes.
use Rattle.std.specs.Prelude.{ℕ, ◌≤◌, List, length, map, sum_by}
use Rattle.std.specs.List.{flat_map, AllByRecursion}
use Rattle.hsm_types.specs.Limits.{last_generation}
use Rattle.hsm_types.specs.Attributes.{bytes_of_attributes}
use Rattle.plain_model.specs.Plain.{Listed}
use Rattle.plain_model.specs.Distinct.{Distinct}
use Rattle.inode_table.specs.Table.{IsTable}
use Rattle.snapshot_text.specs.Files.{CatalogFile, geometry_of, present, HasLengths, IsCatalogFile}

-- the files of a store in the order of their inodes, and the next generation
pub record Catalog : Type 0 where
  pub geometry : ℕ
  pub next : ℕ
  pub files : List CatalogFile

-- the key and the name of each file
abbrev pub names_of : List CatalogFile → List Listed
names_of files = map (λ f. record { key = f.key; name = f.name }) files

-- the disk's blocks that files use
abbrev pub blocks_of : List CatalogFile → List ℕ
blocks_of files = flat_map (λ f. present f.places) files

-- what the attributes of all files count
abbrev pub attribute_total : List CatalogFile → ℕ
attribute_total files = sum_by (λ f. bytes_of_attributes f.kept.attributes) files

-- how many stub entries all files have
abbrev pub stub_total : List CatalogFile → ℕ
stub_total files = sum_by (λ f. length f.kept.stubs) files

-- What is true of each catalog: inodes ascend and are within the geometry's, names differ, each generation is below the next one, no block
-- of the disk is used twice, and all attributes together, and all stub entries, count at most what the geometry allows.
pub record IsCatalog (c : Catalog) : Type 0 where
  pub known : c.geometry ≤ 1
  pub first : 1 ≤ c.next
  pub next : c.next ≤ last_generation
  pub table : IsTable (geometry_of c.geometry).files c.next (names_of c.files)
  pub each : AllByRecursion (IsCatalogFile (geometry_of c.geometry)) c.files
  pub distinct : Distinct (blocks_of c.files)
  pub few : attribute_total c.files ≤ (geometry_of c.geometry).attributes
  pub few_stubs : stub_total c.files ≤ (geometry_of c.geometry).stubs

-- Between two events each entry of its files has the length of its segment. The records of one event may change a size before they drop the entry of the
-- segment that it cuts.
abbrev pub AreLengths : Catalog → Type 0
AreLengths c = AllByRecursion HasLengths c.files
