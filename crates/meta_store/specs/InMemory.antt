-- A catalog in memory: a table of its files, for each inode, from 1, what is kept of the file that has it beside them, and what all attributes count.
use Rattle.std.specs.Prelude.{◌≡◌, ℕ, ◌-◌, List, length, map, slice_index_or}
use Rattle.inode_table.specs.declared.entries.FileEntry.{FileEntry}
use Rattle.inode_table.specs.Table.{Table}
use Rattle.snapshot_text.specs.declared.file_parts.FileParts.{FileParts}
use Rattle.snapshot_text.specs.Files.{CatalogFile, geometry_of}
use Rattle.meta_store.specs.Catalogs.{Catalog, IsCatalog, attribute_total, stub_total}
use Rattle.snapshot_text.specs.Parts.{no_parts, file_of}

abbrev pub file_held : List FileParts → FileEntry → CatalogFile
file_held parts e = file_of e.key e.name e.size (slice_index_or parts (e.key.ino - 1) no_parts)

-- the files of the table with their parts
abbrev pub files_held : List FileParts → List FileEntry → List CatalogFile
files_held parts entries = map (file_held parts) entries

abbrev pub catalog_held : ℕ → Table → List FileParts → Catalog
catalog_held geometry table parts = record { geometry = geometry; next = table.next; files = files_held parts table.files }

-- what is true of each catalog in memory: the table and the parts are of the geometry's size, and the counts of attributes' bytes and of stub entries
-- are right
pub record IsHeld (geometry : ℕ) (table : Table) (parts : List FileParts) (total stubs : ℕ) : Type 0 where
  pub limit : table.limit ≡ (geometry_of geometry).files
  pub count : length parts ≡ (geometry_of geometry).files
  pub counted : total ≡ attribute_total (files_held parts table.files)
  pub stubbed : stubs ≡ stub_total (files_held parts table.files)
  pub catalog : IsCatalog (catalog_held geometry table parts)
