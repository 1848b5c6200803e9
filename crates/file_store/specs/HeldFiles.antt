-- The files of a store in memory: what is kept of them beside their bytes, and the bytes.
use Rattle.std.specs.Prelude.{◌≡◌, List, length}
use Rattle.meta_store.specs.Catalogs.{IsCatalog}
use Rattle.snapshot_text.specs.Files.{geometry_of}
use Rattle.meta_store.specs.Meta.{Meta}
use Rattle.file_body.specs.HeldBodies.{HeldBody}
use Rattle.file_store.specs.Bodies.{AreBodies}

-- the catalog is lawful, each file has a body of its size, whose segments are here exactly where they aren't offline, and there is a body for each inode
pub record IsHeldFiles (bodies : List HeldBody) (m : Meta) : Type 0 where
  pub catalog : IsCatalog m.current
  pub sizes : AreBodies bodies m.current.files
  pub count : length bodies ≡ (geometry_of m.current.geometry).files
