-- The snapshot of a catalog.
use Rattle.std.specs.Prelude.{ℕ, ◌≤◌, List, map}
use Rattle.hsm_types.specs.Limits.{last_number}
use Rattle.meta_store.specs.Catalogs.{Catalog, IsCatalog, AreLengths}
use Rattle.snapshot_text.specs.Snapshots.{Snapshot, IsSpelled, snapshot_file}

unfoldable pub snapshot_of : ℕ → Catalog → Snapshot
snapshot_of number c = record { number = number; next = c.next; files = map snapshot_file c.files }

-- the area holds a valid snapshot, of that number and that catalog
pub record IsSnapshot (area : List ℕ) (n : ℕ) (c : Catalog) : Type 0 where
  pub number : n ≤ last_number
  pub catalog : IsCatalog c
  pub lengths : AreLengths c
  pub spelled : IsSpelled area (snapshot_of n c)
