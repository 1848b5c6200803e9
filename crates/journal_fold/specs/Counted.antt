-- What files use together.
use Rattle.std.specs.Prelude.{◌≡◌, ℕ, ◌≤◌, List, [], ◌∷◌, length, slice_set, Bool, false}
use Rattle.hsm_types.specs.declared.stores.Geometry.{Geometry}
use Rattle.plain_model.specs.Distinct.{Distinct}
use Rattle.snapshot_text.specs.Snapshots.{SnapshotFile}
use Rattle.meta_store.specs.Validity.{places_in, attribute_total_in, stub_total_in, Flags}
use Rattle.journal_fold.specs.declared.uses.Uses.{Uses}

-- these flags are no longer set
abbrev pub with_free : List ℕ → List Bool → List Bool
with_free [] flags = flags
with_free (p ∷ ps) flags = with_free ps (slice_set flags p false)

-- the files fit a store of that geometry beside one another, but for their keys and names: each block of the disk stands once, and attributes and stub
-- entries count at most what they may
pub record FitTogether (geometry : Geometry) (fs : List SnapshotFile) : Type 0 where
  pub distinct : Distinct (places_in fs)
  pub few : attribute_total_in fs ≤ geometry.attributes
  pub few_stubs : stub_total_in fs ≤ geometry.stubs

-- they do, and that is what they use
pub record IsCounted (geometry : Geometry) (u : Uses) (fs : List SnapshotFile) : Type 0 where
  pub fit : FitTogether geometry fs
  pub count : length u.flags.items ≡ geometry.blocks
  pub flagged : Flags u.flags.items (places_in fs)
  pub attributes : u.attributes ≡ attribute_total_in fs
  pub stubs : u.stubs ≡ stub_total_in fs
