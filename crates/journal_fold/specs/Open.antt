-- A store in the midst of a batch. The files that its records were about are counted and judged at its end; what is known meanwhile is known of the others.
use Rattle.std.specs.Prelude.{ℕ, ◌≤◌, List, [], Bool, not, filter, ◌==◌}
use Rattle.std.specs.List.{AllByRecursion, list_any}
use Rattle.hsm_types.specs.Limits.{last_generation, last_number}
use Rattle.plain_model.specs.Distinct.{Distinct}
use Rattle.snapshot_text.specs.Files.{geometry_of}
use Rattle.snapshot_text.specs.Snapshots.{SnapshotFile, Snapshot}
use Rattle.journal_fold.specs.declared.fold.Fold.{Fold}
use Rattle.journal_fold.specs.declared.stores.FoldedStore.{FoldedStore}
use Rattle.journal_fold.specs.declared.uses.Uses.{Uses}
use Rattle.journal_fold.specs.FoldedStores.{files_in, store_said, IsHeld}
use Rattle.journal_fold.specs.Judged.{IsAlone}
use Rattle.journal_fold.specs.Counted.{FitTogether, IsCounted}

-- one of these inodes is that one
abbrev pub is_touched : List ℕ → ℕ → Bool
is_touched touched ino = list_any (λ n. n == ino) touched

-- the files whose inodes aren't among these
abbrev pub untouched : List ℕ → List SnapshotFile → List SnapshotFile
untouched touched files = filter (λ f. not (is_touched touched f.key.ino)) files

-- The files that no record was about are lawful, and they are counted, and no others.
pub record IsOpen (geometry : ℕ) (store : FoldedStore) (uses : Uses) (touched : List ℕ) : Type 0 where
  pub known : geometry ≤ 1
  pub held : IsHeld store
  pub first : 1 ≤ store.next
  pub next : store.next ≤ last_generation
  pub once : Distinct touched
  pub each : AllByRecursion (IsAlone (geometry_of geometry) store.next) (untouched touched (files_in store))
  pub counted : IsCounted (geometry_of geometry) uses (untouched touched (files_in store))

-- all files of the store are lawful, and fit beside one another
pub record AreLawfulTogether (geometry : ℕ) (store : FoldedStore) : Type 0 where
  pub each : AllByRecursion (IsAlone (geometry_of geometry) store.next) (files_in store)
  pub fit : FitTogether (geometry_of geometry) (files_in store)

-- between two batches: all files are counted, and lawful
pub record IsFold (f : Fold) : Type 0 where
  pub still : IsOpen f.geometry f.store f.uses []
  pub number : f.store.number ≤ last_number

-- what a snapshot would say of it
abbrev pub fold_said : Fold → Snapshot
fold_said f = store_said f.store
