-- A store while batches are taken.
use Rattle.std.specs.Prelude.{◌≡◌, ℕ, List}
use Rattle.std.specs.List.{AllByRecursion}
use Rattle.std.specs.Map.{values_of}
use Rattle.inode_table.specs.Listing.{Ascend, Differ}
use Rattle.inode_table.specs.Index.{Indexes}
use Rattle.snapshot_text.specs.Snapshots.{SnapshotFile, Snapshot}
use Rattle.meta_store.specs.Validity.{names_in}
use Rattle.journal_fold.specs.declared.stores.FoldedStore.{FoldedStore}

-- each file stands under its inode
abbrev pub AreKeyed : List (ℕ × SnapshotFile) → Type 0
AreKeyed es = AllByRecursion (λ e. e.1.key.ino ≡ e.0) es

-- its files, in the order of their inodes
abbrev pub files_in : FoldedStore → List SnapshotFile
files_in s = values_of s.files.entries

-- what a snapshot would say of it
abbrev pub store_said : FoldedStore → Snapshot
store_said s = record { number = s.number; next = s.next; files = files_in s }

-- What is true of it, also between two records: its inodes ascend, whatever they are, no two files have one name, and its names are just those.
pub record IsHeld (s : FoldedStore) : Type 0 where
  pub keyed : AreKeyed s.files.entries
  pub ascend : Ascend 0 (names_in (files_in s))
  pub differ : Differ (names_in (files_in s))
  pub index : Indexes s.names.entries (names_in (files_in s))
