-- What a crash may leave of a store.
use Rattle.std.specs.Prelude.{ℕ, ◌≡◌, ◌+◌, ◌≤◌, false, List, length, take}
use Rattle.disk_model.specs.declared.device.Disk as disk
use Rattle.disk_model.specs.Moments.{MayBe, LeavesOnly}
use Rattle.plain_model.specs.declared.entries.Entry.{Entry}
use Rattle.plain_model.specs.Exact.{held_by}
use Rattle.plain_model.specs.Synced.{synced}
use Rattle.file_store.specs.Stores.{Store as FileStore, superblock_of, IsRecovered, IsDurable}
use Rattle.hsm_core.specs.Store.{Store}

-- Recovery finds what the first entries of the history have left, at least so many of them, under the number of the last of them.
pub record IsPrefix {D : Type 0} (opened : FileStore D) (history : List Entry) (low : ℕ) (image : List ℕ) : Type 0 where
  pub n : ℕ
  pub from : low ≤ n
  pub to : n ≤ length history
  pub found : IsRecovered opened.meta.durable.geometry opened.meta.fsid (opened.meta.number + n) (held_by (superblock_of opened) opened.meta.number opened.held (take n history)) image

-- All that was held is durable under that number, and recovery finds it from now on.
pub record IsSynced {D : Type 0} (g : disk.Ghosts D) (n : ℕ) (old new : FileStore D) : Type 0 where
  pub durable : new.durable ≡ old.held
  pub number : new.meta.number ≡ n
  pub found : (c : List ℕ) → MayBe g new.disk c → IsDurable new c

-- What was made durable last is what the first entries have left, all those that were synced among them.
pub record IsUpTo {D : Type 0} (s : Store D) : Type 0 where
  pub n : ℕ
  pub from : synced s.history ≤ n
  pub to : n ≤ length s.history
  pub number : s.files.meta.number ≡ s.opened.meta.number + n
  pub holds : s.files.durable ≡ held_by (superblock_of s.opened) s.opened.meta.number s.opened.held (take n s.history)

-- A crash from now on leaves what the first entries have left, all those that were synced among them.
abbrev pub IsSafeNow : {D : Type 0} → disk.Ghosts D → Store D → Type 0
IsSafeNow g s = (c : List ℕ) → MayBe g s.files.disk c → IsPrefix s.opened s.history (synced s.history) c

-- true of each store
pub record IsSafe {D : Type 0} (g : disk.Ghosts D) (s : Store D) : Type 0 where
  -- a crash at any moment since the opening leaves what the first entries have left
  pub since : LeavesOnly g s.opened.disk s.files.disk (IsPrefix s.opened s.history 0)
  pub durable : s.files.failed ≡ false → IsUpTo s
  -- and a crash from now on leaves all that was synced
  pub now : IsSafeNow g s
