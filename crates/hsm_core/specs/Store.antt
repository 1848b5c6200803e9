-- A store as its callers and sessions see it.
use Rattle.std.specs.Prelude.{ℕ, ◌≡◌, ◌+◌, ◌≤◌, true, false, length, List}
use Rattle.disk_model.specs.Calls.{RoseByOne}
use Rattle.disk_model.specs.Moments.{Tells}
use Rattle.disk_model.specs.declared.device.Disk as disk
use Rattle.hsm_types.specs.declared.keys.FileKey.{FileKey}
use Rattle.plain_model.specs.declared.entries.Entry.{Entry}
use Rattle.plain_model.specs.Faults.{has_fault}
use Rattle.plain_model.specs.State.{Held, State, just_opened}
use Rattle.plain_model.specs.Exact.{state_by}
use Rattle.plain_model.specs.Laws.{IsRunSeen}
use Rattle.dm_service.specs.Tables.{Tables, awaited_in, state_in}
use Rattle.file_store.specs.Stores.{Store as FileStore, superblock_of}
use Rattle.hsm_core.specs.Stamps.{stamp_in}

pub record Store (D : Type 0) : Type 0 where
  -- its files and their disk, as they were when it was opened, and as they are
  pub opened : FileStore D
  pub files : FileStore D
  -- the stamps of files that were accessed
  pub stamps : List (FileKey × ℕ)
  -- its sessions, and the accesses that wait
  pub tables : Tables
  -- the events since
  pub history : List Entry
  -- for how many entries there is room beside those that are set apart, one for each response and each resume that may come
  pub spare : ℕ

-- The number of its last entry. Entries are counted on from the number of the snapshot that was opened. A commit in the next event stores what is
-- held under this number.
abbrev pub last_number : {D : Type 0} → Store D → ℕ
last_number s = s.opened.meta.number + length s.history

-- The room in the history never shrinks: what was spare is spare still, or has gone to entries and to what is awaited.
abbrev pub KeepsRoom : {D : Type 0} → Store D → Store D → Type 0
KeepsRoom old new = length old.history + awaited_in old.tables + old.spare ≤ length new.history + awaited_in new.tables + new.spare

-- the state by its parts
abbrev pub state_with : Held → List (FileKey × ℕ) → Tables → ℕ → State
state_with held stamps t number = state_in held (stamp_in stamps) number t

-- what it holds, and what ends with its opening
abbrev pub state_of : {D : Type 0} → Store D → State
state_of s = state_with s.files.held s.stamps s.tables (last_number s)

-- what it held when it was opened
abbrev pub opening_of : {D : Type 0} → Store D → Held
opening_of s = s.opened.held

-- Since it was opened just one call of the disk has failed where the store is closed, which an entry tells, and none where it works.
pub record TellsFailure {D : Type 0} (g : disk.Ghosts D) (s : Store D) : Type 0 where
  pub told : s.files.failed ≡ true → has_fault s.history ≡ true
  pub once : s.files.failed ≡ true → RoseByOne (g.fault_count s.opened.disk) (g.fault_count s.files.disk)
  pub quiet : s.files.failed ≡ false → g.fault_count s.files.disk ≡ g.fault_count s.opened.disk

-- The store is formatted as it was when it was opened, and its history is a run from there: exact but for bytes, and for whether these refuse a seal, and in
-- these too where the disk tells what it holds. As long as no call of the disk has failed it has no fault, and the store's state is what the history leaves.
pub record HasRun {D : Type 0} (g : disk.Ghosts D) (s : Store D) : Type 0 where
  pub geometry : s.files.meta.durable.geometry ≡ s.opened.meta.durable.geometry
  pub fsid : s.files.meta.fsid ≡ s.opened.meta.fsid
  pub run : IsRunSeen (Tells g s.files.disk) (superblock_of s.opened) s.opened.meta.number (opening_of s) s.history
  pub faultless : s.files.failed ≡ false → has_fault s.history ≡ false
  pub failure : TellsFailure g s
  pub state : s.files.failed ≡ false → state_of s ≡ state_by (superblock_of s.opened) (just_opened s.opened.meta.number (opening_of s)) s.history
