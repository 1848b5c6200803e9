-- What lies under the lock of a shared store, and what is told of an event that was made under it.
use Rattle.std.specs.Prelude.{◌≡◌, true, false, All, Option, Some}
use Rattle.disk_model.specs.declared.device.Disk as disk
use Rattle.plain_model.specs.declared.entries.Action.{Action}
use Rattle.plain_model.specs.declared.entries.Action.TheVariants as action
use Rattle.plain_model.specs.declared.entries.Actor.{Actor}
use Rattle.plain_model.specs.declared.entries.Actor.TheVariants.{Caller, Session}
use Rattle.plain_model.specs.declared.entries.Answer.{Answer}
use Rattle.plain_model.specs.declared.entries.Entry.{Entry}
use Rattle.dm_service.specs.Services.{is_due, wants_entry_alone}
use Rattle.dm_service.specs.Tables.{waiting}
use Rattle.file_store.specs.Stores.{Store as FileStore}
use Rattle.hsm_core.specs.Answers.{IsAnswer, memory_of}
use Rattle.hsm_core.specs.Crashes.{IsSafeNow}
use Rattle.hsm_core.specs.Kept.{IsKept}
use Rattle.hsm_core.specs.Outcomes.{is_aborted}
use Rattle.hsm_core.specs.Store.{Store}

-- a caller's event or a session's. None is the store's own
abbrev pub IsShared : Actor → Action → Type 0
IsShared (Caller c) (action.Issue call) = Unit {0}
IsShared (Caller c) action.Resume = Unit {0}
IsShared (Session sid) (action.Dm call) = Unit {0}
IsShared actor asked = ⊥

-- the store was opened so, and its events since are those of callers and sessions
pub record IsHeld {D : Type 0} (opened_as : Option (FileStore D)) (s : Store D) : Type 0 where
  pub opened : opened_as ≡ Some s.opened
  pub own : All (λ (e : Entry). IsShared e.actor e.action) s.history

-- Memory may be wanting for it: it is no response that is due, and no resume of an access that was aborted; and where it takes an entry alone there is no room
-- for one.
abbrev pub MayLack : {D : Type 0} → Actor → Action → Store D → Type 0
MayLack (Session sid) (action.Dm call) s = (is_due s.tables.sessions sid call ≡ false) × (wants_entry_alone call ≡ true → s.spare ≡ 0)
MayLack (Caller c) action.Resume s = is_aborted (waiting s.tables c) ≡ false
MayLack actor asked s = Unit {0}

-- It was one event of such a store, answered as that store answers it, for want of memory only where that may be. What the history has of it is kept with all
-- that is before it, so where it tells a fault the disk has counted one since the opening. What was synced is found behind a crash.
pub record IsEvent {D : Type 0} (g : disk.Ghosts D) (opened_as : Option (FileStore D)) (actor : Actor) (asked : Action) (given : Answer) (old new : Store D) : Type 0 where
  pub before : IsHeld opened_as old
  pub was_kept : IsKept g old
  pub answers : IsAnswer g old actor asked given new
  pub sure : given ≡ memory_of asked → MayLack actor asked old
  pub held : IsHeld opened_as new
  pub kept : IsKept g new
  pub safe : IsSafeNow g new
