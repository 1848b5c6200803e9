-- Events that no daemon makes, and how a store goes on behind events.
use Rattle.std.specs.Prelude.{◌≡◌, ◌≢◌, ℕ, ◌+◌, ◌≤◌, if◌then◌else◌, List, [], ◌∷◌, ◌++◌, true, false, Result, IsOk, OnOk, IfErr, MatchResult}
use Rattle.disk_model.specs.Calls.{RoseByOne}
use Rattle.disk_model.specs.Moments.{Tells}
use Rattle.disk_model.specs.declared.device.Disk as disk
use Rattle.plain_model.specs.Faults.{has_fault}
use Rattle.plain_model.specs.declared.entries.Action.{Action}
use Rattle.plain_model.specs.declared.entries.Action.TheVariants as action
use Rattle.plain_model.specs.declared.entries.Actor.{Actor}
use Rattle.plain_model.specs.declared.entries.Actor.TheVariants.{Caller, Session, Store as TheStore}
use Rattle.plain_model.specs.declared.entries.Answer.{Answer}
use Rattle.plain_model.specs.declared.entries.Entry.{Entry}
use Rattle.dm_service.specs.Services.{entries_for, is_due}
use Rattle.dm_service.specs.Tables.{waiting}
use Rattle.hsm_core.specs.Answers.{IsAnswer, entry_of}
use Rattle.hsm_core.specs.Outcomes.{is_aborted}
use Rattle.hsm_core.specs.Crashes.{IsSafeNow}
use Rattle.hsm_core.specs.Store.{Store, KeepsRoom}
use Rattle.hsm_system.specs.Stops.{stop_answer}
use Rattle.hsm_system.specs.Systems.{System}
use Rattle.hsm_system.specs.declared.events.Event.{Event}
use Rattle.hsm_system.specs.declared.events.Event.TheVariants as event
use Rattle.hsm_system.specs.declared.stops.Stop.{Stop}
use Rattle.hsm_system.specs.declared.stops.Stop.TheVariants.{Disk, Memory}

-- who makes it
abbrev pub actor_of : Event → Actor
actor_of (event.Issue caller call) = Caller caller
actor_of (event.Resume caller) = Caller caller
actor_of (event.Dm sid call) = Session sid
actor_of event.Commit = TheStore

-- and what it is
abbrev pub action_of : Event → Action
action_of (event.Issue caller call) = action.Issue call
action_of (event.Resume caller) = action.Resume
action_of (event.Dm sid call) = action.Dm call
action_of event.Commit = action.Commit

-- The response to an event that is due, and the resume of an access that was aborted, are answered though memory is wanting.
abbrev pub IsSure : {D : Type 0} → Event → Store D → Type 0
IsSure (event.Resume caller) s = is_aborted (waiting s.tables caller) ≡ true
IsSure (event.Dm sid call) s = is_due s.tables.sessions sid call ≡ true
IsSure event s = ⊥

-- how many entries of the room that was reserved it may use up
abbrev pub room_of : {D : Type 0} → Event → Store D → ℕ
room_of (event.Issue caller call) s = 3
room_of (event.Resume caller) s = if is_aborted (waiting s.tables caller) then 0 else 2
room_of (event.Dm sid call) s = entries_for s.tables.sessions sid call
room_of event.Commit s = 1

module _ {D : Type 0} (g : disk.Ghosts D) where
  -- ---- a store behind events

  -- The store is the one that was opened, its history has grown, and the disk's count of faults never falls. One that works has worked since, and its disk
  -- has counted no fault. A disk that tells what it holds now told then.
  pub record HasGrown (old new : Store D) : Type 0 where
    pub more : List Entry
    pub history : new.history ≡ old.history ++ more
    pub opened : new.opened ≡ old.opened
    pub faults : g.fault_count old.files.disk ≤ g.fault_count new.files.disk
    pub tells : Tells g new.files.disk → Tells g old.files.disk
    pub quiet : new.files.failed ≡ false → (old.files.failed ≡ false) × (g.fault_count new.files.disk ≡ g.fault_count old.files.disk)

  -- why a working store was stopped: for want of memory, or as a call of its disk has failed, just one, and an entry says so
  abbrev pub IsStoppedFor : Store D → Store D → Stop → Type 0
  IsStoppedFor old new Memory = new.files.failed ≡ false
  IsStoppedFor old new Disk = RoseByOne (g.fault_count old.files.disk) (g.fault_count new.files.disk) × (has_fault new.history ≡ true)

  -- a store that works goes on working, unless it is stopped
  pub record Runs {T : Type 0} (result : Result T Stop) (old new : Store D) : Type 0 where
    pub goes_on : HasGrown old new
    pub works : old.files.failed ≡ false → MatchResult result (λ done. new.files.failed ≡ false) (IsStoppedFor old new)

  -- ---- one event

  -- The event was answered so, and all but the store is as before. The run stops exactly where the answer says so, and else the entry is there.
  pub record IsDone {T : Type 0} (actor : Actor) (asked : Action) (result : Result T Stop) (old new : System D) : Type 0 where
    pub given : Answer
    pub answer : IsAnswer g old.store actor asked given new.store
    pub rest : new ≡ record old { store = new.store }
    pub goes : OnOk result ((why : Stop) → given ≢ stop_answer why asked)
    pub stops : IfErr result (λ why. given ≡ stop_answer why asked)
    pub kept : OnOk result (new.store.history ≡ old.store.history ++ entry_of actor asked given ∷ [])
    pub runs : Runs result old.store new.store

  -- What an event keeps, beside what it does: it is no want of memory where it may be none, a crash behind it finds what one may, and no more of the room that
  -- was reserved is used up than it may.
  pub record IsSafelyDone {T : Type 0} (asked : Event) (result : Result T Stop) (old new : Store D) : Type 0 where
    pub sure : IsSure asked old → old.files.failed ≡ false → IsOk result
    pub safe : IsSafeNow g new
    pub room : old.spare ≤ new.spare + room_of asked old
    pub keeps : KeepsRoom old new
