-- What lies under the lock of a run, and what each call leaves of it.
use Rattle.std.specs.Prelude.{ℕ, ◌≡◌, ◌≢◌, Bool, true, false, List, [], ◌∷◌, All, Option, None, Some, Result}
use Rattle.disk_model.specs.declared.device.Disk as disk
use Rattle.hsm_types.specs.declared.calls.Call.{Call}
use Rattle.hsm_types.specs.declared.daemons.Act.{Act}
use Rattle.hsm_types.specs.declared.daemons.Daemon.{Daemon}
use Rattle.hsm_policy.specs.Settings.{Numbers}
use Rattle.file_store.specs.Stores.{Store as FileStore}
use Rattle.hsm_core.specs.Answers.{entry_of}
use Rattle.hsm_core.specs.Ready.{ready}
use Rattle.hsm_core.specs.declared.store.Ready.{Ready}
use Rattle.hsm_core.specs.declared.store.Ready.TheVariants as readiness
use Rattle.deeds.specs.Deeds.{Deed, Hears}
use Rattle.call_lists.specs.Lines.{left_of}
use Rattle.call_lists.specs.Made.{AreMade}
use Rattle.call_lists.specs.declared.lists.CallList.{CallList}
use Rattle.hsm_system.specs.Awaiting.{awaited_by, awaited_of, heard_of}
use Rattle.hsm_system.specs.Events.{IsDone, IsSafelyDone, action_of, actor_of}
use Rattle.hsm_system.specs.Goes.{Goes, GoesBy, Holds}
use Rattle.hsm_system.specs.Systems.{System, hearing}
use Rattle.hsm_system.specs.declared.awaited.Outcome.{Outcome}
use Rattle.hsm_system.specs.declared.events.Event.{Event}
use Rattle.hsm_system.specs.declared.events.Event.TheVariants as event
use Rattle.hsm_system.specs.declared.stops.Stop.{Stop}
use Rattle.hsm_threads.specs.Deeds.{IsOfRun, LosesNothing, entered}
use Rattle.hsm_threads.specs.Steps.{CameTo, IsStepOf, closes, lacks, stop_of, told_of}
use Rattle.hsm_threads.specs.declared.run.Next.{Next}
use Rattle.hsm_threads.specs.declared.run.Next.TheVariants as next
use Rattle.hsm_threads.specs.declared.steps.Asked.{Asked}
use Rattle.hsm_threads.specs.declared.steps.Asked.TheVariants.{Nothing}

pub record Lot (D : Type 0) : Type 0 where
  pub system : System D
  pub lists : List CallList
  -- why the run has stopped, if it has
  pub stop : Option Stop

-- The store was opened so, and all that was done since is done by these deeds of daemons and callers. It works, unless a fault of the disk has stopped the
-- run; and no daemon has lost what it was to hear, unless the run has stopped. Each caller has made its lines up to a place, and only want of memory has lost a
-- call.
pub record IsLot {D : Type 0} (opened_as : Option (FileStore D)) (limits : Numbers) (lines : ℕ → List Call) (l : Lot D) : Type 0 where
  pub opened : opened_as ≡ Some l.system.store.opened
  pub settings : l.system.limits ≡ limits
  pub deeds : List Deed
  pub holds : Holds deeds l.system
  pub of_run : All IsOfRun deeds
  pub heard : l.stop ≡ None → All LosesNothing deeds
  pub closed : l.system.store.files.failed ≡ closes l.stop
  pub made : AreMade (lacks l.stop) lines l.lists l.system.store.history

-- ---- a caller's step

-- what is told of it, by why the run has stopped, and by the caller's access
abbrev pub next_by : Option Stop → Ready → Next
next_by (Some why) waits = next.Ended
next_by None readiness.Idle = next.Made
next_by None waits = next.Waits

module _ {D : Type 0} (g : disk.Ghosts D) where
  -- The event was made, as one and by one deed, with this answer. The run has stopped exactly where that says so.
  pub record Makes (made : Event) (old new : Lot D) : Type 0 where
    pub result : Result (Unit {0}) Stop
    pub done : IsDone g (actor_of made) (action_of made) result old.system new.system
    pub keeps : IsSafelyDone g made result old.system.store new.system.store
    pub deeds : Goes (entered (stop_of result) (entry_of (actor_of made) (action_of made) done.given)) old.system new.system
    pub stop : new.stop ≡ stop_of result

  module _ (c : ℕ) (came : Next) (old new : Lot D) where
    abbrev pub TellsNext : Type 0
    TellsNext = came ≡ next_by new.stop (ready new.system.store c)

    -- By why the run had stopped, by whether an access of the caller waits, and by its calls that are left: its next call is made, where none waits. Else
    -- nothing is done.
    abbrev pub IssuesBy : Option Stop → Ready → List Call → Type 0
    IssuesBy (Some why) waits calls = (came ≡ next.Ended) × (new ≡ old)
    IssuesBy None readiness.Idle [] = (came ≡ next.Ended) × (new.system ≡ old.system) × (left_of new.lists c ≡ []) × (new.stop ≡ None)
    IssuesBy None readiness.Idle (call ∷ rest) = (left_of new.lists c ≡ rest) × Makes (event.Issue c call) old new × TellsNext
    IssuesBy None waits calls = (came ≡ next.Waits) × (new ≡ old)

    -- By why the run had stopped, and by whether the caller's access may go on: it goes on where it may. Else nothing is done.
    abbrev pub ResumesBy : Option Stop → Ready → Type 0
    ResumesBy (Some why) waits = (came ≡ next.Ended) × (new ≡ old)
    ResumesBy None readiness.Now = Makes (event.Resume c) old new × (new.lists ≡ old.lists) × TellsNext
    ResumesBy None waits = (came ≡ next_by None waits) × (new ≡ old)

  abbrev pub Issues : ℕ → Next → Lot D → Lot D → Type 0
  Issues c came old new = IssuesBy c came old new old.stop (ready old.system.store c) (left_of old.lists c)

  abbrev pub Resumes : ℕ → Next → Lot D → Lot D → Type 0
  Resumes c came old new = ResumesBy c came old new old.stop (ready old.system.store c)

-- what each other caller is still to make stays
abbrev pub LeavesOthers : {D : Type 0} → ℕ → Lot D → Lot D → Type 0
LeavesOthers c old new = (other : ℕ) → other ≢ c → left_of new.lists other ≡ left_of old.lists other

-- ---- a daemon's step

module _ {D : Type 0} (g : disk.Ghosts D) (daemon : Daemon) where
  -- It was taken, by its deeds. The run has stopped exactly where these say so.
  pub record Takes (asked : Asked) (old new : Lot D) : Type 0 where
    pub result : Result Asked Stop
    pub told : asked ≡ told_of result
    pub deeds : GoesBy (IsStepOf daemon result) old.system new.system
    pub came : CameTo g daemon result old.system new.system
    pub stop : new.stop ≡ stop_of result
    pub lists : new.lists ≡ old.lists

  -- nothing is done where the run had stopped
  abbrev pub TakesBy : Option Stop → Asked → Lot D → Lot D → Type 0
  TakesBy (Some why) came old new = (came ≡ Nothing) × (new ≡ old)
  TakesBy None came old new = Takes came old new

  abbrev pub TakesStep : Asked → Lot D → Lot D → Type 0
  TakesStep came old new = TakesBy old.stop came old new

-- ---- what came of an act

module _ {D : Type 0} (daemon : Daemon) where
  -- it hears that of the act that it waits for; or it isn't told, and nothing is done
  abbrev pub Tells : Outcome → Bool → Lot D → Lot D → Type 0
  Tells outcome true old new =
      (asked : Act) × (awaited_of asked ≡ awaited_by outcome) × Goes (Hears daemon asked (heard_of outcome) ∷ []) old.system new.system
      × (new ≡ record old { system = hearing daemon (heard_of outcome) old.system })
  Tells outcome false old new = new ≡ old
