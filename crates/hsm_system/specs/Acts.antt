-- How a daemon gives an act, and how the call that it gave is made.
use Rattle.std.specs.Prelude.{◌≡◌, ◌⊎◌, ◌+◌, ◌≤◌, [], ◌∷◌, ◌++◌, true, false, Some}
use Rattle.disk_model.specs.declared.device.Disk as disk
use Rattle.hsm_types.specs.declared.daemons.Act.{Act}
use Rattle.hsm_types.specs.declared.daemons.Daemon.{Daemon}
use Rattle.hsm_types.specs.declared.daemons.Daemon.TheVariants.{Recall, Migrate}
use Rattle.hsm_types.specs.declared.daemons.Heard.TheVariants as heard
use Rattle.hsm_types.specs.declared.daemons.Heard.TheVariants.{Nothing}
use Rattle.hsm_types.specs.declared.dm.DmCall.{DmCall}
use Rattle.hsm_types.specs.declared.dm.DmReply.{DmReply}
use Rattle.hsm_types.specs.declared.dm.DmReply.TheVariants.{Done}
use Rattle.hsm_types.specs.declared.keys.Sid.{Sid}
use Rattle.plain_model.specs.declared.entries.Action.TheVariants as action
use Rattle.plain_model.specs.declared.entries.Actor.TheVariants.{Session}
use Rattle.plain_model.specs.declared.entries.Answer.TheVariants as answer
use Rattle.dm_service.specs.Services.{entries_for, is_due, wants_entry_alone}
use Rattle.hsm_core.specs.Answers.{entry_of, own_answer, IsTold}
use Rattle.hsm_core.specs.Crashes.{IsSafeNow}
use Rattle.hsm_core.specs.Store.{Store, KeepsRoom}
use Rattle.recall_daemon.specs.Machine as recall
use Rattle.migrate_daemon.specs.Machine as migrate
use Rattle.hsm_system.specs.Stops.{reply_of, StopsNothing}
use Rattle.hsm_system.specs.Systems.{System, IsDown, Waits, hearing}
use Rattle.hsm_system.specs.Running.{Recalling, Migrating, Moves}
use Rattle.hsm_system.specs.declared.stops.Stop.{Stop}
use Rattle.hsm_system.specs.declared.stops.Stop.TheVariants as stop

-- ---- an act is given

-- it doesn't run, or waits
abbrev pub GivesNone : {D : Type 0} → Daemon → System D → Type 0
GivesNone daemon s = IsDown daemon s ⊎ Waits daemon s

-- its machine has heard what was kept for it and gives the act, for which it waits from here on
abbrev pub MovesOn : {D : Type 0} → Daemon → System D → Act → System D → Type 0
MovesOn Recall old act new = Moves recall.StepsOn old.recall act (λ (r : Recalling). new ≡ record old { recall = Some r })
MovesOn Migrate old act new = Moves migrate.StepsOn old.migrate act (λ (m : Migrating). new ≡ record old { migrate = Some m })

-- its machine had no memory, and stays as it was. What was kept for it is lost
pub record LacksMemory {D : Type 0} (daemon : Daemon) (old : System D) (why : Stop) (new : System D) : Type 0 where
  pub runs : IsDown daemon old → ⊥
  pub heard : Waits daemon old → ⊥
  pub lacks : why ≡ stop.Memory
  pub loses : new ≡ hearing daemon Nothing old

-- ---- the call that it gave is made

-- the history has one entry more: the session made the call, and was told this
abbrev pub AddsCall : {D : Type 0} → Sid → DmCall → DmReply → Store D → Store D → Type 0
AddsCall sid call reply old new = new.history ≡ old.history ++ entry_of (Session sid) (action.Dm call) (answer.Dm reply) ∷ []

-- What the store keeps of a call that it didn't answer itself. A store that a fault has closed before keeps nothing.
abbrev pub KeepsStop : {D : Type 0} → Sid → DmCall → Stop → Store D → Store D → Type 0
KeepsStop sid call stop.Disk old new =
    (new.files.failed ≡ true) × ((old.files.failed ≡ true) × (new.history ≡ old.history) ⊎ (old.files.failed ≡ false) × AddsCall sid call (reply_of stop.Disk) old new)
KeepsStop sid call stop.Memory old new = (new.files.failed ≡ false) × (new.history ≡ old.history)

module _ {D : Type 0} (g : disk.Ghosts D) where
  -- The call was one event of the store, in which the session was told this. The rest is as before.
  pub record IsCall (sid : Sid) (call : DmCall) (reply : DmReply) (old new : System D) : Type 0 where
    pub told : IsTold g old.store sid call reply new.store
    pub responds : is_due old.store.tables.sessions sid call ≡ true → old.store.files.failed ≡ false → reply ≡ Done
    pub spared : wants_entry_alone call ≡ true → 1 ≤ old.store.spare → old.store.files.failed ≡ false → answer.Dm reply ≡ own_answer old.store (Session sid) (action.Dm call)
    pub safe : IsSafeNow g new.store
    pub room : old.store.spare ≤ new.store.spare + entries_for old.store.tables.sessions sid call
    pub keeps : KeepsRoom old.store new.store
    pub rest : new ≡ record old { store = new.store }

  -- it was answered by the store itself
  pub record Serves (sid : Sid) (call : DmCall) (reply : DmReply) (old new : System D) : Type 0 where
    pub made : IsCall sid call reply old new
    pub served : StopsNothing reply
    pub added : AddsCall sid call reply old.store new.store
    pub still : new.store.files.failed ≡ false

  -- it was not, and the session was told why
  pub record StopsCall (sid : Sid) (call : DmCall) (why : Stop) (old new : System D) : Type 0 where
    pub made : IsCall sid call (reply_of why) old new
    pub kept : KeepsStop sid call why old.store new.store

  -- the daemon's call was answered by the store itself, and it hears the answer next
  abbrev pub Answers : Daemon → Sid → DmCall → System D → System D → Type 0
  Answers daemon sid call old new = (reply : DmReply) × (left : System D) × Serves sid call reply old left × (new ≡ hearing daemon (heard.Dm reply) left)

  -- it stopped the run, and the daemon hears nothing of it
  abbrev pub StopsFor : Daemon → Sid → DmCall → Stop → System D → System D → Type 0
  StopsFor daemon sid call why old new = (left : System D) × StopsCall sid call why old left × (new ≡ hearing daemon Nothing left)
