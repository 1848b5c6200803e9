-- A daemon's turn, while it goes on.
use Rattle.std.specs.Prelude.{◌≡◌, ◌≢◌, ◌⊎◌, ℕ, List, [], ◌∷◌, ◌++◌, true, None, IfSome}
use Rattle.std.specs.List.{AllByRecursion, list_all}
use Rattle.hsm_types.specs.declared.daemons.Act.{Act}
use Rattle.hsm_types.specs.declared.daemons.Act.TheVariants.{Dm, Fetch}
use Rattle.hsm_types.specs.declared.daemons.Daemon.{Daemon}
use Rattle.hsm_types.specs.declared.daemons.Daemon.TheVariants.{Recall, Migrate}
use Rattle.hsm_types.specs.declared.daemons.Heard.{Heard}
use Rattle.hsm_types.specs.declared.daemons.Heard.TheVariants as heard
use Rattle.hsm_types.specs.declared.dm.DmCall.TheVariants.{GetFileAttr, GetAllocInfo, Restore}
use Rattle.hsm_types.specs.Rights.{Rights}
use Rattle.plain_model.specs.declared.entries.Action.TheVariants as action
use Rattle.plain_model.specs.declared.entries.Actor.TheVariants.{Session, Caller}
use Rattle.plain_model.specs.declared.entries.Answer.{Answer}
use Rattle.plain_model.specs.declared.entries.Answer.TheVariants as answer
use Rattle.plain_model.specs.declared.entries.Entry.{Entry}
use Rattle.hsm_core.specs.Answers.{entry_of}
use Rattle.hsm_core.specs.Ready.{ready}
use Rattle.hsm_core.specs.Store.{Store, state_of}
use Rattle.hsm_core.specs.declared.store.Ready.TheVariants.{Now}
use Rattle.daemon_session.specs.declared.events.Kept.{Kept}
use Rattle.hsm_policy.specs.Settings.{Numbers}
use Rattle.recall_daemon.specs.Known as recall
use Rattle.migrate_daemon.specs.Known as migrate
use Rattle.hsm_system.specs.Running.{Recalling, Migrating}
use Rattle.hsm_system.specs.Asking.{RecallAsks, MigrateAsks}
use Rattle.hsm_system.specs.Systems.{Rests}
use Rattle.hsm_replay.specs.Freshness.{StaysFresh}
use Rattle.marked_history.specs.Quiet.{is_quiet}
use Rattle.hsm_replay.specs.Settled.{IsTurnOf, IsToldSpace, IsStillRefused, AreStillRefused, NoneReady}
use Rattle.hsm_replay.specs.Systems.{Run, running, told_next}

-- It hears the answer of the last entry next, or what came of a copy or a fetch, or it rests.
abbrev pub Stands : List Entry → Act → Heard → Type 0
Stands entries (Dm sid call) (heard.Dm reply) = (first : List Entry) × (entries ≡ first ++ entry_of (Session sid) (action.Dm call) (answer.Dm reply) ∷ [])
Stands entries (Dm sid call) told = ⊥
Stands entries asked told = Unit {0}

-- ---- recall in a turn

-- no act that only a right leads to
abbrev pub IsEarly : Act → Type 0
IsEarly (Dm sid (GetFileAttr t h)) = ⊥
IsEarly (Dm sid (GetAllocInfo t h)) = ⊥
IsEarly (Dm sid (Restore t h segment bytes)) = ⊥
IsEarly (Fetch entry) = ⊥
IsEarly act = Unit {0}

-- It was given no right so far: of the file in hand it doesn't know the size, and each event that it has put off was held up.
pub record IsKeptBack (entries : List Entry) (rights : Rights) (k : recall.Known) (asked : Act) : Type 0 where
  pub early : IsEarly asked
  pub unsized : IfSome k.hand (λ (hand : recall.Hand). hand.size ≡ None)
  pub held_up : AllByRecursion (λ (x : Kept). x.marked ≡ true → IsStillRefused entries rights k.seat x.event.token) k.seat.kept

pub record RecallStands (entries : List Entry) (rights : Rights) (r : Recalling) : Type 0 where
  pub asks : RecallAsks r.machine
  pub stands : Stands entries r.machine.asked (told_next r.next)
  pub back : list_all is_quiet entries ≡ true → IsKeptBack entries rights (recall.knows_by r.machine.known r.machine.asked (told_next r.next)) r.machine.asked

-- ---- either daemon in a turn

-- what it knows of the space it was told in this turn
pub record MigrateStands (limits : Numbers) (entries : List Entry) (m : Migrating) : Type 0 where
  pub asks : MigrateAsks limits m.machine
  pub stands : Stands entries m.machine.asked (told_next m.next)
  pub space : IfSome (migrate.knows_by m.machine.limits m.machine.known m.machine.asked (told_next m.next)).space (IsToldSpace entries)

abbrev pub StandsIn : {D M : Type 0} → Daemon → List Entry → Run D M → Type 0
StandsIn Recall entries s = IfSome s.system.recall (RecallStands entries (state_of s.system.store).rights)
StandsIn Migrate entries s = IfSome s.system.migrate (MigrateStands s.system.limits entries)

-- what recall keeps is held up
abbrev pub LeavesHeldUp : {D M : Type 0} → Daemon → List Entry → Run D M → Type 0
LeavesHeldUp Recall entries s = IfSome s.system.recall (λ r. AreStillRefused entries (state_of s.system.store).rights r.machine.known.seat)
LeavesHeldUp Migrate entries s = Unit {0}

-- a turn is over, and where it was quiet recall keeps only what was held up
pub record IsOver {D M : Type 0} (daemon : Daemon) (entries : List Entry) (s : Run D M) : Type 0 where
  pub turn : IsTurnOf daemon s entries
  pub held_up : list_all is_quiet entries ≡ true → LeavesHeldUp daemon entries s

-- The daemon is in a turn that began behind these entries. Where it rests the turn is over.
abbrev pub IsInTurn : {D M : Type 0} → Daemon → List Entry → Run D M → Type 0
IsInTurn daemon from s = (entries : List Entry) × (s.system.store.history ≡ from ++ entries) × StandsIn daemon entries s × (Rests daemon s.system → IsOver daemon entries s)

-- the other daemon stays as it is
abbrev pub IsAlone : {D M : Type 0} → Daemon → Run D M → Run D M → Type 0
IsAlone Recall old new = new.system.migrate ≡ old.system.migrate
IsAlone Migrate old new = new.system.recall ≡ old.system.recall

-- the same accesses may go on, and the same tokens hold files
pub record IsAlike {D : Type 0} (old new : Store D) : Type 0 where
  pub ready : (caller : ℕ) → ready new caller ≡ ready old caller
  pub rights : (state_of new).rights ≡ (state_of old).rights

-- so it is where all entries since are quiet
abbrev pub LeavesAlike : {D : Type 0} → Store D → Store D → Type 0
LeavesAlike old new = (more : List Entry) × (new.history ≡ old.history ++ more) × (list_all is_quiet more ≡ true → IsAlike old new)

-- steps of one daemon
pub record GoesInTurn {D M : Type 0} (daemon : Daemon) (old new : Run D M) : Type 0 where
  pub alone : IsAlone daemon old new
  pub runs : running new ≡ running old
  pub calm : LeavesAlike old.system.store new.system.store
  pub fresh : StaysFresh old new
  pub on : (from : List Entry) → IsInTurn daemon from old → IsInTurn daemon from new

-- a turn from its beginning to its end
pub record HasTurned {D M : Type 0} (daemon : Daemon) (old new : Run D M) : Type 0 where
  pub alone : IsAlone daemon old new
  pub runs : running new ≡ running old
  pub calm : LeavesAlike old.system.store new.system.store
  pub fresh : StaysFresh old new
  pub entries : List Entry
  pub history : new.system.store.history ≡ old.system.store.history ++ entries
  pub over : IsOver daemon entries new

-- ---- resumes

abbrev pub IsResumeOf : Entry → Type 0
IsResumeOf e = (caller : ℕ) × (given : Answer) × (e ≡ entry_of (Caller caller) action.Resume given)

-- The caller has resumed, unless its access may not go on: then all is as before.
abbrev pub MayResume : {D M : Type 0} → ℕ → Run D M → Run D M → Type 0
MayResume caller old new = (new ≡ old) × (ready old.system.store caller ≢ Now) ⊎ ((given : Answer) × (new ≡ record old { system = record old.system { store = new.system.store } }) × (new.system.store.history ≡ old.system.store.history ++ entry_of (Caller caller) action.Resume given ∷ []))

-- Callers have resumed, and no daemon has made a step. Where none has, no access may go on.
pub record HaveResumed {D M : Type 0} (old new : Run D M) : Type 0 where
  pub recall : new.system.recall ≡ old.system.recall
  pub migrate : new.system.migrate ≡ old.system.migrate
  pub none : (new.system.store ≡ old.system.store) × NoneReady new.system.store ⊎ ((first : Entry) × (more : List Entry) × IsResumeOf first × (new.system.store.history ≡ old.system.store.history ++ first ∷ more))
