-- A store that has settled.
use Rattle.std.specs.Prelude.{◌≡◌, ◌≢◌, ◌⊎◌, ℕ, List, [], ◌∷◌, ◌++◌, Bool, true, false, Some, IfSome, Contains}
use Rattle.std.specs.List.{AllByRecursion, list_all}
use Rattle.hsm_types.specs.Callers.{IsCallerNumber}
use Rattle.hsm_types.specs.Limits.{buffer_bytes}
use Rattle.hsm_types.specs.Rights.{Rights, conflict}
use Rattle.hsm_types.specs.declared.daemons.Act.TheVariants.{Idle}
use Rattle.hsm_types.specs.declared.daemons.Daemon.{Daemon}
use Rattle.hsm_types.specs.declared.daemons.Daemon.TheVariants.{Recall, Migrate}
use Rattle.hsm_types.specs.declared.dm.DmCall.TheVariants.{CreateSession, GetEvents, GetSpace, RequestRight}
use Rattle.hsm_types.specs.declared.dm.DmReply.TheVariants.{Refused, Space as TheSpace}
use Rattle.hsm_types.specs.declared.dm.DmRefusal.TheVariants.{Again, Busy, TooMany}
use Rattle.hsm_types.specs.declared.dm.Right.TheVariants.{Excl}
use Rattle.hsm_types.specs.declared.keys.Handle.{Handle}
use Rattle.hsm_types.specs.declared.keys.Sid.{Sid}
use Rattle.hsm_types.specs.declared.keys.Token.{Token}
use Rattle.plain_model.specs.declared.entries.Action.{Action}
use Rattle.plain_model.specs.declared.entries.Action.TheVariants.{Dm}
use Rattle.plain_model.specs.declared.entries.Actor.{Actor}
use Rattle.plain_model.specs.declared.entries.Actor.TheVariants.{Session}
use Rattle.plain_model.specs.declared.entries.Answer.{Answer}
use Rattle.plain_model.specs.declared.entries.Answer.TheVariants.{Dm as Told}
use Rattle.plain_model.specs.declared.entries.Entry.{Entry}
use Rattle.hsm_core.specs.Answers.{entry_of}
use Rattle.hsm_core.specs.Ready.{ready}
use Rattle.hsm_core.specs.Store.{Store, state_of}
use Rattle.hsm_core.specs.declared.store.Ready.TheVariants.{Now}
use Rattle.daemon_session.specs.declared.events.Kept.{Kept}
use Rattle.daemon_session.specs.Seats.{Seat, no_seat, IsSeated}
use Rattle.hsm_policy.specs.Settings.{Numbers}
use Rattle.recall_daemon.specs.Machine as recall
use Rattle.migrate_daemon.specs.declared.shares.Space.{Space}
use Rattle.migrate_daemon.specs.Machine as migrate
use Rattle.migrate_daemon.specs.Shares.{is_above}
use Rattle.marked_history.specs.Quiet.{is_quiet}
use Rattle.marked_history.specs.Served.{IsTold}
use Rattle.hsm_replay.specs.Systems.{Run}

-- ---- how a turn ends

-- The daemon's session, which is set up, was told that there are no more events; or it was refused a session as too many live, and keeps nothing.
abbrev pub EndsTurn : Seat → Actor → Action → Answer → Type 0
EndsTurn seat (Session sid) (Dm (GetEvents most room)) (Told (Refused Again)) = (most ≡ 0) × (room ≡ buffer_bytes) × IsSeated seat sid
EndsTurn seat (Session sid) (Dm (CreateSession old info)) (Told (Refused (TooMany count))) = seat ≡ no_seat
EndsTurn seat actor action answer = ⊥

-- the events of a daemon's turn end so
abbrev pub IsTurn : Seat → List Entry → Type 0
IsTurn seat entries = (first : List Entry) × (last : Entry) × (entries ≡ first ++ last ∷ []) × EndsTurn seat last.actor last.action last.answer

pub record RecallEndedTurn (entries : List Entry) (m : recall.Machine) : Type 0 where
  pub rests : m.asked ≡ Idle
  pub turn : IsTurn m.known.seat entries

-- a session was told so of the space
abbrev pub IsToldSpace : List Entry → Space → Type 0
IsToldSpace entries space = (sid : Sid) × Contains entries (entry_of (Session sid) (Dm GetSpace) (Told (TheSpace space.used space.total)))

-- No pass by `high` is due: none may begin, or it was told that no more of the space is used.
abbrev pub NoneDue : Numbers → List Entry → Bool → Type 0
NoneDue limits entries fresh = (fresh ≡ false) ⊎ ((space : Space) × IsToldSpace entries space × (is_above limits.high (Some space) ≡ false))

-- It keeps no event, and where it has a session no pass is due.
pub record MigrateEndedTurn (limits : Numbers) (entries : List Entry) (m : migrate.Machine) : Type 0 where
  pub rests : m.asked ≡ Idle
  pub turn : IsTurn m.known.seat entries
  pub none : m.known.seat.kept ≡ []
  pub none_due : (sid : Sid) → IsSeated m.known.seat sid → NoneDue limits entries m.known.fresh

-- the turn of the daemon where it runs, which rests now
abbrev pub IsTurnOf : {D M : Type 0} → Daemon → Run D M → List Entry → Type 0
IsTurnOf Recall s entries = IfSome s.system.recall (λ r. RecallEndedTurn entries r.machine)
IsTurnOf Migrate s entries = IfSome s.system.migrate (λ m. MigrateEndedTurn s.system.limits entries m.machine)

-- ---- why recall keeps events

-- Its session asked for the right to a file of which it was told under the token. It was refused, as another token had a right there, and has it now.
pub record IsStillRefused (entries : List Entry) (rights : Rights) (seat : Seat) (t : Token) : Type 0 where
  pub sid : Sid
  pub handle : Handle
  pub holder : Token
  pub session : seat.sid ≡ Some sid
  pub told : IsTold seat.kept t handle
  pub refused : Contains entries (entry_of (Session sid) (Dm (RequestRight t handle Excl)) (Told (Refused (Busy holder))))
  pub holds : conflict handle.key Excl t rights ≡ Some holder

-- each event that it keeps
abbrev pub AreStillRefused : List Entry → Rights → Seat → Type 0
AreStillRefused entries rights seat = AllByRecursion (λ (k : Kept). IsStillRefused entries rights seat k.event.token) seat.kept

-- ---- the end of a settling

-- no caller's access may go on
abbrev pub NoneReady : {D : Type 0} → Store D → Type 0
NoneReady s = (caller : ℕ) → IsCallerNumber caller → ready s caller ≢ Now

-- Behind these entries there are some of recall and then some of migration, all quiet, with which a turn of each has ended. What recall keeps is held up. No
-- access may go on now.
pub record EndsQuietly {D M : Type 0} (from : List Entry) (s : Run D M) : Type 0 where
  pub recall_turn : List Entry
  pub migrate_turn : List Entry
  pub history : s.system.store.history ≡ from ++ recall_turn ++ migrate_turn
  pub quiet : list_all is_quiet (recall_turn ++ migrate_turn) ≡ true
  pub recall : IsTurnOf Recall s recall_turn
  pub migrate : IsTurnOf Migrate s migrate_turn
  pub held_up : IfSome s.system.recall (λ r. AreStillRefused recall_turn (state_of s.system.store).rights r.machine.known.seat)
  pub ready : NoneReady s.system.store

-- the last round ended so
abbrev pub IsSettled : {D M : Type 0} → Run D M → Run D M → Type 0
IsSettled old new = (before : List Entry) × EndsQuietly (old.system.store.history ++ before) new
