-- How daemons come to sessions, by deeds.
use Rattle.std.specs.Prelude.{◌≡◌, ◌≢◌, ℕ, List, ◌∷◌, ◌++◌, All, Some}
use Rattle.hsm_types.specs.Daemons.{information}
use Rattle.hsm_types.specs.Sessions.{SessionTable, info_of}
use Rattle.hsm_types.specs.declared.daemons.Act.TheVariants.{Dm}
use Rattle.hsm_types.specs.declared.daemons.Daemon.{Daemon}
use Rattle.hsm_types.specs.declared.daemons.Heard.TheVariants as heard
use Rattle.hsm_types.specs.declared.dm.DmCall.TheVariants.{CreateSession, GetAllSessions, QuerySession}
use Rattle.hsm_types.specs.declared.dm.DmReply.TheVariants.{Sids, Info}
use Rattle.hsm_types.specs.declared.keys.Sid.{Sid}
use Rattle.hsm_types.specs.declared.stores.Superblock.{Superblock}
use Rattle.plain_model.specs.State.{Held, State, just_opened}
use Rattle.plain_model.specs.Exact.{state_by}
use Rattle.plain_model.specs.Laws.{IsRunSeen}
use Rattle.hsm_policy.specs.Settings.{Numbers}
use Rattle.daemon_session.specs.Seats.{first_id}
use Rattle.deeds.specs.Deeds.{Deed, Gives, Hears, entries_of}
use Rattle.deeds.specs.Leads.{Served}
use Rattle.deeds.specs.Lives.{Move, Ends, Asks, life}
use Rattle.hsm_system.specs.Lives.{recalls, migrates}

-- it neither asks for all sessions, or for a session, nor is ended
abbrev pub StaysOn : Move → Type 0
StaysOn Ends = ⊥
StaysOn (Asks (Dm sid GetAllSessions)) = ⊥
StaysOn (Asks (Dm sid (CreateSession old info))) = ⊥
StaysOn move = Unit {0}

-- ---- sessions beside the others

-- a live session has the daemon's information
abbrev pub IsThere : Daemon → SessionTable → Type 0
IsThere daemon t = (sid : Sid) × (info_of sid t ≡ Some (information daemon))

-- The daemon was told all sessions, none of which had its information then, and has neither asked anew nor was it ended since.
pub record IsAlone (s : Superblock) (st : State) (daemon : Daemon) (deeds : List Deed) : Type 0 where
  pub before : List Deed
  pub ids : List Sid
  pub since : List Deed
  pub parted : deeds ≡ before ++ Hears daemon (Dm first_id GetAllSessions) (heard.Dm (Sids ids)) ∷ since
  pub last : All StaysOn (life daemon since)
  pub none : IsThere daemon (state_by s st (entries_of before)).sessions → ⊥

-- where a daemon gives a call for a session that takes no other's place
abbrev pub MakesAnew : Superblock → State → List Deed → Type 0
MakesAnew s st deeds = (before : List Deed) (daemon : Daemon) (sid : Sid) (info : List ℕ) (rest : List Deed) → deeds ≡ before ++ Gives daemon (Dm sid (CreateSession first_id info)) ∷ rest → IsAlone s st daemon before

abbrev pub ServedMakesAnew : Numbers → Superblock → ℕ → Held → List Deed → Type 0
ServedMakesAnew limits s base h deeds = Served recalls (migrates limits) deeds → IsRunSeen ⊥ s base h (entries_of deeds) → MakesAnew s (just_opened base h) deeds

-- ---- sessions in the place of another

-- The daemon was told that the session has its information, and has neither asked anew nor was it ended since.
pub record IsKnownAs (daemon : Daemon) (old : Sid) (deeds : List Deed) : Type 0 where
  pub before : List Deed
  pub since : List Deed
  pub parted : deeds ≡ before ++ Hears daemon (Dm first_id (QuerySession old)) (heard.Dm (Info (information daemon))) ∷ since
  pub last : All StaysOn (life daemon since)

-- where a daemon gives a call for a session in the place of that one
abbrev pub TakesOver : List Deed → Type 0
TakesOver deeds = (before : List Deed) (daemon : Daemon) (sid old : Sid) (info : List ℕ) (rest : List Deed) → old.0 ≢ 0 → deeds ≡ before ++ Gives daemon (Dm sid (CreateSession old info)) ∷ rest → IsKnownAs daemon old before

abbrev pub ServedTakesOver : Numbers → List Deed → Type 0
ServedTakesOver limits deeds = Served recalls (migrates limits) deeds → TakesOver deeds
