-- How a daemon's life begins, and when it begins anew, by deeds.
use Rattle.std.specs.Prelude.{◌≡◌, ◌⊎◌, List, ◌∷◌, ◌++◌, All, None}
use Rattle.hsm_types.specs.declared.daemons.Act.{Act}
use Rattle.hsm_types.specs.declared.daemons.Act.TheVariants.{Dm}
use Rattle.hsm_types.specs.declared.daemons.Daemon.{Daemon}
use Rattle.hsm_types.specs.declared.daemons.Heard.TheVariants as heard
use Rattle.hsm_types.specs.declared.dm.DmCall.{DmCall}
use Rattle.hsm_types.specs.declared.dm.DmCall.TheVariants.{GetAllSessions}
use Rattle.hsm_types.specs.declared.dm.DmRefusal.TheVariants.{NoSession}
use Rattle.hsm_types.specs.declared.dm.DmReply.TheVariants.{Refused}
use Rattle.hsm_types.specs.declared.keys.Sid.{Sid}
use Rattle.hsm_policy.specs.Settings.{Numbers}
use Rattle.daemon_session.specs.Seats.{first_id}
use Rattle.deeds.specs.Answers.{IsLast}
use Rattle.deeds.specs.Deeds.{Deed, Starts, Gives}
use Rattle.deeds.specs.Given.{asked_behind}
use Rattle.deeds.specs.Leads.{Served}
use Rattle.deeds.specs.Lives.{Move, Ends, Asks, Learns, life}
use Rattle.hsm_system.specs.Lives.{recalls, migrates}
use Rattle.deed_laws.specs.Knowing.{seat_behind}

-- the act by which it asks for all sessions
abbrev pub asks_all : Act
asks_all = Dm first_id GetAllSessions

-- it neither gives an act nor is ended
abbrev pub GivesNone : Move → Type 0
GivesNone Ends = ⊥
GivesNone (Asks act) = ⊥
GivesNone move = Unit {0}

-- The daemon was started where it didn't run, and has given no act since.
pub record IsAtStart (daemon : Daemon) (deeds : List Deed) : Type 0 where
  pub before : List Deed
  pub since : List Deed
  pub parted : deeds ≡ before ++ Starts daemon ∷ since
  pub started : asked_behind (life daemon before) None ≡ None
  pub none : All GivesNone (life daemon since)

-- it was told last that its session is gone
abbrev pub HasLostSession : Daemon → List Deed → Type 0
HasLostSession daemon deeds = (sid : Sid) × (call : DmCall) × IsLast (Learns (Dm sid call) (heard.Dm (Refused NoSession))) (life daemon deeds)

-- What a daemon gives first after its start, and next where its session is gone, asks for all sessions. Else it does so only where it knows of no session.
pub record BeginsRight (limits : Numbers) (deeds : List Deed) : Type 0 where
  pub first : (before : List Deed) (daemon : Daemon) (act : Act) (rest : List Deed) → deeds ≡ before ++ Gives daemon act ∷ rest → IsAtStart daemon before → act ≡ asks_all
  pub next : (before : List Deed) (daemon : Daemon) (act : Act) (rest : List Deed) → deeds ≡ before ++ Gives daemon act ∷ rest → HasLostSession daemon before → act ≡ asks_all
  pub anew : (before : List Deed) (daemon : Daemon) (sid : Sid) (rest : List Deed) → deeds ≡ before ++ Gives daemon (Dm sid GetAllSessions) ∷ rest → ((seat_behind limits daemon before).sid ≡ None) ⊎ HasLostSession daemon before

abbrev pub ServedBeginsRight : Numbers → List Deed → Type 0
ServedBeginsRight limits deeds = Served recalls (migrates limits) deeds → BeginsRight limits deeds
