-- What a daemon knows when it has given an act.
use Rattle.std.specs.Prelude.{◌≡◌, List, false, Option, None, IfSome}
use Rattle.std.specs.List.{AllByRecursion}
use Rattle.hsm_types.specs.declared.daemons.Act.{Act}
use Rattle.hsm_types.specs.declared.daemons.Act.TheVariants.{Dm, Idle}
use Rattle.hsm_types.specs.declared.dm.DmCall.{DmCall}
use Rattle.hsm_types.specs.declared.dm.DmCall.TheVariants.{CreateSession, GetDmAttr, GetEvents}
use Rattle.daemon_session.specs.declared.events.Kept.{Kept}
use Rattle.daemon_session.specs.Seats.{Seat, no_seat, IsSeated}
use Rattle.recall_daemon.specs.Known.{Known}
use Rattle.recall_daemon.specs.Machine as recall
use Rattle.migrate_daemon.specs.Machine as migrate
use Rattle.hsm_policy.specs.Settings.{Numbers}
use Rattle.hsm_system.specs.Running.{Recalling, Migrating}

-- It asks for events in its own session, and for a session where it has none.
abbrev pub AsksFrom : Seat → Act → Type 0
AsksFrom seat (Dm sid (GetEvents most room)) = IsSeated seat sid
AsksFrom seat (Dm sid (CreateSession old info)) = seat ≡ no_seat
AsksFrom seat act = Unit {0}

abbrev pub NonePutOff : List Kept → Type 0
NonePutOff kept = AllByRecursion (λ (k : Kept). k.marked ≡ false) kept

-- Recall has no event in hand then, and none where it rests. Where it rests it has put none off, either.
abbrev pub IsEmptyHanded : Known → Act → Type 0
IsEmptyHanded k (Dm sid (GetEvents most room)) = k.hand ≡ None
IsEmptyHanded k (Dm sid (CreateSession old info)) = k.hand ≡ None
IsEmptyHanded k Idle = (k.hand ≡ None) × NonePutOff k.seat.kept
IsEmptyHanded k act = Unit {0}

pub record RecallAsks (m : recall.Machine) : Type 0 where
  pub seat : AsksFrom m.known.seat m.asked
  pub free : IsEmptyHanded m.known m.asked

-- Migration counts by the settings. Where it rests it knows nothing of the space.
pub record MigrateAsks (limits : Numbers) (m : migrate.Machine) : Type 0 where
  pub counts : m.limits ≡ limits
  pub seat : AsksFrom m.known.seat m.asked
  pub space : m.asked ≡ Idle → m.known.space ≡ None

abbrev pub RecallIsRight : Option Recalling → Type 0
RecallIsRight runs = IfSome runs (λ (r : Recalling). RecallAsks r.machine)

abbrev pub MigrateIsRight : Numbers → Option Migrating → Type 0
MigrateIsRight limits runs = IfSome runs (λ (m : Migrating). MigrateAsks limits m.machine)

-- ---- values of attributes

-- the call isn't answered with one
abbrev pub GivesNoValue : DmCall → Type 0
GivesNoValue (GetDmAttr t h name) = ⊥
GivesNoValue call = Unit {0}

-- nor is the act, where it is a call
abbrev pub AsksNoValue : Act → Type 0
AsksNoValue (Dm sid call) = GivesNoValue call
AsksNoValue act = Unit {0}
