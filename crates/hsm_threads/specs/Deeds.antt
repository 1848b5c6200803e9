-- The deeds of a run: those of its daemons and of its callers.
use Rattle.std.specs.Prelude.{◌≡◌, List, [], ◌∷◌, All, Option, None, Some}
use Rattle.hsm_types.specs.declared.daemons.Daemon.{Daemon}
use Rattle.hsm_policy.specs.Settings.{Numbers}
use Rattle.plain_model.specs.declared.entries.Action.{Action}
use Rattle.plain_model.specs.declared.entries.Action.TheVariants as action
use Rattle.plain_model.specs.declared.entries.Actor.{Actor}
use Rattle.plain_model.specs.declared.entries.Actor.TheVariants.{Caller}
use Rattle.plain_model.specs.declared.entries.Answer.{Answer}
use Rattle.plain_model.specs.declared.entries.Entry.{Entry}
use Rattle.call_lists.specs.Made.{call_made}
use Rattle.deeds.specs.Deeds.{Deed, Enters, Starts, Kills, Refreshes, Gives, Hears, Breaks, Loses, entries_of}
use Rattle.deeds.specs.Leads.{Served}
use Rattle.hsm_system.specs.Lives.{recalls, migrates}
use Rattle.hsm_system.specs.declared.stops.Stop.{Stop}
use Rattle.hsm_system.specs.declared.stops.Stop.TheVariants as stop

-- ---- all of a run

-- a caller makes a call, and isn't refused since an access of it waits; or it goes on
abbrev pub IsByCaller : Actor → Action → Answer → Type 0
IsByCaller (Caller c) (action.Issue call) given = call_made (action.Issue call) given ≡ Some call
IsByCaller (Caller c) action.Resume given = Unit {0}
IsByCaller actor asked given = ⊥

-- Sessions are those of the daemons alone. No daemon is killed, and migration begins no pass by `high` again.
abbrev pub IsOfRun : Deed → Type 0
IsOfRun (Enters e) = IsByCaller e.actor e.action e.answer
IsOfRun (Starts daemon) = Unit {0}
IsOfRun (Gives daemon asked) = Unit {0}
IsOfRun (Hears daemon asked told) = Unit {0}
IsOfRun (Breaks daemon sid call) = Unit {0}
IsOfRun (Loses daemon) = Unit {0}
IsOfRun (Kills daemon) = ⊥
IsOfRun Refreshes = ⊥

-- a daemon loses nothing that it was to hear
abbrev pub LosesNothing : Deed → Type 0
LosesNothing (Breaks daemon sid call) = ⊥
LosesNothing (Loses daemon) = ⊥
LosesNothing deed = Unit {0}

-- The history is that of deeds by which its daemons are served. Only a run that has stopped has lost what a daemon was to hear.
pub record WasRun (limits : Numbers) (stop : Option Stop) (history : List Entry) : Type 0 where
  pub deeds : List Deed
  pub entries : entries_of deeds ≡ history
  pub served : Served recalls (migrates limits) deeds
  pub of_run : All IsOfRun deeds
  pub heard : stop ≡ None → All LosesNothing deeds

-- ---- one call

-- An event in a run is the one deed, whether the run goes on or a fault of the disk stops it. Where memory runs out there is none.
abbrev pub entered : Option Stop → Entry → List Deed
entered None e = Enters e ∷ []
entered (Some stop.Disk) e = Enters e ∷ []
entered (Some stop.Memory) e = []
