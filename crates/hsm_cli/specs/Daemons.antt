-- How well a run is served: how its daemons come to sessions, what they keep, and how much each punch frees.
use Rattle.std.specs.Prelude.{◌≡◌, ℕ, List, ◌++◌, Option}
use Rattle.hsm_types.specs.declared.daemons.Daemon.{Daemon}
use Rattle.hsm_types.specs.declared.stores.Superblock.{Superblock}
use Rattle.plain_model.specs.declared.entries.Entry.{Entry}
use Rattle.plain_model.specs.State.{Held, just_opened}
use Rattle.hsm_policy.specs.Settings.{standard}
use Rattle.file_store.specs.Stores.{Store}
use Rattle.deeds.specs.Deeds.{Deed, entries_of}
use Rattle.deeds.specs.Leads.{Served}
use Rattle.hsm_system.specs.Lives.{recalls, migrates}
use Rattle.deed_laws.specs.Beginning.{BeginsRight}
use Rattle.deed_laws.specs.DaemonSessions.{MakesAnew, TakesOver}
use Rattle.deed_laws.specs.Passes.{AllPassed}
use Rattle.marked_history.specs.Freeing.{PunchesFree}
use Rattle.marked_history.specs.Marks.{Mark}
use Rattle.marked_history.specs.Served as marked
use Rattle.marked_history.specs.Tokens.{KeepsAll}
use Rattle.hsm_replay.specs.Marking.{marks_of}
use Rattle.hsm_cli.specs.Openings.{superblock_at, held_at, base_of}

-- At each moment a daemon with a session keeps each event of its kinds that is outstanding to that session, but for those that lines of the script took:
-- none is lost when it is killed and started again.
abbrev pub KeepsThroughout : Superblock → ℕ → Held → List Mark → Type 0
KeepsThroughout s base h marks = (daemon : Daemon) (first rest : List Mark) → marks ≡ first ++ rest → KeepsAll daemon standard s (just_opened base h) first

-- Of a run on a store that held this when it was opened under that number. A daemon makes a session beside the others only where it was told all
-- sessions, none of which had its information then, and takes the place of one only where it was told that this one has its information; it has
-- neither asked anew nor was it ended since. It begins by asking for all sessions, and anew only where it has none or that is gone. Each act of a pass is
-- fit for the picks of its table, and a pass that is over has done with them. Each punch that is done frees just the mapped blocks of its segments. And
-- daemons keep the events that are theirs.
pub record IsWellServed (s : Superblock) (base : ℕ) (h : Held) (deeds : List Deed) : Type 0 where
  pub anew : MakesAnew s (just_opened base h) deeds
  pub over : TakesOver deeds
  pub begins : BeginsRight standard deeds
  pub passes : AllPassed standard deeds
  pub frees : PunchesFree s base h (entries_of deeds)
  pub keeps : KeepsThroughout s base h (marks_of deeds)

-- on the store that was opened
abbrev pub IsWellServedOver : {D : Type 0} → Option (Store D) → List Deed → Type 0
IsWellServedOver opened = IsWellServed (superblock_at opened) (base_of opened) (held_at opened)

-- all deeds that show this history to be served are such
abbrev pub ServedIsWell : {D : Type 0} → Option (Store D) → List Entry → Type 0
ServedIsWell opened history = (deeds : List Deed) → entries_of deeds ≡ history → Served recalls (migrates standard) deeds → marked.Served standard (marks_of deeds) → IsWellServedOver opened deeds
