-- What marked histories tell of a store that has settled.
use Rattle.std.specs.Prelude.{◌≡◌, false, List, ◌++◌}
use Rattle.std.specs.List.{AllByRecursion}
use Rattle.media_model.specs.declared.drive.Drive as drive
use Rattle.hsm_types.specs.declared.daemons.Daemon.TheVariants.{Recall, Migrate}
use Rattle.plain_model.specs.declared.entries.Entry.{Entry}
use Rattle.script_text.specs.declared.lines.Line.{Line}
use Rattle.file_store.specs.Stores.{superblock_of}
use Rattle.plain_model.specs.State.{State, just_opened}
use Rattle.deeds.specs.Deeds.{Deed}
use Rattle.marked_history.specs.Follows.{IsMadeBy}
use Rattle.hsm_replay.specs.Keeping.{Shows}
use Rattle.hsm_replay.specs.Marking.{marks_of}
use Rattle.marked_history.specs.Marks.{Mark, entries_of}
use Rattle.hsm_replay.specs.Settled.{EndsQuietly}
use Rattle.hsm_replay.specs.Systems.{Run, running}
use Rattle.marked_history.specs.Settling.{HasSettled, LeavesSettled}

-- The last marks are those of a turn of recall and of one of migration, each with calls of its daemon alone.
pub record EndsInTurns (marks : List Mark) (recall_turn migrate_turn : List Entry) : Type 0 where
  pub before : List Mark
  pub recalls : List Mark
  pub migrates : List Mark
  pub parted : marks ≡ before ++ (recalls ++ migrates)
  pub by_recall : AllByRecursion (IsMadeBy Recall) recalls
  pub by_migrate : AllByRecursion (IsMadeBy Migrate) migrates
  pub recalled : entries_of recalls ≡ recall_turn
  pub migrated : entries_of migrates ≡ migrate_turn

-- it has come to rest, in turns of which the last of these deeds are
abbrev pub EndsMarked : {D M : Type 0} → Run D M → Run D M → List Deed → Type 0
EndsMarked old new deeds = (turns : EndsQuietly old.system.store.history new) × EndsInTurns (marks_of deeds) turns.recall_turn turns.migrate_turn

-- where the store works, it is so of each marked history that shows it, and of the marks of the deeds behind that
abbrev pub LeadsTo : {D M : Type 0} → drive.Ghosts M → (List Mark → List Mark → Type 0) → Run D M → List Deed → Type 0
LeadsTo {M = M} g IsSo old deeds = old.system.store.files.failed ≡ false → (opened : List M) (marks : List Mark) → Shows g opened marks old → IsSo marks (marks_of deeds)

-- the state in which the store was opened
abbrev pub first_of : {D M : Type 0} → Run D M → State
first_of s = just_opened s.system.store.opened.meta.number s.system.store.opened.held

-- a settle has come to its end
abbrev pub IsSettledIn : {D M : Type 0} → Run D M → (before part : List Mark) → Type 0
IsSettledIn s before part = HasSettled s.system.limits (superblock_of s.system.store.opened) (first_of s) (running s) before part

-- the line's part, with what it has come to where it settles
abbrev pub IsLeftBy : {D M : Type 0} → Line → Run D M → (before part : List Mark) → Type 0
IsLeftBy line new before part = LeavesSettled new.system.limits (superblock_of new.system.store.opened) (first_of new) line (running new) before part
