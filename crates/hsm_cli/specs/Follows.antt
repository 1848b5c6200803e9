-- What is run of a script, and what its settles come to.
use Rattle.std.specs.Prelude.{List, [], ◌∷◌, ◌++◌, Bool, true, false, Option}
use Rattle.hsm_policy.specs.Settings.{standard}
use Rattle.script_text.specs.declared.lines.Line.{Line}
use Rattle.plain_model.specs.State.{just_opened}
use Rattle.file_store.specs.Stores.{Store, superblock_of}
use Rattle.marked_history.specs.Marks.{Mark}
use Rattle.marked_history.specs.Settling.{none_run, EachSettles}
use Rattle.hsm_replay.specs.Resting.{first_of}
use Rattle.hsm_replay.specs.Running.{commit_line}
use Rattle.hsm_replay.specs.Systems.{Run}
use Rattle.hsm_cli.specs.Openings.{superblock_at, held_at, base_of}

-- what is run of a script: its lines, and a commit at the end where that is wanted
abbrev pub lines_run : Bool → List Line → List Line
lines_run false lines = lines
lines_run true lines = lines ++ commit_line ∷ []

-- each settle of the lines has come to its end so, since no daemon ran on this store
abbrev pub SettlesSince : {D M : Type 0} → Run D M → List Line → List Mark → Type 0
SettlesSince s = EachSettles s.system.limits (superblock_of s.system.store.opened) (first_of s) none_run []

-- on the store that was opened, by the default settings
abbrev pub SettlesOn : {D : Type 0} → Option (Store D) → List Line → List Mark → Type 0
SettlesOn opened = EachSettles standard (superblock_at opened) (just_opened (base_of opened) (held_at opened)) none_run []
