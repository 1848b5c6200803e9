-- The commit behind the lines of a script.
use Rattle.std.specs.Prelude.{◌≡◌, ◌+◌, None}
use Rattle.plain_model.specs.declared.entries.Action.TheVariants.{Commit}
use Rattle.plain_model.specs.declared.entries.Actor.TheVariants.{Store as TheStore}
use Rattle.plain_model.specs.Synced.{synced}
use Rattle.script_text.specs.declared.lines.Line.{Line}
use Rattle.script_text.specs.declared.lines.Line.TheVariants.{Event}
use Rattle.hsm_core.specs.Store.{Store}

abbrev pub commit_line : Line
commit_line = Event TheStore Commit None

-- All that is held was made durable by the last sync, under the number of the last entry before it.
pub record IsAllDurable {D : Type 0} (s : Store D) : Type 0 where
  pub held : s.files.durable ≡ s.files.held
  pub number : s.files.meta.number ≡ s.opened.meta.number + synced s.history
