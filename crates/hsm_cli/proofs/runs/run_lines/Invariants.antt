use Rattle.std.proofs.Common.{◌≡◌, ◌++◌, false, List}
use Rattle.std.specs.List.{AllByRecursion}
use Rattle.script_text.specs.declared.lines.Line.{Line}
use Rattle.script_text.specs.Lines.{IsLine}
use Rattle.hsm_replay.specs.Deeds.{IsDoneBy}
use Rattle.hsm_replay.specs.ReadyCallers.{MayGoOn}
use Rattle.hsm_replay.specs.Systems.{running}
use Rattle.hsm_system.specs.Events.{HasGrown}
use Rattle.marked_history.specs.Settling.{none_run, running_behind}
use Rattle.hsm_cli.specs.Deeds.{AreOfLines}
use Rattle.hsm_cli.specs.Follows.{SettlesSince}
use Rattle.hsm_cli.proofs.runs.run_lines.Given as goal

abbrev pub invariant-loop-line : goal.invariant-loop-line
invariant-loop-line g l = record {
  goes_on : HasGrown g.D.Disk l.fn.replay.system.store l.replay.system.store;
  working : l.replay.system.store.files.failed ≡ false;
  done : List Line;
  running : running l.replay ≡ running_behind done none_run;
  deeds : IsDoneBy g.M.Drive (AreOfLines (MayGoOn l.fn.replay.system.store) (SettlesSince l.fn.replay) done) l.fn.replay l.replay;
  lawful : AllByRecursion IsLine l.line-iterator;
  left : done ++ l.line-iterator ≡ l.fn.lines;
}
