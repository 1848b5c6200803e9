use Rattle.hsm_replay.proofs.Moves.{step_moves}
use Rattle.hsm_replay.proofs.WhichRun.{step_runs}
use Rattle.hsm_replay.proofs.DeedSteps.{step_by_deeds}
use Rattle.hsm_replay.proofs.replay.Replay.step.Goals as goal

pub returns-clause-moves : goal.returns-clause-moves
returns-clause-moves g c = step_moves g.D.Disk g.M.Drive c.args.daemon c.step_of.result c.args.self.now c.step_of.new.self c.step_of.ensures.stepped c.step_of.ensures.stopped

pub returns-clause-runs : goal.returns-clause-runs
returns-clause-runs g c = step_runs g.D.Disk g.M.Drive c.args.daemon c.step_of.result c.args.self.now c.step_of.new.self c.step_of.ensures.stepped c.step_of.ensures.stopped

pub returns-clause-deeds : goal.returns-clause-deeds
returns-clause-deeds g c = step_by_deeds g.D.Disk g.M.Drive g.met.M.Drive.sure_counts c.args.daemon c.args.self.now c.step_of.result c.step_of.new.self c.step_of.ensures.stepped c.step_of.ensures.stopped
