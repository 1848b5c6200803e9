use Rattle.hsm_replay.specs.ReadyCallers.{MayGoOn}
use Rattle.hsm_replay.proofs.PartsRun as law
use Rattle.hsm_replay.proofs.laws.runs_by_lines.Goals as goal

pub returns : goal.returns
returns g c quiet s daemon lines = law.runs_by_lines quiet (MayGoOn s) daemon lines
