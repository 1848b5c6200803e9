use Rattle.hsm_replay.proofs.Deeds.{runs_then}
use Rattle.hsm_replay.proofs.laws.runs_on.Goals as goal

pub returns : goal.returns
returns g c deeds more x y z = runs_then g.M.Drive deeds more x y z
