use Rattle.hsm_replay.proofs.Sealing as law
use Rattle.hsm_replay.proofs.laws.seals_are_whole.Goals as goal

pub returns : goal.returns
returns g c = law.seals_are_whole g.M.Drive g.met.M.Drive.sure_tells
