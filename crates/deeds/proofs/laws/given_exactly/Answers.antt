use Rattle.deeds.proofs.Giving as law
use Rattle.deeds.proofs.laws.given_exactly.Goals as goal

pub returns : goal.returns
returns g c = law.given_exactly g.R.Machine.workings g.M.Machine.workings
