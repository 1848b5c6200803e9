use Rattle.deeds.proofs.Leading as law
use Rattle.deeds.proofs.laws.served_once.Goals as goal

pub returns : goal.returns
returns g c = law.served_once g.R.Machine.workings g.M.Machine.workings
