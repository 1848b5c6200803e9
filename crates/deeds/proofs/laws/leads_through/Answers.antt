use Rattle.deeds.proofs.Leading as law
use Rattle.deeds.proofs.laws.leads_through.Goals as goal

pub returns : goal.returns
returns g c = law.leads_through g.R.Machine.workings g.M.Machine.workings
