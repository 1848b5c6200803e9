use Rattle.deeds.proofs.Living as law
use Rattle.deeds.proofs.laws.stands_exactly.Goals as goal

pub returns : goal.returns
returns g c = law.stands_exactly g.M.Machine.workings
