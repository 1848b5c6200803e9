use Rattle.deeds.proofs.Answering as law
use Rattle.deeds.proofs.laws.once_answered.Goals as goal

pub returns : goal.returns
returns g c = record { once = law.once_answered g.M.Machine.workings; last = law.hears_last g.M.Machine.workings }
