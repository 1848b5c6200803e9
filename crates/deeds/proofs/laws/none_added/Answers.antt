use Rattle.deeds.proofs.Faulting as law
use Rattle.deeds.proofs.laws.none_added.Goals as goal

pub returns : goal.returns
returns c = law.none_added
