use Rattle.deeds.proofs.Faulting as law
use Rattle.deeds.proofs.laws.fault_added.Goals as goal

pub returns : goal.returns
returns c = law.fault_added
