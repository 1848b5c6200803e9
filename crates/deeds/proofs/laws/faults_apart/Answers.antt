use Rattle.deeds.proofs.Faulting as law
use Rattle.deeds.proofs.laws.faults_apart.Goals as goal

pub returns : goal.returns
returns c = law.faults_apart
