use Rattle.deed_laws.proofs.TakingOver as law
use Rattle.deed_laws.proofs.laws.takes_over.Goals as goal

pub returns : goal.returns
returns c = law.takes_over
