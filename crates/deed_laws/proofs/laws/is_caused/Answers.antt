use Rattle.deed_laws.proofs.Causing as law
use Rattle.deed_laws.proofs.laws.is_caused.Goals as goal

pub returns : goal.returns
returns c = law.is_caused
