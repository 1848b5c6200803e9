use Rattle.deed_laws.proofs.MakingAnew as law
use Rattle.deed_laws.proofs.laws.makes_anew.Goals as goal

pub returns : goal.returns
returns c = law.makes_anew
