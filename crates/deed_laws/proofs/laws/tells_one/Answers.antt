use Rattle.deed_laws.proofs.Telling as law
use Rattle.deed_laws.proofs.laws.tells_one.Goals as goal

pub returns : goal.returns
returns c = law.tells_one
