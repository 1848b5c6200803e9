use Rattle.deed_laws.proofs.Passing as law
use Rattle.deed_laws.proofs.laws.all_passed.Goals as goal

pub returns : goal.returns
returns c = law.all_passed
