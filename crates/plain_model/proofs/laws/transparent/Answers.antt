use Rattle.plain_model.proofs.Same as law
use Rattle.plain_model.proofs.laws.transparent.Goals as goal

pub returns : goal.returns
returns c = law.transparent
