use Rattle.deeds.proofs.Finding as law
use Rattle.deeds.proofs.laws.moves_are_deeds.Goals as goal

pub returns : goal.returns
returns c = law.moves_are_deeds
