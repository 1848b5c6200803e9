use Rattle.block_space.proofs.Spaces as law
use Rattle.block_space.proofs.laws.others_are_free.Goals as goal

pub returns : goal.returns
returns c = law.others_are_free
