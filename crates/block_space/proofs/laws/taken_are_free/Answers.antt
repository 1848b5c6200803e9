use Rattle.block_space.proofs.Spaces as law
use Rattle.block_space.proofs.laws.taken_are_free.Goals as goal

pub returns : goal.returns
returns c = record { free = law.taken_are_free; others = law.take_adds_others }
