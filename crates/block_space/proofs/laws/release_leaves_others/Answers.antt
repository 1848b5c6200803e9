use Rattle.block_space.proofs.Spaces as law
use Rattle.block_space.proofs.laws.release_leaves_others.Goals as goal

pub returns : goal.returns
returns c = record { others = law.release_leaves_others; many = law.releases-leave; undo = law.release_undoes_take }
