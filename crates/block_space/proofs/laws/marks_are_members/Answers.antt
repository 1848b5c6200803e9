use Rattle.block_space.proofs.Spaces as law
use Rattle.block_space.proofs.laws.marks_are_members.Goals as goal

pub returns : goal.returns
returns c = record { members = law.marks_are_members; order = law.marks_forget_order; join = law.marks_join }
