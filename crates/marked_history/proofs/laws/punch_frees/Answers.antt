use Rattle.marked_history.proofs.Freeing as law
use Rattle.marked_history.proofs.laws.punch_frees.Goals as goal

pub returns : goal.returns
returns c = law.punch_frees
