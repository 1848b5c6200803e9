use Rattle.marked_history.proofs.Waiting as law
use Rattle.marked_history.proofs.laws.settled_waits.Goals as goal

pub returns : goal.returns
returns c = law.settled_waits
