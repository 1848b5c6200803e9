use Rattle.marked_history.proofs.NoneWaiting as law
use Rattle.marked_history.proofs.laws.settled_none_waits.Goals as goal

pub returns : goal.returns
returns c = law.settled_none_waits
