use Rattle.marked_history.proofs.Granting as law
use Rattle.marked_history.proofs.laws.served_holds_granted.Goals as goal

pub returns : goal.returns
returns c = law.served_holds_granted
