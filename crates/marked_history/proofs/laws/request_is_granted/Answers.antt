use Rattle.marked_history.proofs.Granting as law
use Rattle.marked_history.proofs.laws.request_is_granted.Goals as goal

pub returns : goal.returns
returns c = law.request_is_granted
