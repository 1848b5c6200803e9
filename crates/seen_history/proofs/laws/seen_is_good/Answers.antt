use Rattle.seen_history.proofs.Goods as law
use Rattle.seen_history.proofs.laws.seen_is_good.Goals as goal

pub returns : goal.returns
returns c = law.seen_law
