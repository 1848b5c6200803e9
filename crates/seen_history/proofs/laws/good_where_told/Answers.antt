use Rattle.seen_history.proofs.Goods as law
use Rattle.seen_history.proofs.laws.good_where_told.Goals as goal

pub returns : goal.returns
returns c = law.good_where_told
