use Rattle.plain_model.proofs.Goods as law
use Rattle.plain_model.proofs.laws.run_is_good.Goals as goal

pub returns : goal.returns
returns c = law.run_is_good
