use Rattle.plain_model.proofs.Goods as law
use Rattle.plain_model.proofs.laws.beginning_is_run.Goals as goal

pub returns : goal.returns
returns c = law.beginning_is_run
