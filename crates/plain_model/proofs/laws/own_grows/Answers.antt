use Rattle.plain_model.proofs.Owning as law
use Rattle.plain_model.proofs.laws.own_grows.Goals as goal

pub returns : goal.returns
returns c = law.own_grows
