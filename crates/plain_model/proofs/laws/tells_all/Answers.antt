use Rattle.plain_model.proofs.Seeing as law
use Rattle.plain_model.proofs.laws.tells_all.Goals as goal

pub returns : goal.returns
returns c = law.tells_all
