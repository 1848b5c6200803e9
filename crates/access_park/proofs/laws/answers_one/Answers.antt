use Rattle.access_park.proofs.Answering as law
use Rattle.access_park.proofs.laws.answers_one.Goals as goal

pub returns : goal.returns
returns c = law.answers_one
