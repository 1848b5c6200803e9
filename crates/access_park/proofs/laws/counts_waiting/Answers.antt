use Rattle.access_park.proofs.Counting as law
use Rattle.access_park.proofs.laws.counts_waiting.Goals as goal

pub returns : goal.returns
returns c = law.counts_waiting
