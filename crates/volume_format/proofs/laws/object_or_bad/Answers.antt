use Rattle.volume_format.proofs.ReadObjects as law
use Rattle.volume_format.proofs.laws.object_or_bad.Goals as goal

pub returns : goal.returns
returns c = law.object_or_bad
