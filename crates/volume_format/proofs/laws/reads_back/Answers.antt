use Rattle.volume_format.proofs.ReadObjects as law
use Rattle.volume_format.proofs.laws.reads_back.Goals as goal

pub returns : goal.returns
returns c = law.reads_back
