use Rattle.volume_format.proofs.ReadObjects as law
use Rattle.volume_format.proofs.laws.payload_follows.Goals as goal

pub returns : goal.returns
returns c = law.payload_follows
