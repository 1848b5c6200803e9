use Rattle.volume_format.proofs.ReadObjects as law
use Rattle.volume_format.proofs.laws.one_reading.Goals as goal

pub returns : goal.returns
returns c = law.one_reading
