use Rattle.event_msgs.proofs.OneReading as law
use Rattle.event_msgs.proofs.laws.packed_or_bad.Goals as goal

pub returns : goal.returns
returns c = law.packed_or_bad
