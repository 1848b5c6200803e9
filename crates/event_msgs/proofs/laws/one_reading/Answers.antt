use Rattle.event_msgs.proofs.OneReading as law
use Rattle.event_msgs.proofs.laws.one_reading.Goals as goal

pub returns : goal.returns
returns c = law.one_reading
