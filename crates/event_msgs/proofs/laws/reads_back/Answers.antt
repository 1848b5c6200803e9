use Rattle.event_msgs.proofs.OneReading as law
use Rattle.event_msgs.proofs.laws.reads_back.Goals as goal

pub returns : goal.returns
returns c = law.reads_back
