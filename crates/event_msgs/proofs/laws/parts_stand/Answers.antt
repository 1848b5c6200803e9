use Rattle.event_msgs.proofs.PartsStand as law
use Rattle.event_msgs.proofs.laws.parts_stand.Goals as goal

pub returns : goal.returns
returns c = law.parts_stand
