use Rattle.deed_laws.proofs.Beginning as law
use Rattle.deed_laws.proofs.laws.begins_right.Goals as goal

pub returns : goal.returns
returns c = law.begins_right
