use Rattle.managed_regions.proofs.Apart as law
use Rattle.managed_regions.proofs.laws.lawful_stand_apart.Goals as goal

pub returns : goal.returns
returns c = law.lawful_stand_apart
