use Rattle.hsm_policy.proofs.OneMeaning as law
use Rattle.hsm_policy.proofs.laws.one_settings.Goals as goal

pub returns : goal.returns
returns c = law.one_settings
