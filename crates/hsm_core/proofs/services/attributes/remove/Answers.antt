use Rattle.std.proofs.Common.{refl}
use Rattle.hsm_core.proofs.Moved.{change_served}
use Rattle.hsm_core.proofs.services.attributes.remove.Goals as goal

pub returns : goal.returns
returns g c = change_served c.drop_attr.ensures.changed refl refl refl c.requires.working c.changed.ensures
