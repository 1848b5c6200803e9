use Rattle.std.proofs.Common.{refl}
use Rattle.hsm_core.proofs.Moved.{change_served}
use Rattle.hsm_core.proofs.services.attributes.set.Goals as goal

pub returns : goal.returns
returns g c = change_served (rw c.in_ok-value.ensures.cases at c.set_attr.ensures.changed) refl refl refl c.requires.working c.changed.ensures
