use Rattle.std.proofs.Common.{refl}
use Rattle.hsm_core.proofs.Moved.{change_served}
use Rattle.hsm_core.proofs.services.regions.set.Goals as goal

pub returns : goal.returns
returns g c = change_served (rw c.in_ok-regions.ensures.cases at c.set_regions.ensures.changed) refl refl refl c.requires.working c.changed.ensures
