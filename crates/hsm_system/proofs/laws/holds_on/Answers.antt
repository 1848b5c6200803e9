use Rattle.hsm_system.proofs.Leading.{holds_then}
use Rattle.hsm_system.proofs.laws.holds_on.Goals as goal

pub returns : goal.returns
returns g c deeds more old new holds goes = holds_then deeds more old new holds goes
