use Rattle.hsm_system.proofs.Leading.{goes_itself, goes_then}
use Rattle.hsm_system.proofs.laws.goes_on.Goals as goal

pub returns-clause-itself : goal.returns-clause-itself
returns-clause-itself g c s = goes_itself s

pub returns-clause-then : goal.returns-clause-then
returns-clause-then g c deeds more a b d first then = goes_then deeds more a b d first then
