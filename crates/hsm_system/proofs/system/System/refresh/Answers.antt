use Rattle.hsm_system.proofs.Leading.{refreshed_goes}
use Rattle.hsm_system.proofs.system.System.refresh.Goals as goal

pub returns-clause-deeds : goal.returns-clause-deeds
returns-clause-deeds g c = refreshed_goes c.args.self.now _ c.freshen.ensures
