use Rattle.hsm_system.proofs.Leading.{killed_goes}
use Rattle.hsm_system.proofs.system.System.kill.Goals as goal

pub returns-clause-deeds : goal.returns-clause-deeds
returns-clause-deeds g c = killed_goes c.args.daemon c.args.self.now _ c.end.ensures
