use Rattle.hsm_system.proofs.Leading.{started_goes}
use Rattle.hsm_system.proofs.system.System.start.Goals as goal

pub returns-clause-deeds : goal.returns-clause-deeds
returns-clause-deeds g c = started_goes c.args.daemon c.args.self.now _ c.run.ensures
