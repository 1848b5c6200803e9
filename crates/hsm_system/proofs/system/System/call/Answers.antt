use Rattle.hsm_system.proofs.Leading.{answered_goes, stopped_goes}
use Rattle.hsm_system.proofs.system.System.call.Goals as goal

pub returns-clause-deeds : goal.returns-clause-deeds
returns-clause-deeds g c = answered_goes g.D.Disk c.args.daemon c.args.sid c.args.call c.args.self.now _ c.requires c.call_for.result c.call_for.ensures.answered

pub returns-clause-ends : goal.returns-clause-ends
returns-clause-ends g c = stopped_goes g.D.Disk c.args.daemon c.args.sid c.args.call c.args.self.now _ c.requires c.call_for.result c.call_for.ensures.stopped
