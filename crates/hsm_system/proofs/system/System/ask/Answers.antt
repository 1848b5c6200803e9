use Rattle.hsm_system.proofs.Leading.{given_goes, lacked_goes}
use Rattle.hsm_system.proofs.system.System.ask.Goals as goal

pub returns-clause-deeds : goal.returns-clause-deeds
returns-clause-deeds g c = given_goes c.args.daemon c.args.self.now _ c.next.result c.next.ensures.asked

pub returns-clause-lost : goal.returns-clause-lost
returns-clause-lost g c = lacked_goes c.args.daemon c.args.self.now _ c.next.result c.next.ensures.lacks
