use Rattle.hsm_system.specs.Events.{action_of, actor_of}
use Rattle.hsm_system.proofs.Leading.{done_enters}
use Rattle.hsm_system.proofs.system.System.event.Goals as goal

pub returns-clause-deeds : goal.returns-clause-deeds
returns-clause-deeds g c = done_enters g.D.Disk (actor_of c.args.event) (action_of c.args.event) c.requires c.args.self.now _ c.make.result c.make.ensures.done
