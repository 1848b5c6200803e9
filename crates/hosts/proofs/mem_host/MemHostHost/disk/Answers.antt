use Rattle.hosts.proofs.HandingOut.{Gives-folders, Gives-gone, Gives-others, Gives-opened}
use Rattle.hosts.proofs.mem_host.MemHostHost.disk.Goals as goal

pub returns-clause-gone : goal.returns-clause-gone
returns-clause-gone c = Gives-gone c.args.path.now c.args.self.now c.take.new.self c.take.result c.take.ensures.gives

pub returns-clause-others : goal.returns-clause-others
returns-clause-others c = Gives-others c.args.path.now c.args.self.now c.take.new.self c.take.result c.take.ensures.gives

pub returns-clause-opened : goal.returns-clause-opened
returns-clause-opened c = (Gives-opened c.args.path.now c.args.self.now c.take.new.self c.take.result c.take.ensures.gives).0

pub returns-clause-unmade : goal.returns-clause-unmade
returns-clause-unmade c = (Gives-opened c.args.path.now c.args.self.now c.take.new.self c.take.result c.take.ensures.gives).1

pub returns-clause-folders : goal.returns-clause-folders
returns-clause-folders c = (Gives-folders c.args.path.now c.args.self.now c.take.new.self c.take.result c.take.ensures.gives).0

pub returns-clause-undriven : goal.returns-clause-undriven
returns-clause-undriven c = (Gives-folders c.args.path.now c.args.self.now c.take.new.self c.take.result c.take.ensures.gives).1
