use Rattle.hosts.proofs.HandingOut.{Makes-folders, Makes-gone, Makes-others, Makes-made}
use Rattle.hosts.proofs.mem_host.MemHostHost.make.Goals as goal

pub returns-clause-gone : goal.returns-clause-gone
returns-clause-gone c = Makes-gone c.args.path.now c.args.self.now c.make_blank.new.self c.args.len c.make_blank.result c.make_blank.ensures.makes

pub returns-clause-others : goal.returns-clause-others
returns-clause-others c = Makes-others c.args.path.now c.args.self.now c.make_blank.new.self c.args.len c.make_blank.result c.make_blank.ensures.makes

pub returns-clause-made : goal.returns-clause-made
returns-clause-made c = (Makes-made c.args.path.now c.args.self.now c.make_blank.new.self c.args.len c.make_blank.result c.make_blank.ensures.makes).0

pub returns-clause-unopened : goal.returns-clause-unopened
returns-clause-unopened c = (Makes-made c.args.path.now c.args.self.now c.make_blank.new.self c.args.len c.make_blank.result c.make_blank.ensures.makes).1

pub returns-clause-folders : goal.returns-clause-folders
returns-clause-folders c = (Makes-folders c.args.path.now c.args.self.now c.make_blank.new.self c.args.len c.make_blank.result c.make_blank.ensures.makes).0

pub returns-clause-undriven : goal.returns-clause-undriven
returns-clause-undriven c = (Makes-folders c.args.path.now c.args.self.now c.make_blank.new.self c.args.len c.make_blank.result c.make_blank.ensures.makes).1
