use Rattle.std.proofs.Common.{None, ap}
use Rattle.hsm_system.specs.Systems.{System}
use Rattle.hsm_threads.proofs.Holding.{first_works}
use Rattle.hsm_threads.proofs.Keeping.{lies_first}
use Rattle.hsm_threads.proofs.run.Run.new.Goals as goal

pub invariant_of-result : goal.invariant_of-result
invariant_of-result g c = lies_first g.N.Named.opened g.N.Named.limits g.N.Named.lines c.args.hsm c.args.lists c.args.settings c.new.result c.new.ensures c.requires.named c.requires.limits c.requires.lines c.requires.empty
    (first_works g.D.Disk c.args.hsm c.history.ensures.kept c.requires.empty)

pub returns : goal.returns
returns g c = ap (λ (s : System g.row.D.Denot). record { system = s; lists = c.args.lists; stop = None }) c.new.ensures
