use Rattle.std.proofs.Common.{inr, ap}
use Rattle.migrate_daemon.specs.Passes.{Pass}
use Rattle.migrate_daemon.proofs.passes.skip.Goals as goal

pub returns-clause-gives : goal.returns-clause-gives
returns-clause-gives c = λ asked told not_all. c.take.ensures c.args.pass.now asked told (inr (ap (λ (p : Pass). p.at) c.in_ok-skip.ensures.ok)) not_all
