use Rattle.hsm_system.proofs.Leading.{lost_or_not}
use Rattle.hsm_system.proofs.system.System.lose.Goals as goal

pub returns-clause-goes : goal.returns-clause-goes
returns-clause-goes g c = lost_or_not c.args.daemon c.args.self.now _ c.forget.result c.forget.ensures.waited.0 c.forget.ensures.lost c.forget.ensures.kept
