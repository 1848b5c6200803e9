use Rattle.std.specs.Prelude.{length}
use Rattle.std.proofs.Common.{ap}
use Rattle.hsm_core.proofs.threads.count.Goals as goal

pub returns : goal.returns
returns g c = (c.deref.result.now, c.history.ensures.kept, ap length c.history.ensures.entries)
