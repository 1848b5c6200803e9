use Rattle.hsm_core.proofs.Runs.{kept}
use Rattle.hsm_core.proofs.store.Hsm.history.Goals as goal

pub returns-clause-kept : goal.returns-clause-kept
returns-clause-kept g c = rw (← c.self.view_is) (kept c.run_is_good.ensures g.D.Disk _ c.self.invariant.0 c.self.invariant.6)
