use Rattle.hsm_system.proofs.Keeping.{migrate_renews}
use Rattle.hsm_system.proofs.system.System.freshen.Goals as goal

pub invariant_of-self : goal.invariant_of-self
invariant_of-self g c = record { recall = c.self.invariant.recall; migrate = rw c.refresh.ensures (migrate_renews c.self.inside.settings c.self.inside.migrate c.self.invariant.migrate) }
