use Rattle.hsm_system.proofs.Keeping.{recall_hears, migrate_hears}
use Rattle.hsm_system.proofs.system.System.tell.Goals as goal

pub invariant_of-self : goal.invariant_of-self
invariant_of-self g c = record { recall = rw c.hear.ensures (recall_hears c.args.heard c.self.inside.recall c.self.invariant.recall); migrate = c.self.invariant.migrate }

pub invariant_of-self-in-Migrate : goal.invariant_of-self-in-Migrate
invariant_of-self-in-Migrate g c = record { recall = c.self.invariant.recall; migrate = rw c.hear-in-Migrate.ensures (migrate_hears c.self.inside.settings c.args.heard (c.requires c.in-Migrate.is) c.self.inside.migrate c.self.invariant.migrate) }
