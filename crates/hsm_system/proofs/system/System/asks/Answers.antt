use Rattle.std.proofs.Common.{subst}
use Rattle.hsm_system.specs.Asking.{RecallIsRight, MigrateIsRight}
use Rattle.hsm_system.specs.Systems.{System}
use Rattle.hsm_system.proofs.Keeping.{recall_right, migrate_right}
use Rattle.hsm_system.proofs.system.System.asks.Goals as goal

pub returns-clause-recall : goal.returns-clause-recall
returns-clause-recall g c = subst (λ (s : System g.row.D.Denot). RecallIsRight s.recall) c.self.view_is (recall_right c.self.inside.recall c.self.invariant.recall)

pub returns-clause-migrate : goal.returns-clause-migrate
returns-clause-migrate g c = subst (λ (s : System g.row.D.Denot). MigrateIsRight s.limits s.migrate) c.self.view_is (migrate_right c.self.inside.settings c.self.inside.migrate c.self.invariant.migrate)
