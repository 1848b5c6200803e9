use Rattle.hsm_system.proofs.Keeping.{heard_within, recall_asks, migrate_asks}
use Rattle.hsm_system.proofs.DaemonActs.{recall_asked, recall_lacks, migrate_asked, migrate_lacks}
use Rattle.hsm_system.proofs.system.System.next.Goals as goal

pub ask-requires : goal.ask-requires
ask-requires g c = heard_within _ _ _ c.self.inside.recall c.self.invariant.recall

pub ask-requires-in-Migrate : goal.ask-requires-in-Migrate
ask-requires-in-Migrate g c = heard_within _ _ _ c.self.inside.migrate c.self.invariant.migrate

pub invariant_of-self : goal.invariant_of-self
invariant_of-self g c = record { recall = recall_asks c.self.inside.recall c.ask.new.daemon c.ask.result c.ask.ensures.asked c.ask.ensures.lacks c.self.invariant.recall; migrate = c.self.invariant.migrate }

pub invariant_of-self-in-Migrate : goal.invariant_of-self-in-Migrate
invariant_of-self-in-Migrate g c = record { recall = c.self.invariant.recall; migrate = migrate_asks c.self.inside.settings c.self.inside.migrate c.ask-in-Migrate.new.daemon c.ask-in-Migrate.result c.ask-in-Migrate.ensures.asked c.ask-in-Migrate.ensures.lacks c.self.invariant.migrate }

pub returns-in-Recall-clause-asked : goal.returns-in-Recall-clause-asked
returns-in-Recall-clause-asked g c = rw c.in-Recall.is (recall_asked _ _ c.self.view_is c.ask.new.daemon c.ask.result c.ask.ensures.asked)

pub returns-in-Recall-clause-lacks : goal.returns-in-Recall-clause-lacks
returns-in-Recall-clause-lacks g c = rw c.in-Recall.is (recall_lacks _ _ c.self.view_is c.ask.new.daemon c.ask.result c.ask.ensures.lacks)

pub returns-in-Migrate-clause-asked : goal.returns-in-Migrate-clause-asked
returns-in-Migrate-clause-asked g c = rw c.in-Migrate.is (migrate_asked _ _ c.self.view_is c.ask-in-Migrate.new.daemon c.ask-in-Migrate.result c.ask-in-Migrate.ensures.asked)

pub returns-in-Migrate-clause-lacks : goal.returns-in-Migrate-clause-lacks
returns-in-Migrate-clause-lacks g c = rw c.in-Migrate.is (migrate_lacks _ _ c.self.view_is c.ask-in-Migrate.new.daemon c.ask-in-Migrate.result c.ask-in-Migrate.ensures.lacks)
