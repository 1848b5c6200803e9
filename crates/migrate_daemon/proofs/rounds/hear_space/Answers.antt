use Rattle.migrate_daemon.proofs.BetweenPasses.{measured, not_measured}
use Rattle.migrate_daemon.proofs.rounds.hear_space.Goals as goal

pub returns-in-Some : goal.returns-in-Some
returns-in-Some c = λ sid. rw (measured c.args.knowledge.now.limits c.args.knowledge.now.known sid c.args.told.now c.in-Some.space cc) c.measure.ensures

pub returns-in-None : goal.returns-in-None
returns-in-None c = λ sid. rw (not_measured c.args.knowledge.now.limits c.args.knowledge.now.known sid c.args.told.now cc)
