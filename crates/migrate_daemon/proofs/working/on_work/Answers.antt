use Rattle.migrate_daemon.proofs.InPass.{turns_unanswered}
use Rattle.migrate_daemon.proofs.working.on_work.Goals as goal

pub returns-in-None-clause-ok : goal.returns-in-None-clause-ok
returns-in-None-clause-ok c = turns_unanswered c.args.knowledge.now c.args.pass.now c.args.pick c.args.work c.args.told _ c.requires.holds c.requires.suits (cc) c.again.ensures
