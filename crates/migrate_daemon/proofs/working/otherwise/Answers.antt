use Rattle.migrate_daemon.proofs.InPass.{turns_otherwise}
use Rattle.migrate_daemon.proofs.working.otherwise.Goals as goal

pub returns-in-None-clause-ok : goal.returns-in-None-clause-ok
returns-in-None-clause-ok c = turns_otherwise c.args.knowledge.now c.args.pass.now c.args.pick c.args.work c.args.reply.now _ c.requires.holds c.requires.suits c.requires.lives (cc) c.again.ensures
