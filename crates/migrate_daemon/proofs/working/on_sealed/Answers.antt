use Rattle.migrate_daemon.proofs.InPass.{turns_sealed}
use Rattle.migrate_daemon.proofs.working.on_sealed.Goals as goal

pub returns-then-is_done-clause-ok : goal.returns-then-is_done-clause-ok
returns-then-is_done-clause-ok c = rw c.punch.ensures (turns_sealed c.args.knowledge.now c.args.pass.now c.args.pick c.args.entry c.args.reply.now c.requires.holds c.requires.suits (cc))
