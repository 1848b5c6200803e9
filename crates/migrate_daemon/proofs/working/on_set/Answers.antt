use Rattle.migrate_daemon.proofs.InPass.{turns_set}
use Rattle.migrate_daemon.proofs.working.on_set.Goals as goal

pub returns-then-is_done-clause-ok : goal.returns-then-is_done-clause-ok
returns-then-is_done-clause-ok c = rw c.covered.ensures (turns_set c.args.knowledge.now c.args.pass.now c.args.pick c.args.reply.now c.requires.holds (cc))
