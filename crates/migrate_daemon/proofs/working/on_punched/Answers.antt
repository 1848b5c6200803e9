use Rattle.migrate_daemon.proofs.InPass.{turns_punched}
use Rattle.migrate_daemon.proofs.working.on_punched.Goals as goal

pub returns-then-is_done-clause-ok : goal.returns-then-is_done-clause-ok
returns-then-is_done-clause-ok c =
    rw (c.free.ensures, c.advance.ensures) (turns_punched c.args.knowledge.now c.args.pass.now c.args.pick c.args.reply.now _ _ c.requires.holds (cc) (rw (c.free.ensures, c.advance.ensures) at c.take.ensures))
