use Rattle.migrate_daemon.proofs.InPass.{turns_regions, turns_bare, ok_of}
use Rattle.migrate_daemon.proofs.working.on_regions.Goals as goal

pub returns-then-covers-clause-ok : goal.returns-then-covers-clause-ok
returns-then-covers-clause-ok c = rw c.covered.ensures (turns_regions c.args.knowledge.now c.args.pass.now c.args.pick c.args.reply.now _ c.requires.holds c.in-Some.ensures (cc))

pub returns-else-covers-clause-ok : goal.returns-else-covers-clause-ok
returns-else-covers-clause-ok c = ok_of _ _ _ c.set_regions.ensures (turns_bare c.args.knowledge.now c.args.pass.now c.args.pick c.args.reply.now _ c.requires.holds c.in-Some.ensures (cc))
