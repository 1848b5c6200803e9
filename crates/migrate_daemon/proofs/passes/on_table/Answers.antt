use Rattle.migrate_daemon.proofs.BetweenPasses.{turns_look}
use Rattle.migrate_daemon.proofs.passes.on_table.Goals as goal

pub returns-in-None-clause-ok : goal.returns-in-None-clause-ok
returns-in-None-clause-ok c = rw c.look.ensures (turns_look c.args.knowledge.now c.args.pass.now c.args.sid c.args.told.now c.requires.free c.requires.lives c.in-None.ensures)
