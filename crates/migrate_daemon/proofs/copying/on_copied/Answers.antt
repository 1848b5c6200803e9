use Rattle.migrate_daemon.proofs.InPass.{turns_copied, turns_untold, copied_is}
use Rattle.migrate_daemon.proofs.copying.on_copied.Goals as goal

pub returns-in-Some-Ok : goal.returns-in-Some-Ok
returns-in-Some-Ok c = λ bytes. rw c.seal.ensures (turns_copied c.args.knowledge.now c.args.pass.now c.args.pick bytes c.args.told.now _ c.requires.holds c.requires.suits cc)

pub returns-in-Some-Err : goal.returns-in-Some-Err
returns-in-Some-Err c = λ bytes. let is = copied_is c.args.told.now _ (cc) in rw is (c.on_uncopied.ensures bytes)

pub returns-in-None : goal.returns-in-None
returns-in-None c = λ bytes. rw c.read.ensures (turns_untold c.args.knowledge.now c.args.pass.now c.args.pick bytes c.args.told.now c.requires.holds c.requires.suits cc)
