use Rattle.std.proofs.Common.{refl}
use Rattle.migrate_daemon.proofs.InPass.{turns_uncopied, turns_memory}
use Rattle.migrate_daemon.proofs.copying.on_uncopied.Goals as goal

pub returns-in-Failed : goal.returns-in-Failed
returns-in-Failed c = λ bytes. turns_uncopied c.args.knowledge.now c.args.pass.now c.args.pick bytes c.args.why _ _ c.requires.holds (rw c.in-Failed.is (λ full. full)) (rw c.in-Failed.is (c.args.pass.now.volume, (bytes, refl))) c.end.ensures.new c.end.ensures.gives

pub returns-in-Damaged : goal.returns-in-Damaged
returns-in-Damaged c = λ bytes. turns_uncopied c.args.knowledge.now c.args.pass.now c.args.pick bytes c.args.why _ _ c.requires.holds (rw c.in-Damaged.is (λ full. full)) (rw c.in-Damaged.is (c.args.pass.now.volume, (bytes, refl))) c.end-in-Damaged.ensures.new c.end-in-Damaged.ensures.gives

pub returns-in-Memory : goal.returns-in-Memory
returns-in-Memory c = λ bytes. rw (c.in-Memory.is, c.read.ensures) (turns_memory c.args.knowledge.now c.args.pass.now c.args.pick bytes c.requires.holds c.requires.suits)
