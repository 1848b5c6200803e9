use Rattle.std.proofs.Common.{refl}
use Rattle.migrate_daemon.specs.declared.stages.Work.TheVariants.{Reading}
use Rattle.hsm_types.specs.declared.dm.DmReply.TheVariants as reply
use Rattle.migrate_daemon.proofs.InPass.{turns_skip, turns_read, no_bytes, some_bytes}
use Rattle.migrate_daemon.proofs.working.on_data.Goals as goal

pub returns-then-is_empty-clause-ok : goal.returns-then-is_empty-clause-ok
returns-then-is_empty-clause-ok c = turns_skip c.args.knowledge.now c.args.pass.now c.args.pick Reading (reply.Data c.args.bytes) _ _ c.requires.holds (λ gone. cc) (no_bytes c.args.bytes (rw (← c.as_slice.ensures) cc), refl) c.skip.ensures.new c.skip.ensures.gives

pub returns-else-is_empty-clause-ok : goal.returns-else-is_empty-clause-ok
returns-else-is_empty-clause-ok c = rw c.copy.ensures (turns_read c.args.knowledge.now c.args.pass.now c.args.pick c.args.bytes c.requires.holds c.requires.suits (some_bytes c.args.bytes (rw (← c.as_slice.ensures) cc)) c.requires.within)
