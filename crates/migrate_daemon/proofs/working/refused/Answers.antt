use Rattle.hsm_types.specs.declared.daemons.Heard.TheVariants as heard
use Rattle.hsm_types.specs.declared.dm.DmReply.TheVariants as reply
use Rattle.migrate_daemon.proofs.InPass.{turns_skip, turns_end, turns_again_ok, not_lost}
use Rattle.migrate_daemon.proofs.working.refused.Goals as goal

pub returns-in-Skips-clause-ok : goal.returns-in-Skips-clause-ok
returns-in-Skips-clause-ok c = turns_skip c.args.knowledge.now c.args.pass.now c.args.pick c.args.work (reply.Refused c.args.why) _ _ c.requires.holds (not_lost c.args.pass.now.sid c.args.pick c.args.work c.args.why c.requires.lives) (c.in-Skips.ensures c.args.pass.now.sid c.args.pick) c.skip.ensures.new c.skip.ensures.gives

pub returns-in-Ends-clause-ok : goal.returns-in-Ends-clause-ok
returns-in-Ends-clause-ok c = turns_end c.args.knowledge.now c.args.pass.now c.args.pick c.args.work (heard.Dm (reply.Refused c.args.why)) _ _ c.requires.holds (not_lost c.args.pass.now.sid c.args.pick c.args.work c.args.why c.requires.lives) (c.in-Ends.ensures c.args.knowledge.now.limits.volumes c.args.pass.now.sid c.args.pick) c.end.ensures.new c.end.ensures.gives

pub returns-in-Again-clause-ok : goal.returns-in-Again-clause-ok
returns-in-Again-clause-ok c = turns_again_ok c.args.knowledge.now c.args.pass.now c.args.pick c.args.work (heard.Dm (reply.Refused c.args.why)) _ c.requires.holds c.requires.suits (not_lost c.args.pass.now.sid c.args.pick c.args.work c.args.why c.requires.lives) (c.in-Again.ensures c.args.knowledge.now.limits.volumes c.args.pass.now.sid c.args.pick) c.again.ensures
