use Rattle.std.proofs.Common.{inl, refl}
use Rattle.hsm_types.specs.declared.daemons.Act.TheVariants.{Dm}
use Rattle.hsm_types.specs.declared.daemons.Heard.TheVariants as heard
use Rattle.hsm_types.specs.declared.dm.DmCall.TheVariants as call
use Rattle.hsm_types.specs.declared.dm.DmReply.TheVariants as reply
use Rattle.migrate_daemon.proofs.BetweenPasses.{turns_table}
use Rattle.migrate_daemon.proofs.passes.begin.Goals as goal

pub returns-clause-ok : goal.returns-clause-ok
returns-clause-ok c =
    let told = heard.Dm (reply.Table c.args.table.now) in
    let next = rw (c.take_up.ensures, c.begin.ensures) at (c.take.ensures c.args.pass.now (Dm c.args.sid call.GetTable) told (inl (c.args.sid, refl, tt)) (λ all. all)) in
    rw (c.take_up.ensures, c.begin.ensures) (turns_table c.args.knowledge.now c.args.pass.now c.args.sid c.args.table.now c.in_ok-picks.picks _ (rw c.low.ensures at c.in_ok-picks.ensures) next)
