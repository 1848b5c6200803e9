use Rattle.std.proofs.Common.{◌≡◌, ◌<◌, ◌-◌, ◌^◌, ◌∙◌, length, ap, sym, subst, arith}
use Rattle.plain_model.specs.declared.entries.Action.TheVariants as action
use Rattle.plain_model.specs.declared.entries.Actor.TheVariants.{Session}
use Rattle.plain_model.specs.declared.entries.Answer.TheVariants as answer
use Rattle.hsm_core.specs.Answers.{entry_of}
use Rattle.hsm_core.specs.Store.{Store}
use Rattle.hsm_system.proofs.AfterEvents.{event_kept_or_not}
use Rattle.hsm_threads.specs.Published.{Publishes}
use Rattle.hsm_threads.proofs.Holding.{event_made, held_more}
use Rattle.hsm_threads.proofs.Lacking.{dm_lacks}
use Rattle.hsm_threads.proofs.Publishing.{event_published, found_behind, has_room, next_entry, pen_is}
use Rattle.hsm_threads.proofs.held.Held.dm.Goals as goal

pub publish-pass-requires-clause-full : goal.publish-pass-requires-clause-full
publish-pass-requires-clause-full g c =
    let pen = c.self.invariant.1 in
    let few : length c.self.inside.hsm.history < 2 ^ 64 - 1 = omega (arith, ap length c.history-before.ensures.entries, c.history-before.type_inv.1) in
    (pen.0, pen.1, pen.2.at ∙ sym c.requires.desk, pen.2.right, has_room g.N.Named.table c.self.inside.hsm.history pen.0 (2 ^ 64 - 1) pen.2 few)

pub returns : goal.returns
returns g c =
    let event = event_made g.N.Named.opened g.D.Disk (Session c.args.sid) (action.Dm c.args.call) tt (answer.Dm c.dm-reply.result) c.self.inside.hsm c.dm-reply.new.self c.self.invariant.0 c.history-before.ensures.kept c.dm-reply.ensures.told (dm_lacks g.D.Disk c.self.inside.hsm c.dm-reply.new.self c.args.sid c.args.call c.dm-reply.result c.dm-reply.ensures.told c.dm-reply.ensures.responds c.dm-reply.ensures.spared) c.history.ensures.kept c.dm-reply.ensures.safe in
    let next = next_entry c.self.inside.hsm.history c.dm-reply.new.self.history (entry_of (Session c.args.sid) (action.Dm c.args.call) (answer.Dm c.dm-reply.result)) (event_kept_or_not g.D.Disk c.self.inside.hsm (Session c.args.sid) (action.Dm c.args.call) (answer.Dm c.dm-reply.result) c.dm-reply.new.self c.dm-reply.ensures.told) _ (found_behind _ _ _ _ _ c.history.ensures.entries c.history-before.ensures.entries c.get.ensures.lookup.1 c.get.ensures.lookup.3) in
    subst (λ (s : Store g.row.D.Denot). Publishes g.D.Disk g.N.Named.opened (Session c.args.sid) (action.Dm c.args.call) (answer.Dm c.dm-reply.result) c.args.pass c.publish-pass.result s c.dm-reply.new.self) c.self.view_is
    (event_published g.D.Disk g.N.Named.opened g.N.Named.table (Session c.args.sid) (action.Dm c.args.call) (answer.Dm c.dm-reply.result) c.self.inside.hsm c.dm-reply.new.self c.self.inside.pen.pass c.publish-pass.new.pen.pass c.args.pass c.publish-pass.result _ c.self.invariant.1 next c.publish-pass.ensures event)

pub invariant_of-self : goal.invariant_of-self
invariant_of-self g c =
    let next = next_entry c.self.inside.hsm.history c.dm-reply.new.self.history (entry_of (Session c.args.sid) (action.Dm c.args.call) (answer.Dm c.dm-reply.result)) (event_kept_or_not g.D.Disk c.self.inside.hsm (Session c.args.sid) (action.Dm c.args.call) (answer.Dm c.dm-reply.result) c.dm-reply.new.self c.dm-reply.ensures.told) _ (found_behind _ _ _ _ _ c.history.ensures.entries c.history-before.ensures.entries c.get.ensures.lookup.1 c.get.ensures.lookup.3) in (
      held_more g.N.Named.opened g.D.Disk (Session c.args.sid) (action.Dm c.args.call) tt (answer.Dm c.dm-reply.result) c.self.inside.hsm c.dm-reply.new.self c.self.invariant.0 c.dm-reply.ensures.told,
      pen_is g.D.Disk g.N.Named.opened g.N.Named.table (Session c.args.sid) (action.Dm c.args.call) (answer.Dm c.dm-reply.result) c.self.inside.hsm c.dm-reply.new.self c.self.inside.pen.pass c.publish-pass.new.pen.pass c.args.pass c.publish-pass.result _ c.self.invariant.1 next c.publish-pass.ensures,
    )
