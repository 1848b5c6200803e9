use Rattle.std.proofs.Common.{◌≡◌, sym, ap, ◌∙◌}
use Rattle.std.specs.Map.{lookup}
use Rattle.indexmap.specs.IndexMap.{swap_remove_entry}
use Rattle.hsm_types.specs.Messages.{has_token}
use Rattle.hsm_types.specs.Sessions.{without_token}
use Rattle.dm_sessions.specs.Moves.{same_token}
use Rattle.dm_sessions.specs.Tables.{in_order}
use Rattle.dm_sessions.proofs.InOrder.{count-in_order, message_in-in_order, in_order-without, kept-swapped, apart-swapped}
use Rattle.dm_sessions.proofs.live_session.LiveSession.take_out.Goals as goal

pub invariant_of-self : goal.invariant_of-self
invariant_of-self c = rw c.swap_remove.ensures.entries (record {
  counted = c.self.invariant.counted;
  queued = c.self.invariant.queued;
  kept = kept-swapped c.args.token c.self.inside.outstanding.entries c.self.invariant.kept;
  apart = λ u. apart-swapped c.args.token c.self.inside.outstanding.entries u (c.self.invariant.apart u);
})

pub returns-clause-found : goal.returns-clause-found
returns-clause-found c = rw (← c.self.view_is) (c.swap_remove.ensures.value ∙ sym (message_in-in_order c.args.token c.self.inside.outstanding.entries c.self.invariant.kept c.self.invariant.apart))

pub returns-clause-after : goal.returns-clause-after
returns-clause-after c =
    let entries = c.self.inside.outstanding.entries in
    let left : in_order c.swap_remove.new.self.entries ≡ without_token c.args.token (in_order entries) =
    ap in_order c.swap_remove.ensures.entries
    ∙ in_order-without c.args.token entries (swap_remove_entry (same_token c.args.token) entries) c.self.invariant.kept c.self.invariant.apart (kept-swapped c.args.token entries c.self.invariant.kept)
    (λ u. apart-swapped c.args.token entries u (c.self.invariant.apart u))
    (λ u. ap (lookup (same_token u)) (sym c.swap_remove.ensures.entries) ∙ c.swap_remove.ensures.updates.0 u) in
    rw (← c.self.view_is) (λ i. record { info = c.self.inside.info; kinds = c.self.inside.kinds; queue = c.self.inside.queue; outstanding = left i })

pub returns-clause-apart : goal.returns-clause-apart
returns-clause-apart c = rw (← c.self.view_is) (rw (count-in_order (has_token c.args.token) c.self.inside.outstanding.entries) (c.self.invariant.apart c.args.token))
