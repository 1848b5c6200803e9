use Rattle.std.proofs.Common.{sym, ap, ◌∙◌, is_some}
use Rattle.dm_sessions.specs.Tables.{in_order}
use Rattle.dm_sessions.proofs.InOrder.{message_in-in_order, any-found, holds-real}
use Rattle.dm_sessions.proofs.live_session.LiveSession.holds.Goals as goal

pub returns-clause-held : goal.returns-clause-held
returns-clause-held c =
    rw (← c.self.view_is) (c.contains_key.ensures ∙ sym (any-found c.args.token (in_order c.self.inside.outstanding.entries) ∙ ap is_some (message_in-in_order c.args.token c.self.inside.outstanding.entries c.self.invariant.kept c.self.invariant.apart)))

pub returns-clause-token : goal.returns-clause-token
returns-clause-token c is = holds-real c.args.token c.self.inside.outstanding.entries c.self.invariant.kept (sym c.contains_key.ensures ∙ is)
