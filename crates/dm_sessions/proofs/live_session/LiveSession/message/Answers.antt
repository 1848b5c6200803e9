use Rattle.std.proofs.Common.{sym, ◌∙◌}
use Rattle.dm_sessions.proofs.InOrder.{message_in-in_order, told-token, told-message}
use Rattle.dm_sessions.proofs.live_session.LiveSession.message.Goals as goal

pub returns-clause-found : goal.returns-clause-found
returns-clause-found c = rw (← c.self.view_is) (c.get.ensures.value ∙ sym (message_in-in_order c.args.token c.self.inside.outstanding.entries c.self.invariant.kept c.self.invariant.apart))

pub returns-clause-token : goal.returns-clause-token
returns-clause-token c = told-token c.args.token c.self.inside.outstanding.entries c.get.result c.self.invariant.kept c.get.ensures.value

pub returns-clause-message : goal.returns-clause-message
returns-clause-message c = told-message c.args.token c.self.inside.outstanding.entries c.get.result c.self.invariant.kept c.get.ensures.value
