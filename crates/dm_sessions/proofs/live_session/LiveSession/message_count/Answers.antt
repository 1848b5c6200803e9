use Rattle.std.proofs.Common.{arith}
use Rattle.dm_sessions.proofs.InOrder.{length-in_order}
use Rattle.dm_sessions.proofs.live_session.LiveSession.message_count.Goals as goal

pub returns : goal.returns
returns c = rw (← c.self.view_is) (omega (arith, length-in_order c.self.inside.outstanding.entries))
