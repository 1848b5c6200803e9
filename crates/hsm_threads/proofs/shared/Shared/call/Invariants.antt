use Rattle.hsm_threads.proofs.Replies.{CameTo}
use Rattle.hsm_threads.proofs.shared.Shared.call.Given as goal

abbrev pub invariant-loop : goal.invariant-loop
invariant-loop g l = CameTo g.D.Disk g.N.Named.opened l.fn.pass.number l.fn.call l.fn.pass (record { reply = l.reply; pass = l.pass })
