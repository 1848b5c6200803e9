use Rattle.std.proofs.Common.{refl, rules}
use Rattle.hsm_threads.proofs.Replies.{ends_call, first_reply, next_reply}
use Rattle.hsm_threads.proofs.shared.Shared.call.Goals as goal
use Rattle.hsm_threads.proofs.shared.Shared.call.Goals.{in-None, in-Some+then-not-waits}

pub loop-init : goal.loop-init
loop-init g c =
    first_reply g.D.Disk g.N.Named.opened c.args.pass.number c.args.call c.args.pass c.caller_of-caller.result c.caller_of-caller.ensures (record { reply = c.issue-reply.result.0; pass = c.issue-reply.result.1 }) _ _ c.issue-reply.ensures

pub loop-preserved : goal.loop-preserved
loop-preserved g c =
    next_reply g.D.Disk g.N.Named.opened c.args.pass.number c.args.call c.args.pass c.caller_of-caller.result c.caller_of-caller.ensures (record { reply = c.loop.reply; pass = c.loop.pass }) (record { reply = c.resume.result.0; pass = c.resume.result.1 })
    c.deref_mut-in-loop.result.now c.resume.new.self (c.if-not-waits.ensures.waits refl) (rw c.deref_mut-in-loop.ensures.value c.await_ready-held.ensures) c.resume.ensures c.loop.invariant

pub returns : goal.returns
returns g c =
    elim c.match-next.branch [
      | in-None w ↦ search rules
      | in-Some+then-not-waits w ↦ ends_call g.D.Disk g.N.Named.opened c.args.pass.number c.args.call c.args.pass (record { reply = c.loop.reply; pass = c.loop.pass }) c.loop.invariant (w.if-not-waits.ensures.ended refl)
    ]
