use Rattle.std.proofs.Common.{refl, inr, Some}
use Rattle.recall_daemon.specs.Known.{with_hand}
use Rattle.recall_daemon.specs.Workers.{mapped}
use Rattle.recall_daemon.proofs.Ready.{ready}
use Rattle.recall_daemon.proofs.worker.Worker.work_on.Goals as goal

pub returns-in-None : goal.returns-in-None
returns-in-None c =
    let hand = mapped c.args.event.now c.args.size c.args.self.now.away.items in
    λ asked told calm. c.respond.ensures (with_hand (Some hand) c.args.self.now.member.seat) asked told refl (hand, refl, refl, inr (ready _ _ _ _ c.requires.serving.is_kept (rw c.as_slice.ensures.value at c.in-None.ensures)))
