use Rattle.recall_daemon.proofs.Entries.{quiet, says_gone}
use Rattle.recall_daemon.proofs.worker.Worker.is_refused.Goals as goal

pub returns-in-Outside : goal.returns-in-Outside
returns-in-Outside c = (λ is. cc, λ refuses. absurd (quiet _ _ c.requires c.in-Outside.is refuses))

pub returns-in_default : goal.returns-in_default
returns-in_default c =
    let says = says_gone _ _ _ _ c.args.last.now c.requires.waits c.in_default.not-Outside c.in_default.not-Resting c.in_default.not-Fetching in
    (λ is. says.1 (c.tells_no_session.ensures.0 is), λ refuses. c.tells_no_session.ensures.1 (says.0 refuses))
