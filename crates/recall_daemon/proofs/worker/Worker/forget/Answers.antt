use Rattle.recall_daemon.proofs.worker.Worker.forget.Goals as goal

pub returns : goal.returns
returns c = λ asked told more. rw c.forget.ensures at (c.turn.ensures asked told more)
