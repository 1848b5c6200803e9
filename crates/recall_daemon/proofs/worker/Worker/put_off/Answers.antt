use Rattle.recall_daemon.proofs.worker.Worker.put_off.Goals as goal

pub returns : goal.returns
returns c = λ asked told more. rw c.mark.ensures at (c.turn.ensures asked told more)
