use Rattle.recall_daemon.proofs.worker.Worker.next.Goals as goal

pub returns-in_default : goal.returns-in_default
returns-in_default c = record { ok = c.hear.ensures.ok; begins = λ refuses. (let is = c.is_refused.ensures.1 refuses in cc); err = c.hear.ensures.err }
