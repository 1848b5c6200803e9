use Rattle.std.proofs.Common.{sym, ◌∙◌}
use Rattle.recall_daemon.proofs.Folds.{failed_refused, failed_else}
use Rattle.recall_daemon.proofs.worker.Worker.on_failed.Goals as goal

pub returns-in-Some : goal.returns-in-Some
returns-in-Some c = λ asked told more. rw (failed_refused _ _ _ _ (sym c.refusal_told.ensures ∙ c.in-Some.is)) (c.on_refused.ensures asked told more)

pub returns-in-None : goal.returns-in-None
returns-in-None c = λ asked told more. rw (failed_else _ _ _ (sym c.refusal_told.ensures ∙ c.in-None.is)) (c.put_off.ensures asked told more)
