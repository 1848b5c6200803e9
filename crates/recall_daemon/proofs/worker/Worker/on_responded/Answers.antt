use Rattle.std.proofs.Common.{sym, ◌∙◌}
use Rattle.recall_daemon.proofs.Folds.{is_refusal, is_done, responded_else}
use Rattle.recall_daemon.proofs.Steps.{no_events}
use Rattle.recall_daemon.proofs.worker.Worker.on_responded.Goals as goal

pub returns-then-tells_done : goal.returns-then-tells_done
returns-then-tells_done c =
    let w = rw c.requires.serving at c.requires.worker.waits in
    rw (w.1.1, is_done _ (sym c.tells_done.ensures ∙ c.if-tells_done.true)) (c.forget.ensures _ _ (no_events _ _ _ tt))

pub returns-in-Some : goal.returns-in-Some
returns-in-Some c =
    let w = rw c.requires.serving at c.requires.worker.waits in
    rw (w.1.1, is_refusal _ _ (sym c.refusal_told.ensures ∙ c.in-Some.is)) (c.on_unanswered.ensures _ _ (no_events _ _ _ tt))

pub returns-in-None : goal.returns-in-None
returns-in-None c =
    let w = rw c.requires.serving at c.requires.worker.waits in
    rw (w.1.1, responded_else _ _ _ _ _ (sym c.tells_done.ensures ∙ c.if-tells_done.false) (sym c.refusal_told.ensures ∙ c.in-None.is)) (c.put_off.ensures _ _ (no_events _ _ _ tt))
