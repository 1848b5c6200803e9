use Rattle.std.proofs.Common.{◌≡◌, refl, ap, ◌∙◌}
use Rattle.recall_daemon.specs.Known.{away_in}
use Rattle.recall_daemon.specs.Workers.{measured}
use Rattle.recall_daemon.proofs.Folds.{mapped_done, mapped_else}
use Rattle.recall_daemon.proofs.Steps.{no_events}
use Rattle.recall_daemon.proofs.worker.Worker.on_mapped.Goals as goal

pub on_failed-requires-clause-hand : goal.on_failed-requires-clause-hand
on_failed-requires-clause-hand c = (measured c.args.event.now c.args.size, rw c.requires.serving refl, refl)

pub returns-in_default-clause-ok : goal.returns-in_default-clause-ok
returns-in_default-clause-ok c =
    let w = rw c.requires.serving at c.requires.worker.waits in
    rw (w.1, mapped_else _ _ _ _ _ c.in_default.ensures) (c.on_failed.ensures _ _ (no_events _ _ _ tt))

pub returns-clause-ok : goal.returns-clause-ok
returns-clause-ok c =
    let w = rw c.requires.serving at c.requires.worker.waits in
    let away : c.in_ok-self.field-0.items ≡ away_in c.in-Some.segments.now = c.in_ok-self.ensures ∙ ap away_in c.as_slice.ensures in
    rw (w.1, mapped_done _ _ _ _ _ _ c.in-Some.ensures, c.requires.serving, ← away) (c.work_on.ensures _ _ tt)
