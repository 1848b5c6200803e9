use Rattle.std.proofs.Common.{refl, sym, ◌∙◌}
use Rattle.recall_daemon.specs.Known.{taken}
use Rattle.recall_daemon.proofs.Folds.{measured_else}
use Rattle.recall_daemon.proofs.Steps.{maps, no_events}
use Rattle.recall_daemon.proofs.worker.Worker.on_measured.Goals as goal

pub on_failed-requires-clause-hand : goal.on_failed-requires-clause-hand
on_failed-requires-clause-hand c = (taken c.args.event.now.token c.args.event.now.handle, rw c.requires.serving refl, refl)

pub returns-in_default : goal.returns-in_default
returns-in_default c =
    let w = rw c.requires.serving at c.requires.worker.waits in
    rw (w.1, measured_else _ _ _ _ _ (sym c.size_told.ensures ∙ c.in_default.is)) (c.on_failed.ensures _ _ (no_events _ _ _ tt))

pub returns : goal.returns
returns c =
    maps _ _ _ _ _ _ _ c.requires.worker c.requires.serving (sym c.size_told.ensures ∙ c.in-Some.is) c.wait.ensures.act
    (record { asked = c.wait.ensures.asked ∙ sym c.wait.ensures.act; member = c.wait.ensures.member; away = c.wait.ensures.away }) c.wait.ensures.serving
