use Rattle.std.proofs.Common.{refl, sym, ◌∙◌}
use Rattle.recall_daemon.specs.Known.{taken}
use Rattle.recall_daemon.proofs.Folds.{requested_else}
use Rattle.recall_daemon.proofs.Steps.{measures, no_events}
use Rattle.recall_daemon.proofs.worker.Worker.on_requested.Goals as goal

pub returns-then-tells_done : goal.returns-then-tells_done
returns-then-tells_done c =
    measures _ _ _ _ _ _ c.requires.worker c.requires.serving (sym c.tells_done.ensures ∙ c.if-tells_done.true) c.wait.ensures.act
    (record { asked = c.wait.ensures.asked ∙ sym c.wait.ensures.act; member = c.wait.ensures.member; away = c.wait.ensures.away }) c.wait.ensures.serving

pub on_failed-requires-clause-hand : goal.on_failed-requires-clause-hand
on_failed-requires-clause-hand c = (taken c.args.event.now.token c.args.event.now.handle, rw c.requires.serving refl, refl)

pub returns : goal.returns
returns c =
    let w = rw c.requires.serving at c.requires.worker.waits in
    rw (w.1, requested_else _ _ _ _ _ _ (sym c.tells_done.ensures ∙ c.if-tells_done.false)) (c.on_failed.ensures _ _ (no_events _ _ _ tt))
