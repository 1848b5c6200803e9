use Rattle.std.proofs.Common.{◌≡◌, ◌==◌, not, refl, sym, ◌∙◌, rules}
use Rattle.std.proofs.lemmas.Fn.{filter_same}
use Rattle.std.specs.Prelude.{filter}
use Rattle.recall_daemon.specs.declared.away.Away.{Away}
use Rattle.recall_daemon.specs.Workers.{mapped}
use Rattle.recall_daemon.proofs.Folds.{is_refusal, is_done, restored_else}
use Rattle.recall_daemon.proofs.Steps.{no_events}
use Rattle.recall_daemon.proofs.worker.Worker.on_restored.Goals as goal

pub returns-then-tells_done : goal.returns-then-tells_done
returns-then-tells_done c =
    let w = rw c.requires.serving at c.requires.worker.waits in
    let left : c.retain.new.self.items ≡ filter (λ (a : Away). not (a.segment == c.args.away.segment)) c.args.self.now.away.items = filter_same _ _ _ (λ x b f' k. search rules) _ _ c.retain.ensures.filtered in
    rw (w.1.1, is_done _ (sym c.tells_done.ensures ∙ c.if-tells_done.true), c.requires.serving, ← left) (c.work_on.ensures _ _ tt)

pub on_unrestored-requires-clause-hand : goal.on_unrestored-requires-clause-hand
on_unrestored-requires-clause-hand c = (mapped c.args.event.now c.args.size c.args.self.now.away.items, rw c.requires.serving refl, refl)

pub returns-in-Some : goal.returns-in-Some
returns-in-Some c =
    let w = rw c.requires.serving at c.requires.worker.waits in
    rw (w.1.1, is_refusal _ _ (sym c.refusal_told.ensures ∙ c.in-Some.is)) (c.on_unrestored.ensures _ _ (no_events _ _ _ tt))

pub returns-in-None : goal.returns-in-None
returns-in-None c =
    let w = rw c.requires.serving at c.requires.worker.waits in
    rw (w.1.1, restored_else _ _ _ _ _ _ _ (sym c.tells_done.ensures ∙ c.if-tells_done.false) (sym c.refusal_told.ensures ∙ c.in-None.is)) (c.put_off.ensures _ _ (no_events _ _ _ tt))
