use Rattle.std.proofs.Common.{◌≡◌, refl, sym, ◌∙◌, Some, Ok, Err}
use Rattle.recall_daemon.specs.Tellings.{fetched_told}
use Rattle.recall_daemon.specs.Workers.{mapped}
use Rattle.recall_daemon.proofs.Ready.{needed}
use Rattle.recall_daemon.proofs.Steps.{restores, reasons, is_fetched, none_tells_nothing, want_tells_nothing}
use Rattle.recall_daemon.proofs.worker.Worker.on_fetched.Goals as goal

pub returns-in-Some-Ok : goal.returns-in-Some-Ok
returns-in-Some-Ok c =
    let told : fetched_told c.args.last ≡ Some (Ok c.in-Some-Ok.bytes) = sym c.fetched_told.ensures ∙ (rw c.in-Some-Ok.field-0-is at c.in-Some-Ok.is) in
    restores _ _ _ _ _ _ _ _ _ c.requires.worker c.requires.serving (is_fetched _ _ told) c.wait.ensures.act
    (record { asked = c.wait.ensures.asked ∙ sym c.wait.ensures.act; member = c.wait.ensures.member; away = c.wait.ensures.away }) c.wait.ensures.serving

pub returns-in-Some : goal.returns-in-Some
returns-in-Some c =
    let w = rw c.requires.serving at c.requires.worker.waits in
    let told : fetched_told c.args.last ≡ Some (Err c.in-Some-Err.why) = sym c.fetched_told.ensures ∙ (rw c.in-Some-Err.field-0-is at c.in-Some-Err.is) in
    let hand = mapped c.args.event.now c.args.size c.args.self.now.away.items in
    let reason = reasons _ hand _ _ _ _ _ (sym c.response_to.ensures ∙ c.in-Some.is) refl (is_fetched _ _ told) (needed _ _ _ _ _ w.0.is_kept w.1) in
    rw w.2 (c.respond.ensures _ _ _ refl (hand, rw c.requires.serving refl, refl, reason))

pub returns-in-None-response_to : goal.returns-in-None-response_to
returns-in-None-response_to c =
    let w = rw c.requires.serving at c.requires.worker.waits in
    let told : fetched_told c.args.last ≡ Some (Err c.in-Some-Err.why) = sym c.fetched_told.ensures ∙ (rw c.in-Some-Err.field-0-is at c.in-Some-Err.is) in
    rw (w.2, c.requires.serving) (c.fetch.ensures _ _ (want_tells_nothing _ _ (is_fetched _ _ told) (sym c.response_to.ensures ∙ c.in-None-response_to.is)))

pub returns-in-None : goal.returns-in-None
returns-in-None c =
    let w = rw c.requires.serving at c.requires.worker.waits in
    rw (w.2, c.requires.serving) (c.fetch-in-None.ensures _ _ (none_tells_nothing _ (sym c.fetched_told.ensures ∙ c.in-None.is)))
