use Rattle.std.proofs.Common.{◌≡◌, sym, ◌∙◌, subst}
use Rattle.disk_model.specs.Moments.{Tells}
use Rattle.hsm_types.specs.declared.dm.DmCall.TheVariants.{Seal}
use Rattle.hsm_types.specs.Messages.{no_token}
use Rattle.hsm_types.specs.Stubs.{print_of, entry_print}
use Rattle.plain_model.specs.Plain.{segment}
use Rattle.plain_model.specs.Seen.{IsOfSeen}
use Rattle.plain_model.specs.State.{Held, bytes_of}
use Rattle.hsm_core.proofs.ServedBytes.{failed_served, seal_unread, seal_changed, seal_served}
use Rattle.hsm_core.proofs.Moved.{refused_served}
use Rattle.hsm_core.proofs.services.moving.seal.Goals as goal

pub returns-in-Err : goal.returns-in-Err
returns-in-Err g c =
    refused_served c.in-Err.why (seal_unread g.D.Disk c.args.files.now c.args.number c.args.handle c.args.segment c.args.entry c.in-Err.why c.in-Err.ensures.judged) c.requires.working c.requires.idle c.refused.ensures

pub returns-in_err-got : goal.returns-in_err-got
returns-in_err-got g c =
    failed_served g.D.Disk c.args.files.now c.digest_segment.new.self c.args.number (Seal no_token c.args.handle c.args.segment c.args.entry) c.from_residual.result c.in_err-got.field-0.0 c.in_err-got.ensures.looks c.from_residual.ensures.1

pub returns-in-Err-judge_print : goal.returns-in-Err-judge_print
returns-in-Err-judge_print g c =
    seal_changed g.D.Disk c.args.files.now c.args.number c.args.handle c.args.segment c.args.entry c.digest_segment.new.self c.in_ok-got.got c.in_default.ensures.judged c.in_ok-got.ensures.print c.in_ok-got.ensures.looks
    c.in-Err-judge_print.why c.refused-in-Err-judge_print.result (rw c.print.ensures at c.in-Err-judge_print.ensures.judged) c.refused-in-Err-judge_print.ensures

pub seal-requires-clause-working : goal.seal-requires-clause-working
seal-requires-clause-working g c = (c.in_ok-got.ensures.looks.ends c.args.number).working

pub seal-requires-clause-print : goal.seal-requires-clause-print
seal-requires-clause-print g c =
    let shown = c.in_ok-got.ensures.print in
    subst (λ (h : Held). IsOfSeen (Tells g.D.Disk c.digest_segment.new.self.disk) h (λ seen. entry_print c.args.entry ≡ print_of (segment c.args.segment (bytes_of c.args.handle.key seen.files)))) (sym c.in_ok-got.ensures.looks.held)
    (shown.0, shown.1, sym c.print.ensures ∙ c.in_default-judge_print.ensures.same ∙ shown.2)

pub returns : goal.returns
returns g c =
    seal_served g.D.Disk c.args.files.now c.args.number c.args.handle c.args.segment c.args.entry c.digest_segment.new.self c.in_ok-got.got c.in_default.ensures.judged c.in_ok-got.ensures.print c.in_ok-got.ensures.looks
    c.seal.new.self c.seal.result c.changed.result (rw c.print.ensures at c.in_default-judge_print.ensures.judged) c.seal.ensures.changed c.changed.ensures

pub seal-requires-clause-rises : goal.seal-requires-clause-rises
seal-requires-clause-rises g c = rw c.in_ok-got.ensures.looks.meta c.requires.rises
