use Rattle.std.proofs.Common.{None, Err, refl, ap}
use Rattle.std.proofs.lemmas.Result.{err_from_is_err_and}
use Rattle.hsm_cli.specs.Endings.{cause_in}
use Rattle.hsm_cli.specs.Texts.{IsShown, AreUntold}
use Rattle.hsm_cli.specs.RunObjects.{sink_told}
use Rattle.hsm_cli.proofs.Showings.{takes_as, ends_unread, unread_quiet}
use Rattle.hsm_cli.proofs.showing.show_disk.Goals as goal

pub returns-in_err-summary-clause-ends : goal.returns-in_err-summary-clause-ends
returns-in_err-summary-clause-ends g c =
    let p = err_from_is_err_and c.from_residual.result c.from_residual.ensures.1 in
    let refused = c.in_err-summary.ensures in
    rw (p.1, p.2)
    (ends_unread (g.D.Disk.gives c.args.disk.now) _ _ (sink_told g.O.Sink.taken g.O.Sink.fault_count c.args.sink.now c.args.sink.now) c.in_err-summary.field-0.0
    (λ is. refused.not_store (ap Err is)) (λ place is. refused.corrupt place (ap Err is)) (λ is. refused.faults.once (ap Err is)))

pub returns-in_err-summary-clause-quiet : goal.returns-in_err-summary-clause-quiet
returns-in_err-summary-clause-quiet g c =
    let p = err_from_is_err_and c.from_residual.result c.from_residual.ensures.1 in
    rw (p.1, p.2) (λ works. c.in_err-summary.ensures.faults.quiet (unread_quiet c.in_err-summary.field-0.0 works))

pub returns-clause-quiet : goal.returns-clause-quiet
returns-clause-quiet g c = λ works. c.in_ok-summary.ensures.faults.quiet (λ is. cc)

pub returns-clause-text : goal.returns-clause-text
returns-clause-text g c =
    takes_as _ (IsShown (g.D.Disk.gives c.args.disk.now) AreUntold) (sink_told g.O.Sink.taken g.O.Sink.fault_count c.args.sink.now c.write_summary.new.sink) (cause_in c.write_summary.result)
    (λ text shows. record { summary = c.in_ok-summary.summary; told = c.in_ok-summary.ensures.told; shows = record { classes = None; counted = refl; shows = shows } }) c.write_summary.ensures.text
