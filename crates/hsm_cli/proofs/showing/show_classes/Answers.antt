use Rattle.std.proofs.Common.{ℕ, Some, refl}
use Rattle.std.proofs.lemmas.Result.{err_from_is_err_and}
use Rattle.reconcile.specs.Classes.{FailsAt}
use Rattle.store_summary.specs.Shown.{ShowsText}
use Rattle.store_summary.specs.declared.summaries.ClassCounts.{ClassCounts}
use Rattle.hsm_cli.specs.Endings.{cause_in}
use Rattle.hsm_cli.specs.Texts.{ShowsStore, shown_volumes, AreCounted, GivesVolume}
use Rattle.hsm_cli.specs.RunObjects.{sink_told}
use Rattle.hsm_cli.proofs.Quiet.{uncounted_quiet}
use Rattle.hsm_cli.proofs.Showings.{takes_as, ends_uncounted, counting_written}
use Rattle.hsm_cli.proofs.showing.show_classes.Goals as goal

pub returns-in_err-counts-clause-ends : goal.returns-in_err-counts-clause-ends
returns-in_err-counts-clause-ends g c =
    let p = err_from_is_err_and c.from_residual.result c.from_residual.ensures.1 in
    rw (p.1, p.2) (ends_uncounted g.M.Drive shown_volumes c.args.drives.now c.classes.new.drives (sink_told g.O.Sink.taken g.O.Sink.fault_count c.args.sink.now c.args.sink.now) c.in_err-counts.field-0.0 c.in_err-counts.ensures.refused)

pub returns-clause-text : goal.returns-clause-text
returns-clause-text g c =
    let summary = c.args.summary.now in
    let counted = AreCounted (GivesVolume g.M.Drive c.args.drives.now) in
    takes_as (ShowsText summary (Some c.in_ok-counts.counts)) (ShowsStore summary counted) (sink_told g.O.Sink.taken g.O.Sink.fault_count c.args.sink.now c.write_summary.new.sink) (cause_in c.write_summary.result)
    (λ text shows. record {
      classes = Some c.in_ok-counts.counts;
      counted = record { counts = c.in_ok-counts.counts; told = refl; are = λ objects is. c.in_ok-counts.ensures.counts objects (record { each = is }); each = c.in_ok-counts.ensures.entries };
      shows = shows;
    }) c.write_summary.ensures.text

pub returns-clause-ends : goal.returns-clause-ends
returns-clause-ends g c = counting_written ((volume : ℕ) × FailsAt g.M.Drive volume c.args.drives.now c.classes.new.drives) (sink_told g.O.Sink.taken g.O.Sink.fault_count c.args.sink.now c.write_summary.new.sink) c.write_summary.result c.write_summary.ensures.ends

pub returns-in_err-counts-clause-quiet : goal.returns-in_err-counts-clause-quiet
returns-in_err-counts-clause-quiet g c =
    let p = err_from_is_err_and c.from_residual.result c.from_residual.ensures.1 in
    rw (p.1, p.2) (λ sound. c.in_err-counts.ensures.quiet (uncounted_quiet ClassCounts c.in_err-counts.field-0.0 sound))

pub returns-clause-quiet : goal.returns-clause-quiet
returns-clause-quiet g c = λ sound. c.in_ok-counts.ensures.quiet (λ e. e)
