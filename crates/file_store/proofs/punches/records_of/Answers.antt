use Rattle.file_store.proofs.Names.{◌≡◌, ◌∙◌, ap, Some}
use Rattle.file_store.proofs.PunchRuns.{refused_at, judged_more, records_more}
use Rattle.file_store.proofs.punches.records_of.Goals as goal

pub returns-in-Err-clause-refused : goal.returns-in-Err-clause-refused
returns-in-Err-clause-refused c = λ why is.
    let same : c.in-Err.why ≡ why = cc in
    refused_at c.args.regions.now c.args.stubs.now c.args.from c.loop-segment.segment c.args.to why c.loop-segment.auto.segment c.loop-segment-test.true c.loop-segment.invariant.judged (c.in-Err.ensures.judged ∙ ap (λ w. Some w) same)

pub loop-segment-preserved : goal.loop-segment-preserved
loop-segment-preserved c = record {
  records = c.in-Ok-push.ensures.items ∙ records_more c.args.ino c.args.stubs.now c.args.from c.loop-segment.segment _ c.loop-segment.records.items c.loop-segment.auto.segment c.loop-segment.invariant.records c.in-Ok.ensures.entry;
  judged = judged_more c.args.regions.now c.args.stubs.now c.args.from c.loop-segment.segment c.loop-segment.auto.segment c.loop-segment.invariant.judged c.in-Ok.ensures.judged;
}
