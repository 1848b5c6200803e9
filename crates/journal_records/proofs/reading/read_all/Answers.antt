use Rattle.std.proofs.Common.{◌≡◌, [], ◌∷◌, ◌∙◌, sym, arith, length-append}
use Rattle.std.proofs.lemmas.Result.{err_from_is_err_and}
use Rattle.journal_records.proofs.StandingRecords.{one_more, all_read, no_other, bad_one, bad_end, both_bad, same_error}
use Rattle.journal_records.proofs.reading.read_all.Goals as goal

pub returns-in_err-record-clause-bad : goal.returns-in_err-record-clause-bad
returns-in_err-record-clause-bad c =
    let p = err_from_is_err_and c.from_residual.result c.from_residual.ensures.1 in
    rw (p.1, p.2) (λ at is.
    let here = c.in_err-record.ensures.bad at (same_error _ _ is) in
    both_bad c.args.bytes.now c.args.count c.loop.place at here.0 (bad_one c.args.bytes.now c.args.count c.loop.records.items c.loop.place c.loop.invariant.stand (omega (arith, c.loop.invariant.counted, c.loop-test.true)) here.1))

pub loop-preserved : goal.loop-preserved
loop-preserved c =
    let there = c.in_ok-record.ensures.read in
    rw c.in-Ok.ensures.items (record {
      stand = one_more c.args.bytes.now 0 c.loop.records.items c.loop.place c.in_ok-record.record c.in_ok-record.next c.loop.invariant.stand there;
      counted = omega (arith, c.loop.invariant.counted, length-append c.loop.records.items (c.in_ok-record.record ∷ []));
      within = there.within;
    })

pub returns-then-place-bytes-clause-bad : goal.returns-then-place-bytes-clause-bad
returns-then-place-bytes-clause-bad c = λ at is.
    let same : at ≡ c.loop.place = cc in
    both_bad c.args.bytes.now c.args.count c.loop.place at same (bad_end c.args.bytes.now c.args.count c.loop.records.items c.loop.place c.loop.invariant.stand (omega (arith, c.loop.invariant.counted, c.loop-test.false, c.loop.auto.counter-end)) (omega (arith, c.if-place-bytes.true)))

pub returns-clause-read : goal.returns-clause-read
returns-clause-read c =
    rw c.from.ensures (all_read c.args.bytes.now c.args.count c.loop.records.items c.loop.place c.loop.invariant.stand (omega (arith, c.loop.invariant.counted, c.loop-test.false, c.loop.auto.counter-end)) (omega (arith, c.if-place-bytes.false, c.loop.invariant.within)))

pub returns-clause-no_other : goal.returns-clause-no_other
returns-clause-no_other c = λ ss are.
    no_other c.args.bytes.now c.args.count c.loop.records.items ss
    (all_read c.args.bytes.now c.args.count c.loop.records.items c.loop.place c.loop.invariant.stand (omega (arith, c.loop.invariant.counted, c.loop-test.false, c.loop.auto.counter-end)) (omega (arith, c.if-place-bytes.false, c.loop.invariant.within))) are
    ∙ sym c.from.ensures
