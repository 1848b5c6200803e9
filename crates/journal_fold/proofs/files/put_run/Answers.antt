use Rattle.std.proofs.Common.{arith}
use Rattle.journal_fold.proofs.WideExtents.{run_goes_on}
use Rattle.journal_fold.proofs.files.put_run.Goals as goal

pub loop-place-preserved : goal.loop-place-preserved
loop-place-preserved c = record {
  at = omega arith;
  left = run_goes_on c.args.places.now c.loop-place.place-index c.loop-place.block c.loop-place.extents.items c.put_entry.new.list.items _ c.loop-place-test.true c.in_ok-put_entry.ensures c.loop-place.invariant.left;
}
