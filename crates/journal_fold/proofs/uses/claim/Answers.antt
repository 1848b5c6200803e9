use Rattle.std.proofs.Common.{length, arith}
use Rattle.journal_fold.proofs.CountedFiles.{place_at}
use Rattle.journal_fold.proofs.uses.claim.Goals as goal

pub bounds-flags-place : goal.bounds-flags-place
bounds-flags-place c = omega (arith, place_at c.args.extents.now c.loop-extent.extent-index (length c.args.flags.now) c.requires c.loop-extent-test.true, c.loop-extent.auto.flags)

pub bounds-flags-place-in-loop-extent : goal.bounds-flags-place-in-loop-extent
bounds-flags-place-in-loop-extent c = omega (arith, place_at c.args.extents.now c.loop-extent.extent-index (length c.args.flags.now) c.requires c.loop-extent-test.true, c.loop-extent.auto.flags)
