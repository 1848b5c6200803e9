use Rattle.std.proofs.Common.{length, arith}
use Rattle.journal_fold.proofs.CountedFiles.{place_at}
use Rattle.journal_fold.proofs.uses.release.Goals as goal

pub bounds-flags-extent : goal.bounds-flags-extent
bounds-flags-extent c = omega (arith, place_at c.args.extents.now c.loop-extent.extent-index (length c.args.flags.now) c.requires c.loop-extent-test.true, c.loop-extent.auto.flags)
