use Rattle.std.proofs.Common.{arith}
use Rattle.journal_fold.proofs.AloneFiles.{far_at}
use Rattle.journal_fold.proofs.files.narrowed.Goals as goal

pub returns-then-block-from : goal.returns-then-block-from
returns-then-block-from c = far_at c.args.extents.now c.loop-block.block-index (0, 0) c.loop-block-test.true (omega (arith, c.from.ensures, c.if-block-from.true))
