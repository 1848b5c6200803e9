use Rattle.std.proofs.Common.{◌∙◌, sym}
use Rattle.std.proofs.lemmas.Bool.{false≢true}
use Rattle.block_cache.proofs.Asked.{not_all_lie, one_more_lies, told_not}
use Rattle.block_cache.proofs.asking.lie_on.Goals as goal

pub loop-block-preserved : goal.loop-block-preserved
loop-block-preserved c = one_more_lies c.args.at c.args.len c.loop-block.block-index c.args.blocks.now c.loop-block-test.true c.loop-block.invariant (c.lies_on.ensures.0 c.if-not-lies_on.false)

pub returns-then-not-lies_on : goal.returns-then-not-lies_on
returns-then-not-lies_on c =
    told_not (not_all_lie c.args.at c.args.len c.loop-block.block-index c.args.blocks.now c.loop-block-test.true (λ lies. absurd (false≢true (sym c.if-not-lies_on.true ∙ c.lies_on.ensures.1 lies))))
