use Rattle.std.proofs.Common.{◌∙◌, sym}
use Rattle.std.proofs.lemmas.Bool.{false≢true}
use Rattle.block_cache.proofs.Asked.{not_all_there, one_more_there, told_not}
use Rattle.block_cache.proofs.asking.are_there.Goals as goal

pub loop-place-preserved : goal.loop-place-preserved
loop-place-preserved c = one_more_there c.args.cache.now c.loop-place.place-index c.args.places.now c.loop-place-test.true c.loop-place.invariant (c.is_there.ensures.0 c.if-not-is_there.false)

pub returns-then-not-is_there : goal.returns-then-not-is_there
returns-then-not-is_there c =
    told_not (not_all_there c.args.cache.now c.loop-place.place-index c.args.places.now c.loop-place-test.true (λ there. absurd (false≢true (sym c.if-not-is_there.true ∙ c.is_there.ensures.1 there))))
