use Rattle.std.proofs.Common.{take}
use Rattle.std.specs.List.{AllByRecursion}
use Rattle.block_cache.specs.Cached.{LiesOn}
use Rattle.block_cache.proofs.asking.lie_on.Given as goal

abbrev pub invariant-loop-block : goal.invariant-loop-block
invariant-loop-block l = AllByRecursion (LiesOn l.at l.len) (take l.block-index l.blocks)
