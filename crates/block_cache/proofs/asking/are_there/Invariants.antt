use Rattle.std.proofs.Common.{take}
use Rattle.block_cache.specs.Lent.{AreCached}
use Rattle.block_cache.proofs.asking.are_there.Given as goal

abbrev pub invariant-loop-place : goal.invariant-loop-place
invariant-loop-place l = AreCached l.cache (take l.place-index l.places)
