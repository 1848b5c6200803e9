use Rattle.std.proofs.Common.{◌≡◌, false, take, get_or}
use Rattle.std.specs.Map.{keys_of}
use Rattle.block_cache.specs.Cached.{AreAbsent, AreNeighbours, has}
use Rattle.block_cache.proofs.loading.count_neighbours.Given as goal

abbrev pub invariant-loop-index : goal.invariant-loop-index
invariant-loop-index l = record {
  next : AreNeighbours (get_or l.wanted 0 0) (take l.index l.wanted);
  gone : has (get_or l.wanted 0 0) (keys_of l.blocks.entries) ≡ false → AreAbsent (take l.index l.wanted) (keys_of l.blocks.entries);
}
