use Rattle.std.proofs.Common.{◌≡◌, ◌+◌, ◌*◌, List, ℕ, length, take}
use Rattle.std.specs.Map.{keys_of}
use Rattle.disk_model.specs.Images.{part}
use Rattle.hsm_types.specs.Limits.{block_bytes}
use Rattle.block_cache.specs.Cached.{AreBlocks, AreShown, AreNeighbours, most_kept, all_used_last}
use Rattle.block_cache.proofs.loading.put_run.Given as goal

abbrev pub invariant-loop-index : goal.invariant-loop-index
invariant-loop-index l = record {
  cap : l.blocks.cap ≡ most_kept;
  lengths : AreBlocks l.fn.blocks.entries → AreBlocks l.blocks.entries;
  shown : (at first : ℕ) (c : List ℕ) → AreNeighbours first l.run → l.bytes ≡ part c (at + block_bytes * first) (block_bytes * length l.run) → AreShown at c l.fn.blocks.entries → AreShown at c l.blocks.entries;
  keys : keys_of l.blocks.entries ≡ all_used_last (take l.index l.run) (keys_of l.fn.blocks.entries);
}
