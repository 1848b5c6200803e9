use Rattle.std.proofs.Common.{◌≡◌, ◌*◌, ◌-◌, ◌≤◌, List, ℕ, length, take}
use Rattle.std.specs.Map.{keys_of}
use Rattle.hsm_types.specs.Limits.{block_bytes}
use Rattle.block_cache.specs.Cached.{ImagesStay, AreBlocks, AreShown, most_kept, most_loaded, all_used_last, AreIn}
use Rattle.block_cache.proofs.loading.load_all.Given as goal

abbrev pub invariant-loop-done : goal.invariant-loop-done
invariant-loop-done g l = record {
  reads : ImagesStay g.D.Disk l.fn.disk l.disk;
  room : length l.buffer.items ≡ block_bytes * most_loaded;
  cap : l.blocks.cap ≡ most_kept;
  within : l.done ≤ length l.wanted;
  lengths : AreBlocks l.fn.blocks.entries → AreBlocks l.blocks.entries;
  shown : (c : List ℕ) → g.D.Disk.gives l.fn.disk c → AreShown l.at c l.fn.blocks.entries → AreShown l.at c l.blocks.entries;
  keys : keys_of l.blocks.entries ≡ all_used_last (take l.done l.wanted) (keys_of l.fn.blocks.entries);
  there : AreIn l.wanted (keys_of l.fn.blocks.entries) → AreIn l.wanted (keys_of l.blocks.entries) × (l.disk ≡ l.fn.disk);
  quiet : g.D.Disk.fault_count l.disk ≡ g.D.Disk.fault_count l.fn.disk;
}

abbrev pub decreases-loop-done : goal.decreases-loop-done
decreases-loop-done g l = length l.wanted - l.done
