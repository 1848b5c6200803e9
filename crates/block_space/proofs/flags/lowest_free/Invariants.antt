use Rattle.std.proofs.Common.{◌≡◌, ◌-◌, ◌≤◌, ◌++◌, take, drop, vec_len}
use Rattle.block_space.specs.Space.{free_in}
use Rattle.block_space.proofs.flags.lowest_free.Given as goal

abbrev pub invariant-loop-block : goal.invariant-loop-block
invariant-loop-block l = record {
  most : vec_len l.blocks ≤ l.count;
  taken : l.blocks.items ++ take (l.count - vec_len l.blocks) (free_in l.block (drop l.block l.current) (drop l.block l.durable)) ≡ take l.count (free_in 0 l.current l.durable);
}
