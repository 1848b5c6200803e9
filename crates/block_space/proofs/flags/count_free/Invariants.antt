use Rattle.std.proofs.Common.{◌≡◌, ◌+◌, ◌≤◌, length, drop, min}
use Rattle.block_space.specs.Space.{free_in}
use Rattle.block_space.proofs.flags.count_free.Given as goal

abbrev pub invariant-loop-block : goal.invariant-loop-block
invariant-loop-block l = record {
  most : l.free ≤ l.most;
  count : min l.most (l.free + length (free_in l.block (drop l.block l.current) (drop l.block l.durable))) ≡ min l.most (length (free_in 0 l.current l.durable));
}
