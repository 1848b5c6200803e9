use Rattle.std.proofs.Common.{◌≡◌, length, drop}
use Rattle.block_space.specs.Space.{unmarked}
use Rattle.block_space.proofs.space.BlockSpace.release_all.Given as goal

abbrev pub invariant-loop-block : goal.invariant-loop-block
invariant-loop-block l = record {
  total : length l.self.current ≡ length l.fn.self.current;
  left : record l.self { current = unmarked (drop l.block-index l.blocks) l.self.current } ≡ record l.fn.self { current = unmarked l.blocks l.fn.self.current };
}
