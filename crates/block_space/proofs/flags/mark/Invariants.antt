use Rattle.std.proofs.Common.{◌≡◌, drop}
use Rattle.block_space.specs.Space.{marked}
use Rattle.block_space.proofs.flags.mark.Given as goal

abbrev pub invariant-loop-block : goal.invariant-loop-block
invariant-loop-block l = marked (drop l.block-index l.blocks) l.flags ≡ marked l.blocks l.fn.flags
