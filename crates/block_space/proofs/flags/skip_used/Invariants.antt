use Rattle.block_space.specs.Space.{UsedBelow}
use Rattle.block_space.proofs.flags.skip_used.Given as goal

abbrev pub invariant-loop-block : goal.invariant-loop-block
invariant-loop-block l = UsedBelow l.block l.current l.durable
