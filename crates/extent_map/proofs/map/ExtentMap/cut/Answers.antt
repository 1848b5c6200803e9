use Rattle.std.proofs.Common.{sym, arith}
use Rattle.extent_map.proofs.map.ExtentMap.cut.Goals as goal

pub invariant_of-self : goal.invariant_of-self
invariant_of-self c = (c.take_within.ensures.order, omega (arith, c.take_within.ensures.capacity, c.self.invariant.1), omega (arith, c.take_within.ensures.fewer, c.self.invariant.2))

pub returns-clause-holes : goal.returns-clause-holes
returns-clause-holes c = rw (sym c.self.view_is) c.take_within.ensures.holes

pub returns-clause-lengths : goal.returns-clause-lengths
returns-clause-lengths c = rw (sym c.self.view_is) c.take_within.ensures.lengths

pub returns-clause-none : goal.returns-clause-none
returns-clause-none c = rw (sym c.self.view_is) c.take_within.ensures.none
