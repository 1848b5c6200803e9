use Rattle.std.proofs.Common.{refl, sym, arith}
use Rattle.extent_map.proofs.map.ExtentMap.clear.Goals as goal

pub invariant_of-self : goal.invariant_of-self
invariant_of-self c = (c.clear_within.ensures.order, omega (arith, c.clear_within.ensures.capacity, c.self.invariant.1), omega (arith, c.clear_within.ensures.lengths, c.self.invariant.2))

pub returns-clause-count : goal.returns-clause-count
returns-clause-count c = rw (sym c.self.view_is) c.clear_within.ensures.count

pub returns-clause-cleared : goal.returns-clause-cleared
returns-clause-cleared c = rw (sym c.self.view_is, c.clear_within.ensures.cleared) refl

pub returns-clause-holes : goal.returns-clause-holes
returns-clause-holes c = rw (sym c.self.view_is) c.clear_within.ensures.holes

pub returns-clause-lengths : goal.returns-clause-lengths
returns-clause-lengths c = rw (sym c.self.view_is) c.clear_within.ensures.lengths
