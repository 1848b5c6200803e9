use Rattle.std.proofs.Common.{arith}
use Rattle.extent_map.proofs.map.ExtentMap.len.Goals as goal

pub overflow_cast-result : goal.overflow_cast-result
overflow_cast-result c = omega (arith, c.len.ensures, c.self.invariant.2, c.self.inside.entries.ok.0)
