use Rattle.std.proofs.Common.{arith}
use Rattle.dm_attrs.proofs.Lengths.{length-few}
use Rattle.dm_attrs.proofs.attrs.DmAttrs.len.Goals as goal

pub overflow_cast-result : goal.overflow_cast-result
overflow_cast-result c =
    let few = c.self.invariant.few in
    let most = length-few c.self.inside.by_name.entries in
    omega (arith, c.self.invariant.sum, c.len.ensures)
