use Rattle.std.proofs.Common.{◌≡◌, arith}
use Rattle.dm_attrs.specs.Counts.{cost_under}
use Rattle.dm_attrs.proofs.Counting.{bytes-without, bytes-with}
use Rattle.dm_attrs.proofs.attrs.DmAttrs.bytes_with.Goals as goal

pub overflow_sub-result : goal.overflow_sub-result
overflow_sub-result c =
    let counted : c.cost_under.result ≡ cost_under c.args.name c.self.inside.by_name.entries = rw c.self.view_is c.cost_under.ensures in
    let part = bytes-without c.args.name c.self.inside.by_name.entries in
    omega (arith, c.self.invariant.sum)

pub overflow_add-result : goal.overflow_add-result
overflow_add-result c = let few = c.self.invariant.few in omega arith

pub returns-clause-sum : goal.returns-clause-sum
returns-clause-sum c =
    let counted : c.cost_under.result ≡ cost_under c.args.name c.self.inside.by_name.entries = rw c.self.view_is c.cost_under.ensures in
    let part = bytes-without c.args.name c.self.inside.by_name.entries in
    let all = bytes-with c.args.name c.args.value.now c.self.inside.by_name.entries c.self.invariant.attributes in
    rw (← c.self.view_is) (omega (arith, c.self.invariant.sum))
