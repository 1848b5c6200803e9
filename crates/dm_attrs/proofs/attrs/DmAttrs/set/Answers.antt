use Rattle.std.proofs.Common.{rules}
use Rattle.dm_attrs.proofs.Counting.{counted-with}
use Rattle.dm_attrs.proofs.attrs.DmAttrs.set.Goals as goal

pub invariant_of-self-2 : goal.invariant_of-self-2
invariant_of-self-2 c =
    counted-with c.args.name c.args.value c.args.others c.args.limit c.self.inside.bytes c.in_ok-after.after c.self.inside.by_name.entries c.insert.new.self.entries c.self.invariant c.requires.limit
    (rw c.self.view_is c.in_ok-after.ensures.ok) (rw c.self.view_is c.in_ok-after.ensures.after) (search rules) c.insert.ensures.ordered
