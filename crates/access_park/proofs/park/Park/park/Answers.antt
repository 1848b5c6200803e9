use Rattle.std.proofs.Common.{Some, arith}
use Rattle.access_park.proofs.Tables.{few_wait, slots-set, table-park}
use Rattle.access_park.proofs.park.Park.park.Goals as goal

pub overflow_add-self : goal.overflow_add-self
overflow_add-self c = omega (arith, few_wait c.self.inside.slots.items c.self.inside.waiting c.number_of.result c.self.invariant)

pub invariant_of-self : goal.invariant_of-self
invariant_of-self c =
    table-park c.self.inside.slots.items c.self.inside.waiting c.number_of.result c.self.invariant c.number_of.ensures.within c.args.access
    (rw (c.number_of.ensures.number, c.self.view_is) c.requires.idle) (rw c.self.view_is c.requires.token) c.requires.lawful

pub returns : goal.returns
returns c =
    rw (← c.self.view_is, ← c.number_of.ensures.number) (slots-set c.self.inside.slots.items c.self.inside.waiting c.number_of.result c.self.invariant c.number_of.ensures.within (Some c.args.access))
