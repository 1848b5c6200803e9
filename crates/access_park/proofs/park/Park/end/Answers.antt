use Rattle.std.proofs.Common.{◌≡◌, Bool, true, false, cond, None, refl, ◌∙◌}
use mir.Val.{bool_byte}
use Rattle.access_park.proofs.Tables.{access_of-read, slots-set, one_at_most, table-end}
use Rattle.access_park.proofs.park.Park.end.Goals as goal

byte_of : (b : Bool) → bool_byte b ≡ cond b 1 0
byte_of false = refl
byte_of true = refl

pub overflow_sub-self : goal.overflow_sub-self
overflow_sub-self c =
    let slots = c.self.inside.slots.items in
    let waiting = c.self.inside.waiting in
    let taken = c.take-access.ensures.value ∙ access_of-read slots waiting c.number_of.result c.self.invariant c.number_of.ensures.within c.index_mut.result.now c.index_mut.ensures.value in
    rw (c.from.ensures, byte_of c.is_some.result, c.is_some.ensures, taken) (one_at_most slots waiting c.number_of.result c.self.invariant c.number_of.ensures.within)

pub invariant_of-self : goal.invariant_of-self
invariant_of-self c =
    let slots = c.self.inside.slots.items in
    let waiting = c.self.inside.waiting in
    let taken = c.take-access.ensures.value ∙ access_of-read slots waiting c.number_of.result c.self.invariant c.number_of.ensures.within c.index_mut.result.now c.index_mut.ensures.value in
    rw (c.take-access.ensures.after, c.from.ensures, byte_of c.is_some.result, c.is_some.ensures, taken) (table-end slots waiting c.number_of.result c.self.invariant c.number_of.ensures.within)

pub returns-clause-after : goal.returns-clause-after
returns-clause-after c =
    rw (c.take-access.ensures.after, ← c.self.view_is, ← c.number_of.ensures.number)
    (slots-set c.self.inside.slots.items c.self.inside.waiting c.number_of.result c.self.invariant c.number_of.ensures.within None)
