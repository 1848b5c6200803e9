use Rattle.std.proofs.Common.{◌≡◌, true, ap, ◌∙◌}
use Rattle.std.specs.Option.{option_map}
use Rattle.access_park.specs.Pending.{holds, given, access_of, NobodyHolds}
use Rattle.access_park.proofs.Answering.{answered-nobody}
use Rattle.access_park.proofs.Tables.{access_of-read, access_of-holds, nobody_holds, holder, found_at, slots-answered, table-answered}
use Rattle.access_park.proofs.park.Park.answer.Goals as goal
use Rattle.access_park.proofs.park.Park.answer.Goals.{After-new, After-from_residual}

-- ---- it wasn't found

none : (c : After-from_residual) → NobodyHolds c.args.token (access_of c.args.self.now)
none c = rw (← c.self.view_is) (nobody_holds c.args.token c.self.inside.slots.items (rw c.deref.ensures.value at c.in_err-number.ensures))

pub returns-in_err-number-clause-found : goal.returns-in_err-number-clause-found
returns-in_err-number-clause-found c = rw c.from_residual.ensures (none c)

pub returns-in_err-number-clause-after : goal.returns-in_err-number-clause-after
returns-in_err-number-clause-after c = answered-nobody c.args.token c.args.response (access_of c.args.self.now) (none c)

-- ---- it was found

has : (c : After-new) → holds c.args.token (access_of c.self.inside.slots.items c.in_ok-number.number) ≡ true
has c = access_of-holds c.args.token c.self.inside.slots.items c.in_ok-number.number (rw c.deref.ensures.value at c.in_ok-number.ensures.1)

gets : (c : After-new) → c.give.new.slot ≡ option_map (given c.args.response) (access_of c.self.inside.slots.items c.in_ok-number.number)
gets c =
    let slots = c.self.inside.slots.items in
    let waiting = c.self.inside.waiting in
    let caller = holder slots waiting c.in_ok-number.number c.self.invariant c.args.token c.args.response c.requires (has c) in
    c.give.ensures ∙ ap (option_map (given c.args.response)) (access_of-read slots waiting c.in_ok-number.number c.self.invariant caller c.index_mut.result.now c.index_mut.ensures.value)

pub invariant_of-self : goal.invariant_of-self
invariant_of-self c = rw (gets c) (table-answered c.self.inside.slots.items c.self.inside.waiting c.in_ok-number.number c.self.invariant c.args.token c.args.response c.requires (has c))

pub returns-clause-found : goal.returns-clause-found
returns-clause-found c =
    rw (← c.self.view_is) (found_at c.self.inside.slots.items c.self.inside.waiting c.in_ok-number.number c.self.invariant c.args.token c.args.response c.requires (has c) c.new.result c.new.ensures)

pub returns-clause-after : goal.returns-clause-after
returns-clause-after c =
    rw (gets c, ← c.self.view_is) (slots-answered c.self.inside.slots.items c.self.inside.waiting c.in_ok-number.number c.self.invariant c.args.token c.args.response c.requires (has c))
