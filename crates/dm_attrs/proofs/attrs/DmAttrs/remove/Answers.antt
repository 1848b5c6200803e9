use Rattle.std.proofs.Common.{◌≡◌, Some, None, sym, ◌∙◌, rules, arith}
use Rattle.hsm_types.specs.Attributes.{value_of, without_value}
use Rattle.dm_attrs.proofs.Counting.{lookup-is_at, remove_entry-is_at, counted-part, counted-without}
use Rattle.dm_attrs.proofs.attrs.DmAttrs.remove.Goals as goal
use Rattle.dm_attrs.proofs.attrs.DmAttrs.remove.Goals.{After-drop-old-inside}

found : (c : After-drop-old-inside) → value_of c.args.name c.self.inside.by_name.entries ≡ Some c.in-Some.old
found c = sym (lookup-is_at c.args.name c.self.inside.by_name.entries) ∙ sym c.remove.ensures.value ∙ c.in-Some.is

left : (c : After-drop-old-inside) → c.remove.new.self.entries ≡ without_value c.args.name c.self.inside.by_name.entries
left c = c.remove.ensures.entries ∙ remove_entry-is_at c.args.name c.self.inside.by_name.entries

pub returns-in_default-clause-refused : goal.returns-in_default-clause-refused
returns-in_default-clause-refused c =
    let none : value_of c.args.name c.args.self.now ≡ None = rw (← c.self.view_is) (sym (lookup-is_at c.args.name c.self.inside.by_name.entries) ∙ sym c.remove.ensures.value ∙ c.in_default.is) in
    search rules

pub overflow_sub-self : goal.overflow_sub-self
overflow_sub-self c =
    let there : value_of c.args.name c.self.inside.by_name.entries ≡ Some c.in-Some.old = sym (lookup-is_at c.args.name c.self.inside.by_name.entries) ∙ sym c.remove.ensures.value ∙ c.in-Some.is in
    let part = counted-part c.args.name c.in-Some.old c.self.inside.bytes c.self.inside.by_name.entries c.self.invariant there in
    omega (arith, c.cost_of.ensures)

pub invariant_of-self-2 : goal.invariant_of-self-2
invariant_of-self-2 c =
    rw c.cost_of.ensures (counted-without c.args.name c.in-Some.old c.self.inside.bytes c.self.inside.by_name.entries c.self.invariant (found c) c.remove.new.self.entries (left c) c.remove.ensures.ordered)

pub returns-clause-ok : goal.returns-clause-ok
returns-clause-ok c =
    let there : value_of c.args.name c.args.self.now ≡ Some c.in-Some.old = rw (← c.self.view_is) (found c) in
    search rules

pub returns-clause-after : goal.returns-clause-after
returns-clause-after c = rw (← c.self.view_is) (left c)
