use Rattle.std.proofs.Common.{◌≡◌, take, refl, ◌∙◌, ap, arith}
use Rattle.std.specs.Vec.{with_items}
use Rattle.std.proofs.lemmas.List.{with_items_is}
use Rattle.block_space.specs.Space.{Space, IsSpace, marked, free}
use Rattle.block_space.proofs.Marks.{space-marked}
use Rattle.block_space.proofs.Spaces.{taken_within, taken_increases}
use Rattle.block_space.proofs.space.BlockSpace.take.Goals as goal

pub mark-requires : goal.mark-requires
mark-requires c =
    let s : Space = record { current = c.self.inside.current.items; durable = c.self.inside.durable.items } in
    let numbers : c.as_slice.result.now ≡ take c.args.n (free s) = rw (c.as_slice.ensures.value, c.in-Ok.ensures, c.as_slice-current.ensures.value, c.as_slice-durable.ensures.value) refl in
    rw (numbers, c.as_mut_slice.ensures.value) (taken_within s c.args.n)

pub new-requires : goal.new-requires
new-requires c =
    let s : Space = record { current = c.self.inside.current.items; durable = c.self.inside.durable.items } in
    rw (c.in-Ok.ensures, c.as_slice-current.ensures.value, c.as_slice-durable.ensures.value) (taken_increases s c.args.n)

pub invariant_of-self : goal.invariant_of-self
invariant_of-self c =
    let inside = c.self.inside in
    let inv = c.self.invariant in
    let now : (with_items inside.current c.mark.new.flags).items ≡ marked c.as_slice.result.now inside.current.items =
    with_items_is inside.current c.mark.new.flags (omega arith) ∙ c.mark.ensures ∙ ap (marked c.as_slice.result.now) c.as_mut_slice.ensures.value in
    let low : IsSpace c.skip_used-low.result inside.released inside.current.items inside.durable.items = record {
      lengths = inv.lengths;
      few = inv.few;
      within = rw (← c.as_slice-current.ensures.value) c.skip_used-low.ensures.within;
      used = rw (← c.as_slice-current.ensures.value, ← c.as_slice-durable.ensures.value) c.skip_used-low.ensures.used;
      kept = inv.kept;
    } in
    rw now (space-marked c.skip_used-low.result inside.released c.as_slice.result.now inside.current.items inside.durable.items low)
