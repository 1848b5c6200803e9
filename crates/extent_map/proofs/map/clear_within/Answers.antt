use Rattle.std.proofs.Common.{◌≡◌, ◌∙◌, ◌++◌, ◌-◌, ◌+◌, ◌≤◌, ℕ, List, take, drop, length, subst, arith}
use Rattle.extent_map.specs.declared.extents.Extent.{Extent}
use Rattle.extent_map.specs.Extents.{without_range}
use Rattle.extent_map.proofs.Ranges.{left_holes, left_ascend, lengths_left, gap_left}
use Rattle.extent_map.proofs.map.clear_within.Goals.{After-take_out}
use Rattle.extent_map.proofs.map.clear_within.Goals as goal

-- what is left without what stands between the two cuts
left : (c : After-take_out) → c.take_out.new.entries.items ≡ without_range c.args.ino c.args.from c.args.to c.args.entries.now.items
left c = let r = c.range-first.result in
    c.take_out.ensures.items ∙ subst (λ (k : ℕ). take r.0 c.args.entries.now.items ++ drop r.1 c.args.entries.now.items ≡ without_range c.args.ino k c.args.to c.args.entries.now.items) c.from-from.ensures
    (subst (λ (l : List Extent). take r.0 l ++ drop r.1 l ≡ without_range c.args.ino c.from-from.result c.args.to l) c.as_slice.ensures.value c.range-first.ensures.outside)

-- how many stand there
gap : (c : After-take_out) → c.range-first.result.1 - c.range-first.result.0 + length c.take_out.new.entries.items ≡ length c.args.entries.now.items
gap c = let r = c.range-first.result in
    gap_left r.0 r.1 c.args.entries.now.items c.take_out.new.entries.items c.range-first.ensures.order (subst (λ (l : List Extent). r.1 ≤ length l) c.as_slice.ensures.value c.range-first.ensures.within) c.take_out.ensures.items

pub returns-clause-count : goal.returns-clause-count
returns-clause-count c =
    let s = (goal.at.returns-clause-count c).After-take_out in
    omega (arith, gap s, lengths_left c.args.ino c.args.from c.args.to c.args.entries.now.items c.take_out.new.entries.items (left s))

pub returns-clause-cleared : goal.returns-clause-cleared
returns-clause-cleared c = left (goal.at.returns-clause-cleared c).After-take_out

pub returns-clause-holes : goal.returns-clause-holes
returns-clause-holes c = left_holes c.args.ino c.args.from c.args.to c.args.entries.now.items c.take_out.new.entries.items (left (goal.at.returns-clause-holes c).After-take_out)

pub returns-clause-lengths : goal.returns-clause-lengths
returns-clause-lengths c = gap (goal.at.returns-clause-lengths c).After-take_out

pub returns-clause-order : goal.returns-clause-order
returns-clause-order c = left_ascend c.args.ino c.args.from c.args.to c.args.entries.now.items c.take_out.new.entries.items c.requires (left (goal.at.returns-clause-order c).After-take_out)
