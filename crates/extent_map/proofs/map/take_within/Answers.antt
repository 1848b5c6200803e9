use Rattle.std.proofs.Common.{◌≡◌, ◌∙◌, ◌++◌, ◌-◌, ℕ, List, filter, map, take, drop, length, true, false, sym, ap, subst, arith}
use Rattle.extent_map.specs.declared.extents.Extent.{Extent}
use Rattle.extent_map.specs.Extents.{is_within, places_within, without_range}
use Rattle.extent_map.proofs.Ranges.{left_holes, left_ascend, lengths_left, count_within}
use Rattle.extent_map.proofs.map.take_within.Goals.{After-range-first, After-new}
use Rattle.extent_map.proofs.map.take_within.Goals as goal

-- what stands between the two cuts, and what is left without it
inside : (c : After-range-first) → take (c.range-first.result.1 - c.range-first.result.0) (drop c.range-first.result.0 c.args.entries.now.items) ≡ filter (is_within c.args.ino c.args.from c.args.to) c.args.entries.now.items
inside c = let r = c.range-first.result in
    subst (λ (k : ℕ). take (r.1 - r.0) (drop r.0 c.args.entries.now.items) ≡ filter (is_within c.args.ino k c.args.to) c.args.entries.now.items) c.from-from.ensures
    (subst (λ (l : List Extent). take (r.1 - r.0) (drop r.0 l) ≡ filter (is_within c.args.ino c.from-from.result c.args.to) l) c.as_slice.ensures.value c.range-first.ensures.inside)

left : (c : After-new) → c.take_out.new.entries.items ≡ without_range c.args.ino c.args.from c.args.to c.args.entries.now.items
left c = let r = c.range-first.result in
    c.take_out.ensures.items ∙ subst (λ (k : ℕ). take r.0 c.args.entries.now.items ++ drop r.1 c.args.entries.now.items ≡ without_range c.args.ino k c.args.to c.args.entries.now.items) c.from-from.ensures
    (subst (λ (l : List Extent). take r.0 l ++ drop r.1 l ≡ without_range c.args.ino c.from-from.result c.args.to l) c.as_slice.ensures.value c.range-first.ensures.outside)

pub returns-in_err-places-clause-none : goal.returns-in_err-places-clause-none
returns-in_err-places-clause-none c none =
    let r = c.range-first.result in
    let es = c.args.entries.now.items in
    let empty = ap (λ (l : List Extent). length (take (r.1 - r.0) (drop r.0 l))) c.as_slice-2.ensures.value ∙ ap length (inside (goal.at.returns-in_err-places-clause-none c).After-range-first) ∙ sym (count_within c.args.ino c.args.from c.args.to es) ∙ ap length none in
    let bad : false ≡ true = c.in_err-places.ensures.none empty in absurd cc

freed : (c : After-new) → take (c.range-first.result.1 - c.range-first.result.0) (drop c.range-first.result.0 c.args.entries.now.items) ≡ filter (is_within c.args.ino c.args.from c.args.to) c.args.entries.now.items
    → c.new.result ≡ places_within c.args.ino c.args.from c.args.to c.args.entries.now.items
freed c between = let r = c.range-first.result in
    c.new.ensures ∙ c.in_ok-places.ensures.places ∙ ap (λ (l : List Extent). map (λ e. e.at) (take (r.1 - r.0) (drop r.0 l))) c.as_slice-2.ensures.value ∙ ap (λ (l : List Extent). map (λ e. e.at) l) between

pub returns-clause-freed : goal.returns-clause-freed
returns-clause-freed c = freed (goal.at.returns-clause-freed c).After-new (inside (goal.at.returns-clause-freed c).After-range-first)

pub returns-clause-punched : goal.returns-clause-punched
returns-clause-punched c = left (goal.at.returns-clause-punched c).After-new

pub returns-clause-holes : goal.returns-clause-holes
returns-clause-holes c = left_holes c.args.ino c.args.from c.args.to c.args.entries.now.items c.take_out.new.entries.items (left (goal.at.returns-clause-holes c).After-new)

pub returns-clause-lengths : goal.returns-clause-lengths
returns-clause-lengths c =
    let s = (goal.at.returns-clause-lengths c).After-new in
    omega (arith, ap length (freed s (inside (goal.at.returns-clause-lengths c).After-range-first)), lengths_left c.args.ino c.args.from c.args.to c.args.entries.now.items c.take_out.new.entries.items (left s))

pub returns-clause-fewer : goal.returns-clause-fewer
returns-clause-fewer c = omega (arith, lengths_left c.args.ino c.args.from c.args.to c.args.entries.now.items c.take_out.new.entries.items (left (goal.at.returns-clause-fewer c).After-new))

pub returns-clause-order : goal.returns-clause-order
returns-clause-order c = left_ascend c.args.ino c.args.from c.args.to c.args.entries.now.items c.take_out.new.entries.items c.requires (left (goal.at.returns-clause-order c).After-new)
