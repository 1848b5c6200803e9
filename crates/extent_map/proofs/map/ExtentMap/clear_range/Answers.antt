use Rattle.std.proofs.Common.{◌≡◌, ℕ, length, refl, sym, subst, arith}
use Rattle.extent_map.specs.Extents.{HasHoles, places_within, without_range}
use Rattle.extent_map.proofs.map.ExtentMap.clear_range.Goals as goal

pub invariant_of-self : goal.invariant_of-self
invariant_of-self c = (c.clear_within.ensures.order, omega (arith, c.clear_within.ensures.capacity, c.self.invariant.1), omega (arith, c.clear_within.ensures.lengths, c.self.invariant.2))

pub returns-clause-count : goal.returns-clause-count
returns-clause-count c =
    rw (sym c.self.view_is) (subst (λ (k : ℕ). c.clear_within.result ≡ length (places_within c.args.ino c.args.from k c.self.inside.entries.items)) c.from.ensures c.clear_within.ensures.count)

pub returns-clause-cleared : goal.returns-clause-cleared
returns-clause-cleared c =
    let left = subst (λ (k : ℕ). c.clear_within.new.entries.items ≡ without_range c.args.ino c.args.from k c.self.inside.entries.items) c.from.ensures c.clear_within.ensures.cleared in
    rw (sym c.self.view_is, left) refl

pub returns-clause-holes : goal.returns-clause-holes
returns-clause-holes c =
    rw (sym c.self.view_is) (subst (λ (k : ℕ). HasHoles c.args.ino c.args.from k c.self.inside.entries.items c.clear_within.new.entries.items) c.from.ensures c.clear_within.ensures.holes)

pub returns-clause-lengths : goal.returns-clause-lengths
returns-clause-lengths c = rw (sym c.self.view_is) c.clear_within.ensures.lengths
