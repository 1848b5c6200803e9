use Rattle.std.proofs.Common.{◌≡◌, ℕ, [], sym, subst, arith}
use Rattle.std.specs.Prelude.{OnOk, IsOk}
use Rattle.extent_map.specs.Extents.{HasHoles, places_within}
use Rattle.extent_map.proofs.map.ExtentMap.punch.Goals as goal

pub invariant_of-self : goal.invariant_of-self
invariant_of-self c = (c.take_within.ensures.order, omega (arith, c.take_within.ensures.capacity, c.self.invariant.1), omega (arith, c.take_within.ensures.fewer, c.self.invariant.2))

pub returns-clause-holes : goal.returns-clause-holes
returns-clause-holes c =
    rw (sym c.self.view_is) (subst (λ (k : ℕ). OnOk c.take_within.result (HasHoles c.args.ino c.args.from k c.self.inside.entries.items c.take_within.new.entries.items)) c.from.ensures c.take_within.ensures.holes)

pub returns-clause-lengths : goal.returns-clause-lengths
returns-clause-lengths c = rw (sym c.self.view_is) c.take_within.ensures.lengths

pub returns-clause-none : goal.returns-clause-none
returns-clause-none c =
    rw (sym c.self.view_is) (subst (λ (k : ℕ). places_within c.args.ino c.args.from k c.self.inside.entries.items ≡ [] → IsOk c.take_within.result) c.from.ensures c.take_within.ensures.none)
