use Rattle.std.proofs.Common.{◌≡◌, ◌<◌, ◌≤◌, List, None, length, sym, subst, arith}
use Rattle.extent_map.specs.declared.extents.Extent.{Extent}
use Rattle.extent_map.specs.Extents.{Extents, ExtentsAscend, MapsTo, place_of}
use Rattle.extent_map.proofs.Places.{ascend_with, maps_to, put_few, put_lengths}
use Rattle.extent_map.proofs.map.ExtentMap.put.Goals as goal

pub invariant_of-self : goal.invariant_of-self
invariant_of-self c =
    let e : Extent = record { ino = c.args.ino; block = c.args.block; at = c.args.at } in
    let es = c.self.inside.entries.items in
    let room = subst (λ (s : Extents). place_of c.args.ino c.args.block s.entries ≡ None → length s.entries < s.total) (sym c.self.view_is) c.requires.room in (
      subst ExtentsAscend (sym c.put.ensures.items) (ascend_with e es c.self.invariant.0),
      omega (arith, c.put.ensures.capacity, c.self.invariant.1),
      subst (λ (l : List Extent). length l ≤ c.self.inside.total) (sym c.put.ensures.items) (put_few e es c.self.inside.total c.self.invariant.0 c.self.invariant.2 room),
    )

pub returns-clause-lengths : goal.returns-clause-lengths
returns-clause-lengths c =
    let e : Extent = record { ino = c.args.ino; block = c.args.block; at = c.args.at } in
    let es = c.self.inside.entries.items in
    rw (sym c.self.view_is, c.put.ensures.items) (put_lengths e es c.put.result c.self.invariant.0 c.put.ensures.old)

pub returns-clause-maps : goal.returns-clause-maps
returns-clause-maps c =
    let e : Extent = record { ino = c.args.ino; block = c.args.block; at = c.args.at } in
    let es = c.self.inside.entries.items in
    subst (λ (s : Extents). MapsTo c.args.ino c.args.block c.args.at s.entries c.put.new.entries.items) c.self.view_is (subst (λ (l : List Extent). MapsTo c.args.ino c.args.block c.args.at es l) (sym c.put.ensures.items) (maps_to e es))
