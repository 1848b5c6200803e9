use Rattle.std.proofs.Common.{◌∙◌, ℕ, sym, subst}
use Rattle.extent_map.specs.declared.extents.Extent.{Extent}
use Rattle.extent_map.specs.Extents.{CutsExtents}
use Rattle.extent_map.proofs.Places.{place_there, place_none}
use Rattle.extent_map.proofs.extents.place.Goals as goal

pub returns-then-stands_at : goal.returns-then-stands_at
returns-then-stands_at c =
    let d : Extent = record { ino = 0; block = 0; at = 0 } in
    let n = c.count_before-index.result in
    let cuts = subst (λ (k : ℕ). CutsExtents c.args.ino k n c.args.entries.now) c.from.ensures c.count_before-index.ensures.cuts in
    let lt = c.stands_at.ensures.within c.if-stands_at.true in
    sym (place_there c.args.ino c.args.block n c.args.entries.now d cuts lt (sym (c.stands_at.ensures.there d lt) ∙ c.if-stands_at.true))

pub returns-else-stands_at : goal.returns-else-stands_at
returns-else-stands_at c =
    let d : Extent = record { ino = 0; block = 0; at = 0 } in
    let n = c.count_before-index.result in
    let cuts = subst (λ (k : ℕ). CutsExtents c.args.ino k n c.args.entries.now) c.from.ensures c.count_before-index.ensures.cuts in
    sym (place_none c.args.ino c.args.block n c.args.entries.now d c.requires cuts (λ lt. sym (c.stands_at.ensures.there d lt) ∙ c.if-stands_at.false))
