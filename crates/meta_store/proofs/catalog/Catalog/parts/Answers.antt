use Rattle.std.proofs.Common.{refl, arith}
use Rattle.meta_store.proofs.HeldCatalogs.{there, live, read-live}
use Rattle.meta_store.proofs.catalog.Catalog.parts.Goals as goal

pub index-requires : goal.index-requires
index-requires c =
    let f = there _ c.requires in
    let one = live c.self.inside _ c.self.view_is c.self.invariant c.args.key f.0 f.1 in
    omega (arith, one.low, one.high, c.slot.ensures)

pub returns : goal.returns
returns c =
    let f = there _ c.requires in
    let one = live c.self.inside _ c.self.view_is c.self.invariant c.args.key f.0 f.1 in
    rw (f.1, ← read-live c.self.inside.table c.self.inside.parts.items c.args.key f.0 one c.slot.result c.index.result.now c.slot.ensures c.index.ensures) refl
