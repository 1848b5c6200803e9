use Rattle.std.proofs.Common.{◌-◌, refl, sym, arith}
use Rattle.std.proofs.lemmas.Option.{slice_get-map}
use Rattle.std.proofs.lemmas.List.{get_or_read}
use Rattle.snapshot_text.specs.Parts.{no_parts}
use Rattle.meta_store.specs.InMemory.{file_held}
use Rattle.meta_store.proofs.HeldCatalogs.{slot-within}
use Rattle.meta_store.proofs.catalog.Catalog.file.Goals as goal

pub index-requires : goal.index-requires
index-requires c = let within = slot-within c.self.inside _ c.self.view_is c.self.invariant c.args.index _ (sym c.in_ok-key.ensures) in omega (arith, within.0, within.1, c.slot.ensures)

pub returns : goal.returns
returns c =
    let ps = c.self.inside.parts.items in
    let within = slot-within c.self.inside _ c.self.view_is c.self.invariant c.args.index _ (sym c.in_ok-key.ensures) in
    let here = get_or_read ps (c.in_ok-key.key.ino - 1) c.index.result.now (omega (arith, within.0, within.1)) (rw c.slot.ensures at c.index.ensures) no_parts in
    rw (← c.self.view_is, slice_get-map (file_held ps) c.self.inside.table.files c.args.index, ← c.in_ok-key.ensures, ← here) refl
