use Rattle.std.proofs.Common.{◌≡◌, ℕ, refl, arith}
use Rattle.snapshot_text.specs.declared.file_parts.Others.{Others}
use Rattle.meta_store.specs.Records.{key_on}
use Rattle.meta_store.proofs.HeldCatalogs.{IsLeft, place-within, left}
use Rattle.meta_store.proofs.catalog.Catalog.others.Goals.{After-index-parts}
use Rattle.meta_store.proofs.catalog.Catalog.others.Goals as goal

both : (a b x y : ℕ) → a ≡ x → b ≡ y → ◌≡◌ {A = Others} (record { attributes = a; stubs = b }) (record { attributes = x; stubs = y })
both a b x y attributes stubs = rw (attributes, stubs) refl

pub index-parts-requires : goal.index-parts-requires
index-parts-requires c = omega (arith, place-within c.self.inside _ c.self.view_is c.self.invariant c.args.ino c.requires c.slot.result c.slot.ensures)

left-of : (c : After-index-parts) → IsLeft c.self.inside c.args.self.now (key_on c.args.ino c.args.self.now) c.index-parts.result.now
left-of c = left c.self.inside _ c.self.view_is c.self.invariant c.args.ino c.requires c.slot.result c.slot.ensures c.index-parts.result.now c.index-parts.ensures

pub overflow_sub-others : goal.overflow_sub-others
overflow_sub-others c = omega (arith, (left-of (goal.at.overflow_sub-others c).After-index-parts).attributes, c.bytes.ensures.count)

pub overflow_sub-others-2 : goal.overflow_sub-others-2
overflow_sub-others-2 c = omega (arith, (left-of (goal.at.overflow_sub-others-2 c).After-index-parts).stubs, c.len.ensures.count)

pub overflow_sub-blocks : goal.overflow_sub-blocks
overflow_sub-blocks c = omega (arith, (left-of (goal.at.overflow_sub-blocks c).After-index-parts).used, c.from.ensures, c.mapped.ensures)

pub returns : goal.returns
returns c =
    let sum = left-of (goal.at.returns c).After-index-parts in
    record {
      others = both _ _ _ _ (omega (arith, sum.attributes, c.bytes.ensures.count)) (omega (arith, sum.stubs, c.len.ensures.count));
      used = omega (arith, sum.used, c.from.ensures, c.mapped.ensures);
    }
