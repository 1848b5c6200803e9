use Rattle.std.proofs.Common.{◌≡◌, refl, ap}
use Rattle.snapshot_text.specs.declared.file_parts.Others.{Others}
use Rattle.meta_store.specs.Records.{without_file, key_on}
use Rattle.meta_store.proofs.HeldCatalogs.{there, lawful, live-at, after, drop-held}
use Rattle.meta_store.proofs.KeptCatalogs.{IsCatalog-without_file}
use Rattle.meta_store.proofs.catalog.Catalog.drop_file.Goals.{After-unwrap-key}
use Rattle.meta_store.proofs.catalog.Catalog.drop_file.Goals as goal

pub unwrap-key-requires : goal.unwrap-key-requires
unwrap-key-requires c = rw (c.key_at.ensures, live-at c.self.inside _ c.self.view_is c.self.invariant c.args.ino c.requires) refl

key-of : (c : After-unwrap-key) → c.unwrap-key.result ≡ key_on c.args.ino c.args.self.now
key-of c = let at = live-at c.self.inside _ c.self.view_is c.self.invariant c.args.ino c.requires in let is = c.key_at.ensures in let taken = c.unwrap-key.ensures in cc

pub invariant_of-self : goal.invariant_of-self
invariant_of-self c =
    let f = there _ c.requires in
    let good = IsCatalog-without_file (key_on c.args.ino c.args.self.now) f.0 c.args.self.now (lawful c.self.inside _ c.self.view_is c.self.invariant) f.1 in
    rw (c.drop_file.ensures.rest, key-of (goal.at.invariant_of-self c).After-unwrap-key)
    (after c.self.inside _ c.self.view_is c.self.invariant _ _ (without_file (key_on c.args.ino c.args.self.now) c.args.self.now) _ _ _ (drop-held c.self.inside _ c.self.view_is c.self.invariant _) refl refl good
    (ap (λ (o : Others). o.attributes) c.others-blocks.ensures.others) (ap (λ (o : Others). o.stubs) c.others-blocks.ensures.others) c.others-blocks.ensures.used)

pub returns : goal.returns
returns c = rw (c.drop_file.ensures.rest, key-of (goal.at.returns c).After-unwrap-key) (drop-held c.self.inside _ c.self.view_is c.self.invariant _)
