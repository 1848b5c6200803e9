use Rattle.std.proofs.Common.{◌-◌, refl, arith, length-set}
use Rattle.snapshot_text.specs.Files.{CatalogFile}
use Rattle.meta_store.specs.Records.{with_put}
use Rattle.snapshot_text.specs.Parts.{file_of}
use Rattle.meta_store.proofs.FileEdits.{count_of, stubs_of, mapped_of, used-sum, sum-put}
use Rattle.meta_store.proofs.KeptCatalogs.{IsCatalog-with_put}
use Rattle.meta_store.proofs.HeldCatalogs.{lawful, counts, bounded, after, put-held}
use Rattle.meta_store.proofs.catalog.Catalog.put.Goals as goal

pub overflow_add-self-3 : goal.overflow_add-self-3
overflow_add-self-3 c = omega (arith, (bounded c.self.inside _ c.self.view_is c.self.invariant).2, c.from.ensures)

pub invariant_of-self-2 : goal.invariant_of-self-2
invariant_of-self-2 c =
    let f : CatalogFile = file_of c.args.key c.args.name.now c.args.size c.args.parts in
    let v = c.args.self.now in
    let n = counts c.self.inside _ c.self.view_is c.self.invariant in
    let good = IsCatalog-with_put f v (lawful c.self.inside _ c.self.view_is c.self.invariant) c.requires.low c.requires.high c.requires.inode c.requires.name c.requires.early c.requires.lawful c.requires.distinct c.requires.room c.requires.stub_room in
    let held = put-held c.self.inside _ c.self.view_is c.self.invariant c.args.key c.args.name.now c.args.size c.args.parts c.requires.low c.requires.high c.requires.inode in
    rw (c.in_ok-put.ensures.ok, c.set_at.ensures)
    (after c.self.inside _ c.self.view_is c.self.invariant _ _ (with_put f v) _ _ _ held refl (length-set c.self.inside.parts.items (c.args.key.ino - 1) c.args.parts) good
    (omega (arith, sum-put count_of f v.files, n.0, c.bytes.ensures.count)) (omega (arith, sum-put stubs_of f v.files, n.1, c.len.ensures.count))
    (omega (arith, sum-put mapped_of f v.files, used-sum v.files, used-sum (with_put f v).files, n.2, c.from.ensures, c.mapped.ensures)))

pub returns-clause-ok : goal.returns-clause-ok
returns-clause-ok c =
    rw (c.in_ok-put.ensures.ok, c.set_at.ensures) (put-held c.self.inside _ c.self.view_is c.self.invariant c.args.key c.args.name.now c.args.size c.args.parts c.requires.low c.requires.high c.requires.inode)
