use Rattle.std.proofs.Common.{ℕ, refl, sym}
use Rattle.hsm_types.specs.declared.keys.FileKey.{FileKey}
use Rattle.hsm_types.specs.declared.stores.Superblock.{Superblock}
use Rattle.hsm_types.specs.declared.tables.FileRow.{FileRow}
use Rattle.plain_model.specs.Segments.{row_of}
use Rattle.snapshot_text.specs.Files.{CatalogFile}
use Rattle.snapshot_text.specs.Parts.{file_of}
use Rattle.meta_store.proofs.SnapshotFits.{size-few}
use Rattle.file_store.proofs.Loaded.{next-file}
use Rattle.hsm_core.specs.Stamps.{stamp_in}
use Rattle.hsm_core.proofs.ToldSegments.{made_of_row, row_at, row_more, row_same}
use Rattle.hsm_core.proofs.services.tables.rows.Goals as goal

pub segments_of-requires : goal.segments_of-requires
segments_of-requires c =
    let is = next-file c.args.catalog.now c.loop-index.index _ c.geometry-geometry.ensures.valid (sym (rw c.unwrap-size.ensures at c.file.ensures)) in
    size-few c.args.catalog.now.geometry _ is.lawful

pub loop-index-preserved : goal.loop-index-preserved
loop-index-preserved c = λ held shown.
    let super : Superblock = c.args.superblock in
    let stamps : FileKey → ℕ = stamp_in c.args.stamps.now.entries in
    let lent = c.unwrap-size.result in
    let row : FileRow = record { handle = c.make.result; size = lent.2; stamp = c.stamp.result; segments = c.in_ok-segments_of.field-0 } in
    let file : CatalogFile = file_of lent.0 lent.1.now lent.2 lent.3.now in
    let found = row_at c.args.catalog.now.files held.files c.loop-index.index file shown.rows (sym (rw c.unwrap-size.ensures at c.file.ensures)) in
    let made = made_of_row file found.0 found.1 in
    let told = c.in_ok-segments_of.ensures found.0 made in
    row_more (row_of super stamps) held.files c.loop-index.index found.0 c.loop-index.rows.items c.push.new.self.items row c.in_ok-push.ensures.items (c.loop-index.invariant held shown)
    (row_same super stamps file found.0 row found.1 c.make.ensures refl c.stamp.ensures told) found.2
