use Rattle.std.proofs.Common.{◌≡◌, length, sym, ◌∙◌, ap, arith}
use Rattle.std.proofs.lemmas.List.{length-map}
use Rattle.inode_table.specs.Table.{Table, entry_of}
use Rattle.meta_store.proofs.WrittenFiles.{some-at, bounds-at, header-first, file-more}
use Rattle.meta_store.proofs.spelling.spell.Goals.{After-len-count}
use Rattle.meta_store.proofs.spelling.spell.Goals as goal

counted : (c : After-len-count) → c.len-count.result ≡ length c.args.catalog.now.files
counted c = (rw c.names-table.ensures at c.len-count.ensures.len) ∙ length-map c.args.catalog.now.files (λ f. entry_of f.key f.name f.size)

pub loop-index-init : goal.loop-index-init
loop-index-init c =
    header-first c.args.number _ _ _ _ (c.next.ensures ∙ ap (λ (t : Table). t.next) c.names-table.ensures) (counted (goal.at.loop-index-init c).After-len-count) (rw c.in_ok-out.ensures.items at c.in_ok-put_header.ensures)

pub unwrap-size-requires : goal.unwrap-size-requires
unwrap-size-requires c = some-at _ _ c.args.catalog.now.files c.loop-index.index c.file.ensures (omega (arith, counted (goal.at.unwrap-size-requires c).After-len-count))

pub put_file-requires : goal.put_file-requires
put_file-requires c =
    let b = bounds-at _ _ _ c.geometry-geometry.ensures.valid (sym (rw c.unwrap-size.ensures at c.file.ensures)) in
    record { name = b.0; places = b.1; regions = b.2 }

pub loop-index-preserved : goal.loop-index-preserved
loop-index-preserved c = rw (c.in_ok-put_file.ensures, file-more _ _ _ _ (sym (rw c.unwrap-size.ensures at c.file.ensures))) c.loop-index.invariant
