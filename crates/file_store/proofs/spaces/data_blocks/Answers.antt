use Rattle.file_store.proofs.Names.{◌≡◌, ℕ, ◌+◌, ◌++◌, List, Some, drop, sym, arith, append_assoc, slice_get, drop_more, CatalogFile, present}
use Rattle.file_store.proofs.Names.{blocks_of, slice_get_within, get_or_from_slice_get}
use Rattle.meta_store.proofs.WrittenFiles.{some-at}
use Rattle.file_store.proofs.Loaded.{listed-count}
use Rattle.file_store.proofs.spaces.data_blocks.Goals as goal

-- the places of one file more
one_more : (files : List CatalogFile) (i : ℕ) (f : CatalogFile) (old new whole : List ℕ) → slice_get files i ≡ Some f → new ≡ old ++ present f.places → old ++ blocks_of (drop i files) ≡ whole → new ++ blocks_of (drop (i + 1) files) ≡ whole
one_more files i f old new whole at added so_far =
    let next = drop_more files i f (slice_get_within files i f at) in
    let it = get_or_from_slice_get files i f f at in
    rw (added, append_assoc) (rw (next, it) at so_far)

pub unwrap-requires : goal.unwrap-requires
unwrap-requires c = some-at _ _ c.args.catalog.now.files c.loop-index.index c.file.ensures (omega (arith, listed-count _ _ c.args.catalog.now _ c.names.ensures c.len-index-end.ensures.len))

pub loop-index-preserved : goal.loop-index-preserved
loop-index-preserved c = one_more c.args.catalog.now.files c.loop-index.index _ _ _ _ (sym (rw c.unwrap.ensures at c.file.ensures)) c.in_ok-put_from.ensures c.loop-index.invariant
