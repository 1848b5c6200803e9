use Rattle.std.proofs.Common.{◌∙◌, ap, set}
use Rattle.inode_table.specs.declared.entries.FileEntry.{FileEntry}
use Rattle.inode_table.proofs.PlacesOfFiles.{stands-changed}
use Rattle.inode_table.proofs.entries.set_size.Goals as goal

pub returns : goal.returns
returns c =
    let items = c.args.entries.now.items in
    let stands = rw c.as_slice.ensures.value at (rw c.unwrap-place.ensures at c.place_of.ensures.place) in
    ap (λ (f : FileEntry). set items c.unwrap-place.result (record f { size = c.args.size })) c.index_mut.ensures.value
    ∙ stands-changed c.args.key c.unwrap-place.result c.index_mut.result.now (λ f. record f { size = c.args.size }) items stands
