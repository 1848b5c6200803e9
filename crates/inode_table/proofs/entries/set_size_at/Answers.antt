use Rattle.std.proofs.Common.{◌∙◌, ap, set, arith}
use Rattle.inode_table.specs.declared.entries.FileEntry.{FileEntry}
use Rattle.inode_table.proofs.KeysAt.{there, keyed-stands}
use Rattle.inode_table.proofs.PlacesOfFiles.{stands-changed}
use Rattle.inode_table.proofs.entries.set_size_at.Goals as goal

pub index_mut-requires : goal.index_mut-requires
index_mut-requires c =
    let one = there _ c.requires.live in
    let cuts = rw c.as_slice.ensures.value at c.place_for-place.ensures.place in
    omega (arith, (keyed-stands 1 c.args.ino c.place_for-place.result one.0 c.args.entries.now.items c.requires.order cuts one.1).0)

pub returns : goal.returns
returns c = λ key is.
    let items = c.args.entries.now.items in
    let place = c.place_for-place.result in
    let cuts = rw c.as_slice.ensures.value at c.place_for-place.ensures.place in
    let stands = (keyed-stands 1 c.args.ino place key items c.requires.order cuts is).1 in
    ap (λ (f : FileEntry). set items place (record f { size = c.args.size })) c.index_mut.ensures.value
    ∙ stands-changed key place c.index_mut.result.now (λ f. record f { size = c.args.size }) items stands
