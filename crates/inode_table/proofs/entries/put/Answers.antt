use Rattle.std.proofs.Common.{◌∙◌}
use Rattle.inode_table.proofs.PlacesOfFiles.{cuts-put}
use Rattle.inode_table.proofs.entries.put.Goals as goal

pub returns : goal.returns
returns c = c.insert.ensures.items ∙ rw c.unwrap.ensures (cuts-put c.args.entry c.place_for-place.result c.args.entries.now.items (rw c.as_slice.ensures.value at c.place_for-place.ensures.place) c.requires.free)
