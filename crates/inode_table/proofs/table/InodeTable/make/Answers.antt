use Rattle.std.proofs.Common.{◌≡◌, ap, arith}
use Rattle.hsm_types.specs.Listing.{free_inode}
use Rattle.inode_table.specs.Listing.{listing}
use Rattle.inode_table.proofs.Listings.{length-listing}
use Rattle.inode_table.proofs.Orders.{free-ge, free-le, free-absent}
use Rattle.inode_table.proofs.table.InodeTable.make.Goals as goal

pub add-requires-clause-low : goal.add-requires-clause-low
add-requires-clause-low c = rw c.next_key-key.ensures (free-ge 1 (listing c.args.self.now.files))

pub add-requires-clause-high : goal.add-requires-clause-high
add-requires-clause-high c =
    let is : c.next_key-key.result.ino ≡ free_inode 1 (listing c.args.self.now.files) = ap (λ k. k.ino) c.next_key-key.ensures in
    let most = free-le 1 (listing c.args.self.now.files) in
    let len = length-listing c.args.self.now.files in
    let limit : c.self.inside.files ≡ c.args.self.now.limit = ap (λ t. t.limit) c.self.view_is in
    omega arith

pub add-requires-clause-inode : goal.add-requires-clause-inode
add-requires-clause-inode c = rw c.next_key-key.ensures (free-absent 1 (listing c.args.self.now.files) c.len.ensures.table.ascend)
