use Rattle.std.proofs.Common.{refl}
use Rattle.inode_table.specs.Listing.{key_at, listing}
use Rattle.inode_table.proofs.Keeping.{table-change}
use Rattle.inode_table.proofs.KeysAt.{there}
use Rattle.inode_table.proofs.Listings.{listing-change}
use Rattle.inode_table.proofs.table.InodeTable.set_size_at.Goals as goal

pub invariant_of-self : goal.invariant_of-self
invariant_of-self c =
    let inside = c.self.inside in
    let one = there (key_at c.args.ino (listing inside.entries.items)) (rw (← c.self.view_is) at c.requires) in
    let now = c.set_size_at.ensures one.0 one.1 in (
      rw now (table-change inside.files inside.next one.0 c.args.size inside.entries.items c.self.invariant.0),
      rw (now, listing-change one.0 c.args.size inside.entries.items) c.self.invariant.1,
    )

pub returns : goal.returns
returns c = λ key is. rw (c.set_size_at.ensures key (rw (← c.self.view_is) at is), ← c.self.view_is) refl
