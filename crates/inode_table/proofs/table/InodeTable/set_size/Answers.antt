use Rattle.inode_table.proofs.Keeping.{table-change}
use Rattle.inode_table.proofs.Listings.{listing-change}
use Rattle.inode_table.proofs.table.InodeTable.set_size.Goals as goal

pub invariant_of-self : goal.invariant_of-self
invariant_of-self c =
    let inside = c.self.inside in (
      rw c.set_size.ensures (table-change inside.files inside.next c.args.key c.args.size inside.entries.items c.self.invariant.0),
      rw (c.set_size.ensures, listing-change c.args.key c.args.size inside.entries.items) c.self.invariant.1,
    )
