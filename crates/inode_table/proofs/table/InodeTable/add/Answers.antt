use Rattle.std.proofs.Common.{◌≡◌, ◌∙◌}
use Rattle.inode_table.proofs.Keeping.{table-put}
use Rattle.inode_table.proofs.table.InodeTable.add.Goals as goal

pub invariant_of-self-2 : goal.invariant_of-self-2
invariant_of-self-2 c =
    let is : c.from-name.result ≡ c.args.name.now = c.from-name.ensures ∙ c.in_ok-from_slice.ensures.items ∙ c.as_slice.ensures in
    let inside = c.self.inside in (
      rw (c.max-self-inside.ensures, c.in_ok-add.ensures.ok)
          (table-put inside.files inside.next (record { key = c.args.key; name = c.from-name.result; size = c.args.size }) inside.entries.items c.self.invariant.0 c.requires.low (rw (← c.self.view_is) at c.requires.high)
          (rw (← c.self.view_is) at c.requires.inode) (rw is (rw (← c.self.view_is) at c.requires.name))),
      c.in_ok-add.ensures.index,
    )
