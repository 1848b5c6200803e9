use Rattle.std.proofs.Common.{arith}
use Rattle.inode_table.proofs.Keeping.{table-few}
use Rattle.inode_table.proofs.table.InodeTable.len.Goals as goal

pub returns-clause-limit : goal.returns-clause-limit
returns-clause-limit c = let few = table-few c.self.inside.files c.self.inside.next c.self.inside.entries.items c.self.invariant.0 in rw (← c.self.view_is) (omega arith)

pub overflow_cast-result : goal.overflow_cast-result
overflow_cast-result c = let few = table-few c.self.inside.files c.self.inside.next c.self.inside.entries.items c.self.invariant.0 in omega arith
