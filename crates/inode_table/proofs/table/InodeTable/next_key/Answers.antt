use Rattle.std.proofs.Common.{◌≡◌, length, ap, arith}
use Rattle.inode_table.proofs.Keeping.{table-few}
use Rattle.inode_table.proofs.table.InodeTable.next_key.Goals as goal

pub lowest_free-requires-clause-few : goal.lowest_free-requires-clause-few
lowest_free-requires-clause-few c =
    let few = table-few c.self.inside.files c.self.inside.next c.self.inside.entries.items c.self.invariant.0 in
    let same : length c.as_slice.result.now ≡ length c.self.inside.entries.items = ap length c.as_slice.ensures.value in
    omega arith
