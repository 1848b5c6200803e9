use Rattle.std.proofs.Common.{ap}
use Rattle.inode_table.specs.Table.{Table}
use Rattle.meta_store.proofs.TakenFiles.{table-has}
use Rattle.meta_store.proofs.validity.has_name.Goals as goal

pub returns : goal.returns
returns c = rw (c.is_some.ensures, c.find.ensures) (table-has c.args.catalog.now.files c.args.name.now c.names.result.now (ap (λ (t : Table). t.files) c.names.ensures))
