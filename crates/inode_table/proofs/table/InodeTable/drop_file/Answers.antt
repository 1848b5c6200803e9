use Rattle.hsm_types.specs.Keyed.{find_key}
use Rattle.inode_table.proofs.Keeping.{table-drop, none-had}
use Rattle.inode_table.proofs.Listings.{drop-absent}
use Rattle.inode_table.proofs.table.InodeTable.drop_file.Goals as goal

pub invariant_of-self : goal.invariant_of-self
invariant_of-self c = (rw c.take_out.ensures.rest (table-drop c.self.inside.files c.self.inside.next c.args.key c.self.inside.entries.items c.self.invariant.0), c.take_out.ensures.index)

pub returns-clause-none : goal.returns-clause-none
returns-clause-none c = none-had c.take_out.result (find_key (λ f. f.key) c.args.key c.self.inside.entries.items) c.take_out.ensures.name (λ none. rw (c.take_out.ensures.rest, drop-absent c.args.key c.self.inside.entries.items none) c.self.view_is)
