use Rattle.std.proofs.Common.{Some, sym, ◌∙◌, ap}
use Rattle.inode_table.specs.declared.entries.FileEntry.{FileEntry}
use Rattle.inode_table.proofs.Listings.{drop-absent}
use Rattle.inode_table.proofs.PlacesOfFiles.{stands-found, stands-dropped}
use Rattle.inode_table.proofs.entries.take_out.Goals as goal

pub returns-in-Some-clause-taken : goal.returns-in-Some-clause-taken
returns-in-Some-clause-taken c =
    ap (λ (f : FileEntry). Some f) c.remove.ensures.value
    ∙ sym (stands-found c.args.key c.in-Some.place c.remove.result c.args.entries.now.items (rw c.as_slice.ensures.value at c.in-Some.ensures.place))

pub returns-in-Some-clause-rest : goal.returns-in-Some-clause-rest
returns-in-Some-clause-rest c = c.remove.ensures.items ∙ stands-dropped c.args.key c.in-Some.place c.args.entries.now.items (rw c.as_slice.ensures.value at c.in-Some.ensures.place)

pub returns-in-None-clause-rest : goal.returns-in-None-clause-rest
returns-in-None-clause-rest c = sym (drop-absent c.args.key c.args.entries.now.items (rw c.as_slice.ensures.value at c.in-None.ensures.place))
