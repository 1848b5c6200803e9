use Rattle.std.proofs.Common.{Option, sym, ap}
use Rattle.std.specs.Option.{option_map}
use Rattle.inode_table.specs.declared.entries.FileEntry.{FileEntry}
use Rattle.inode_table.proofs.PlacesOfFiles.{stands-found}
use Rattle.inode_table.proofs.entries.size.Goals as goal

pub returns-in-Some : goal.returns-in-Some
returns-in-Some c = ap (λ (o : Option FileEntry). option_map (λ f. f.size) o) (sym (stands-found c.args.key c.in-Some.place c.index-entries-place.result c.args.entries.now c.in-Some.ensures.place))
