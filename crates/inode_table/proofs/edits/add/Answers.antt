use Rattle.std.proofs.Common.{◌≡◌, ◌∙◌, ℕ, List, Some, subst}
use Rattle.std.specs.Map.{lookup, KeepsOthers}
use Rattle.std.specs.Str.{bytes_eq}
use Rattle.std.specs.Global.{Vec}
use Rattle.inode_table.proofs.Indexing.{indexes-put}
use Rattle.inode_table.proofs.edits.add.Goals as goal

pub returns-clause-index : goal.returns-clause-index
returns-clause-index c =
    let is : c.in_ok-name.name.items ≡ c.args.entry.name = c.in_ok-name.ensures.items ∙ c.as_slice.ensures in
    let Here : List ℕ → Type 0 = λ n. lookup (λ (k : Vec ℕ). bytes_eq n k.items) c.insert.new.self.entries ≡ Some c.args.entry.key in
    let Keeps : List ℕ → Type 0 = λ n. KeepsOthers (λ (x : Vec ℕ) (y : Vec ℕ). bytes_eq x.items y.items) (λ (k : Vec ℕ). bytes_eq n k.items) c.args.keys.now.entries c.insert.new.self.entries in
    rw (c.put.ensures, c.reserve.ensures.items)
    (indexes-put c.args.entry c.args.entries.now.items c.args.keys.now.entries c.insert.new.self.entries c.requires.name c.requires.index (subst Here is c.in_ok-insert.ensures.updates.1) (subst Keeps is c.in_ok-insert.ensures.updates.3))
