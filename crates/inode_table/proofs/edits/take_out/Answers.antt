use Rattle.std.proofs.Common.{◌≡◌, ℕ, List, None, sym, subst}
use Rattle.std.specs.Map.{lookup, KeepsOthers}
use Rattle.std.specs.Str.{bytes_eq}
use Rattle.std.specs.Global.{Vec}
use Rattle.inode_table.proofs.Indexing.{indexes-drop}
use Rattle.inode_table.proofs.Listings.{drop-absent}
use Rattle.inode_table.proofs.edits.take_out.Goals as goal

pub returns-in_err-entry-clause-index : goal.returns-in_err-entry-clause-index
returns-in_err-entry-clause-index c = rw (c.take_out.ensures.rest, drop-absent c.args.key c.args.entries.now.items (sym c.in_err-entry.ensures.taken)) c.requires.index

pub returns-clause-index : goal.returns-clause-index
returns-clause-index c =
    let Here : List ℕ → Type 0 = λ n. lookup (λ (k : Vec ℕ). bytes_eq n k.items) c.remove-key.new.self.entries ≡ None in
    let Keeps : List ℕ → Type 0 = λ n. KeepsOthers (λ (x : Vec ℕ) (y : Vec ℕ). bytes_eq x.items y.items) (λ (k : Vec ℕ). bytes_eq n k.items) c.args.keys.now.entries c.remove-key.new.self.entries in
    rw c.take_out.ensures.rest
    (indexes-drop c.args.key c.in_ok-entry.entry c.args.entries.now.items c.args.keys.now.entries c.remove-key.new.self.entries c.requires.differ (sym c.in_ok-entry.ensures.taken) c.requires.index (subst Here c.as_slice.ensures c.remove-key.ensures.updates.1) (subst Keeps c.as_slice.ensures c.remove-key.ensures.updates.3))
