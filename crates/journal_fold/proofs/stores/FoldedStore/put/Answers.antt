use Rattle.std.proofs.Common.{◌≡◌, ℕ, List, Some, refl, ◌∙◌, ap, subst}
use Rattle.std.specs.BTreeMap.{insert_entry}
use Rattle.std.specs.Global.{Vec}
use Rattle.std.specs.Map.{lookup, KeepsOthers, values_of}
use Rattle.std.specs.Ordering.{nat_cmp}
use Rattle.std.specs.Str.{bytes_eq}
use Rattle.hsm_types.specs.declared.keys.FileKey.{FileKey}
use Rattle.snapshot_text.specs.Snapshots.{SnapshotFile}
use Rattle.journal_fold.proofs.FoldedEdits.{put_files}
use Rattle.journal_fold.proofs.FoldedNames.{held_put}
use Rattle.journal_fold.proofs.stores.FoldedStore.put.Goals as goal
use Rattle.journal_fold.proofs.stores.FoldedStore.put.Goals.{Joined-branch-4}

entries_are : (c : Joined-branch-4) → c.insert-2.new.self.entries ≡ insert_entry nat_cmp c.args.self.now.files.entries c.args.file.key.ino c.args.file
entries_are c = c.in_ok-insert-2.ensures.entries ∙ ap (λ (k : FileKey). insert_entry nat_cmp c.args.self.now.files.entries k.ino c.args.file) c.key-key.ensures

pub returns-clause-held : goal.returns-clause-held
returns-clause-held c =
    let spelled : c.in_ok-name.name.items ≡ c.args.file.name = c.in_ok-name.ensures.items ∙ c.as_slice.ensures ∙ c.name.ensures in
    let Here : List ℕ → Type 0 = λ n. lookup (λ (k : Vec ℕ). bytes_eq n k.items) c.insert.new.self.entries ≡ Some c.args.file.key in
    let Keeps : List ℕ → Type 0 = λ n. KeepsOthers (λ (x : Vec ℕ) (y : Vec ℕ). bytes_eq x.items y.items) (λ (k : Vec ℕ). bytes_eq n k.items) c.args.self.now.names.entries c.insert.new.self.entries in
    held_put c.args.self.now (record { number = c.args.self.now.number; next = c.args.self.now.next; files = c.insert-2.new.self; names = c.insert.new.self }) c.requires.held c.args.file c.requires.inode c.requires.name (entries_are c)
    (subst Here spelled (c.in_ok-insert.ensures.updates.1 ∙ ap (λ (k : FileKey). Some k) c.key-key.ensures)) (subst Keeps spelled c.in_ok-insert.ensures.updates.3)

pub returns-clause-files : goal.returns-clause-files
returns-clause-files c =
    ap (λ (es : List (ℕ × SnapshotFile)). values_of es) (entries_are c) ∙ put_files c.args.file.key.ino c.args.file c.args.self.now.files.entries c.requires.held.keyed refl c.requires.inode
