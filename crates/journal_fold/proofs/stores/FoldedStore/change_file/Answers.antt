use Rattle.std.proofs.Common.{◌≡◌, ℕ, List, Option, Some, None, refl, sym, ◌∙◌, ap}
use Rattle.std.specs.Prelude.{is_some}
use Rattle.std.specs.BTreeMap.{insert_entry, is_at}
use Rattle.std.specs.Map.{lookup, remove_entry, values_of}
use Rattle.std.specs.Ordering.{nat_cmp}
use Rattle.inode_table.specs.Listing.{has_inode}
use Rattle.journal_records.specs.Texts.{inode_of}
use Rattle.snapshot_text.specs.Snapshots.{SnapshotFile}
use Rattle.meta_store.specs.Batches.{file_changed}
use Rattle.meta_store.specs.Validity.{names_in}
use Rattle.journal_fold.specs.FoldedStores.{files_in}
use Rattle.journal_fold.proofs.FoldedEdits.{in_map, change_files}
use Rattle.journal_fold.proofs.FoldedNames.{held_change}
use Rattle.journal_fold.proofs.stores.FoldedStore.change_file.Goals as goal
use Rattle.journal_fold.proofs.stores.FoldedStore.change_file.Goals.{Joined-branch-3}

there : (c : Joined-branch-3) → lookup (is_at (nat_cmp (inode_of c.args.change))) c.args.self.now.files.entries ≡ Some c.in-Some.file
there c = ap (λ (n : ℕ). lookup (is_at (nat_cmp n)) c.args.self.now.files.entries) (sym c.ino-ino.ensures) ∙ sym c.remove.ensures.value ∙ c.in-Some.is

entries_are : (c : Joined-branch-3) → c.insert.new.self.entries ≡ insert_entry nat_cmp (remove_entry (is_at (nat_cmp (inode_of c.args.change))) c.args.self.now.files.entries) (inode_of c.args.change) (file_changed c.args.change c.in-Some.file)
entries_are c =
    c.in_ok-insert.ensures.entries
    ∙ ap (λ (es : List (ℕ × SnapshotFile)). insert_entry nat_cmp es c.ino-ino.result c.change.new.self) c.remove.ensures.entries
    ∙ ap (λ (n : ℕ). insert_entry nat_cmp (remove_entry (is_at (nat_cmp n)) c.args.self.now.files.entries) n c.change.new.self) c.ino-ino.ensures
    ∙ ap (λ (f : SnapshotFile). insert_entry nat_cmp (remove_entry (is_at (nat_cmp (inode_of c.args.change))) c.args.self.now.files.entries) (inode_of c.args.change) f) c.in_ok-change.ensures

pub returns-in_default-clause-there : goal.returns-in_default-clause-there
returns-in_default-clause-there c =
    let none : lookup (is_at (nat_cmp c.ino-ino.result)) c.args.self.now.files.entries ≡ None = sym c.remove.ensures.value ∙ c.in_default.is in
    ap (λ (o : Option SnapshotFile). is_some o) (sym none) ∙ in_map c.ino-ino.result c.args.self.now.files.entries c.requires.held.keyed
    ∙ ap (λ (n : ℕ). has_inode n (names_in (files_in c.args.self.now))) c.ino-ino.ensures

pub returns-clause-held : goal.returns-clause-held
returns-clause-held c =
    held_change c.args.self.now (record { number = c.args.self.now.number; next = c.args.self.now.next; files = c.insert.new.self; names = c.args.self.now.names }) c.requires.held (inode_of c.args.change) c.in-Some.file (there c) c.args.change (entries_are c) refl

pub returns-clause-there : goal.returns-clause-there
returns-clause-there c = ap (λ (o : Option SnapshotFile). is_some o) (sym (there c)) ∙ in_map (inode_of c.args.change) c.args.self.now.files.entries c.requires.held.keyed

pub returns-clause-files : goal.returns-clause-files
returns-clause-files c = λ _.
    ap (λ (es : List (ℕ × SnapshotFile)). values_of es) (entries_are c)
    ∙ change_files 0 (inode_of c.args.change) c.in-Some.file (file_changed c.args.change) c.args.self.now.files.entries c.requires.held.keyed c.requires.held.ascend (there c)
