use Rattle.std.proofs.Common.{◌≡◌, ℕ, List, Option, Some, None, sym, ◌∙◌, ap, subst}
use Rattle.std.specs.Prelude.{is_some}
use Rattle.std.specs.BTreeMap.{is_at}
use Rattle.std.specs.Global.{Vec}
use Rattle.std.specs.Map.{lookup, KeepsOthers, values_of}
use Rattle.std.specs.Ordering.{nat_cmp}
use Rattle.std.specs.Str.{bytes_eq}
use Rattle.snapshot_text.specs.Snapshots.{SnapshotFile}
use Rattle.journal_fold.proofs.FoldedEdits.{in_map, drop_files}
use Rattle.journal_fold.proofs.FoldedNames.{held_drop}
use Rattle.journal_fold.proofs.stores.FoldedStore.drop_file.Goals as goal

pub returns-in_default-clause-there : goal.returns-in_default-clause-there
returns-in_default-clause-there c =
    let none : lookup (is_at (nat_cmp c.args.ino)) c.args.self.now.files.entries ≡ None = sym c.remove.ensures.value ∙ c.in_default.is in
    ap (λ (o : Option SnapshotFile). is_some o) (sym none) ∙ in_map c.args.ino c.args.self.now.files.entries c.requires.keyed

pub returns-clause-held : goal.returns-clause-held
returns-clause-held c =
    let there : lookup (is_at (nat_cmp c.args.ino)) c.args.self.now.files.entries ≡ Some c.in-Some.file = sym c.remove.ensures.value ∙ c.in-Some.is in
    let spelled : c.as_slice.result.now ≡ c.in-Some.file.name = c.as_slice.ensures ∙ c.name.ensures in
    let Here : List ℕ → Type 0 = λ n. lookup (λ (k : Vec ℕ). bytes_eq n k.items) c.remove-key.new.self.entries ≡ None in
    let Keeps : List ℕ → Type 0 = λ n. KeepsOthers (λ (x : Vec ℕ) (y : Vec ℕ). bytes_eq x.items y.items) (λ (k : Vec ℕ). bytes_eq n k.items) c.args.self.now.names.entries c.remove-key.new.self.entries in
    held_drop c.args.self.now (record { number = c.args.self.now.number; next = c.args.self.now.next; files = c.remove.new.self; names = c.remove-key.new.self }) c.requires c.args.ino c.in-Some.file there c.remove.ensures.entries
    (subst Here spelled c.remove-key.ensures.updates.1) (subst Keeps spelled c.remove-key.ensures.updates.3)

pub returns-clause-there : goal.returns-clause-there
returns-clause-there c =
    let there : lookup (is_at (nat_cmp c.args.ino)) c.args.self.now.files.entries ≡ Some c.in-Some.file = sym c.remove.ensures.value ∙ c.in-Some.is in
    ap (λ (o : Option SnapshotFile). is_some o) (sym there) ∙ in_map c.args.ino c.args.self.now.files.entries c.requires.keyed

pub returns-clause-files : goal.returns-clause-files
returns-clause-files c = λ _. ap (λ (es : List (ℕ × SnapshotFile)). values_of es) c.remove.ensures.entries ∙ drop_files c.args.ino c.args.self.now.files.entries c.requires.keyed
