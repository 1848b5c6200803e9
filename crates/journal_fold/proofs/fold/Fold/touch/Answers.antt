use Rattle.std.proofs.Common.{◌≡◌, ℕ, List, [], ◌∷◌, ◌++◌, false, Some, None, sym, ◌∙◌, ap, subst}
use Rattle.std.specs.BTreeMap.{is_at}
use Rattle.std.specs.Map.{lookup}
use Rattle.std.specs.Ordering.{nat_cmp}
use Rattle.snapshot_text.specs.Files.{geometry_of}
use Rattle.journal_fold.specs.FoldedStores.{files_in}
use Rattle.journal_fold.specs.Open.{is_touched, untouched, IsOpen}
use Rattle.journal_fold.proofs.OpenStores.{touched_none, counted, within, attributes, stubs, few, touched}
use Rattle.journal_fold.proofs.fold.Fold.touch.Goals as goal

pub release-requires-clause-within : goal.release-requires-clause-within
release-requires-clause-within c =
    let out : is_touched c.args.touched.now.items c.args.ino ≡ false = sym (c.contains.ensures.value ∙ ap (λ (l : List ℕ). is_touched l c.args.ino) c.deref.ensures.value) ∙ c.if-contains.false in
    within c.args.self.now.geometry c.args.self.now.store c.args.self.now.uses c.args.touched.now.items c.args.ino c.requires out c.in-Some.file.now (sym c.in-Some.ensures.value)

pub release-requires-clause-attributes : goal.release-requires-clause-attributes
release-requires-clause-attributes c =
    let out : is_touched c.args.touched.now.items c.args.ino ≡ false = sym (c.contains.ensures.value ∙ ap (λ (l : List ℕ). is_touched l c.args.ino) c.deref.ensures.value) ∙ c.if-contains.false in
    attributes c.args.self.now.geometry c.args.self.now.store c.args.self.now.uses c.args.touched.now.items c.args.ino c.requires out c.in-Some.file.now (sym c.in-Some.ensures.value)

pub release-requires-clause-few : goal.release-requires-clause-few
release-requires-clause-few c =
    let out : is_touched c.args.touched.now.items c.args.ino ≡ false = sym (c.contains.ensures.value ∙ ap (λ (l : List ℕ). is_touched l c.args.ino) c.deref.ensures.value) ∙ c.if-contains.false in
    few c.args.self.now.geometry c.args.self.now.store c.args.self.now.uses c.args.touched.now.items c.args.ino c.requires out c.in-Some.file.now (sym c.in-Some.ensures.value)

pub release-requires-clause-stubs : goal.release-requires-clause-stubs
release-requires-clause-stubs c =
    let out : is_touched c.args.touched.now.items c.args.ino ≡ false = sym (c.contains.ensures.value ∙ ap (λ (l : List ℕ). is_touched l c.args.ino) c.deref.ensures.value) ∙ c.if-contains.false in
    stubs c.args.self.now.geometry c.args.self.now.store c.args.self.now.uses c.args.touched.now.items c.args.ino c.requires out c.in-Some.file.now (sym c.in-Some.ensures.value)

pub returns-in-Some-clause-open : goal.returns-in-Some-clause-open
returns-in-Some-clause-open c =
    let s = c.args.self.now.store in
    let u = c.args.self.now.uses in
    let ts = c.args.touched.now.items in
    let out : is_touched ts c.args.ino ≡ false = sym (c.contains.ensures.value ∙ ap (λ (l : List ℕ). is_touched l c.args.ino) c.deref.ensures.value) ∙ c.if-contains.false in
    let here : lookup (is_at (nat_cmp c.args.ino)) s.files.entries ≡ Some c.in-Some.file.now = sym c.in-Some.ensures.value in
    let left = c.release.ensures (geometry_of c.args.self.now.geometry) (untouched (ts ++ c.args.ino ∷ []) (files_in s)) (counted c.args.self.now.geometry s u ts c.args.ino c.requires out c.in-Some.file.now here) in
    subst (IsOpen c.args.self.now.geometry s c.release.new.self) (sym c.in_ok-push.ensures.items) (touched c.args.self.now.geometry s u ts c.args.ino c.requires out c.in-Some.file.now here c.release.new.self left)

pub returns-in_default-clause-open : goal.returns-in_default-clause-open
returns-in_default-clause-open c =
    let ts = c.args.touched.now.items in
    let out : is_touched ts c.args.ino ≡ false = sym (c.contains.ensures.value ∙ ap (λ (l : List ℕ). is_touched l c.args.ino) c.deref.ensures.value) ∙ c.if-contains.false in
    let none : lookup (is_at (nat_cmp c.args.ino)) c.args.self.now.store.files.entries ≡ None = sym (rw c.in_default.is at c.get.ensures.value) in
    subst (IsOpen c.args.self.now.geometry c.args.self.now.store c.args.self.now.uses) (sym c.in_ok-push.ensures.items) (touched_none c.args.self.now.geometry c.args.self.now.store c.args.self.now.uses ts c.args.ino c.requires out none)
