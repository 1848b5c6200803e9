use Rattle.std.proofs.Common.{◌≡◌, ℕ, List, [], true, false, Result, Ok, Err, sym, ◌∙◌, ap, subst, arith}
use Rattle.std.specs.Prelude.{IfOk}
use Rattle.journal_records.specs.Places.{AreRecords}
use Rattle.journal_records.specs.declared.refusals.RecordRefusal.{RecordRefusal}
use Rattle.journal_fold.specs.declared.stores.FoldedStore.{FoldedStore}
use Rattle.journal_fold.specs.Folds.{LeadsTo, LeadsNowhere}
use Rattle.journal_fold.specs.FoldedStores.{store_said}
use Rattle.journal_fold.specs.Open.{IsOpen, AreLawfulTogether}
use Rattle.journal_fold.proofs.LawfulFolds.{under, no_records, never_applies, never_lawful, leads}
use Rattle.journal_fold.proofs.fold.Fold.take.Goals as goal

on_ok : {T E : Type 0} (P Q : T → Type 0) (r : Result T E) → IfOk r P → ((x : T) → P x → Q x) → IfOk r Q
on_ok P Q (Ok x) p to = to x p
on_ok P Q (Err e) p to = tt

pub returns-in-Err-Bad-clause-nowhere : goal.returns-in-Err-Bad-clause-nowhere
returns-in-Err-Bad-clause-nowhere c = λ _.
    let b = c.args.batch.now in
    let bad = c.read_all.ensures.bad c.in-Err-Bad.field-0-0 (c.in-Err-Bad.is ∙ ap (λ (e : RecordRefusal). Err e) c.in-Err-Bad.field-0-is) in
    no_records c.args.self.now.geometry c.args.self.now.store b (λ rs are. bad.1 rs (subst (λ (l : List ℕ). AreRecords l b.count rs) (sym c.as_slice.ensures) are))

pub returns-then-not-branch-clause-nowhere : goal.returns-then-not-branch-clause-nowhere
returns-then-not-branch-clause-nowhere c = λ _.
    let b = c.args.batch.now in
    let are : AreRecords b.records b.count c.in-Ok.records = subst (λ (l : List ℕ). AreRecords l b.count c.in-Ok.records) c.as_slice.ensures c.in-Ok.ensures.read in
    never_applies c.args.self.now.geometry c.args.self.now.store b c.in-Ok.records are (c.in_ok-take_records.ensures.refused c.if-not-branch.true)

pub returns-clause-leads : goal.returns-clause-leads
returns-clause-leads c =
    let b = c.args.batch.now in
    let s = c.args.self.now.store in
    let g = c.args.self.now.geometry in
    let t = c.take_records.new.self.store in
    let v = c.settle.new.self in
    let are : AreRecords b.records b.count c.in-Ok.records = subst (λ (l : List ℕ). AreRecords l b.count c.in-Ok.records) c.as_slice.ensures c.in-Ok.ensures.read in
    let taken = c.in_ok-take_records.ensures in
    let same : v.geometry ≡ g = c.settle.ensures.geometry ∙ c.take_records.ensures.geometry in
    on_ok (λ yes. yes ≡ true → IsOpen v.geometry v.store v.uses []) (λ yes. yes ≡ true → LeadsTo g (store_said s) b (store_said v.store)) c.settle.result c.settle.ensures.open
    (λ yes open_at is.
    let here : IsOpen g (under b.number t) v.uses [] = subst (λ (k : ℕ). IsOpen k (under b.number t) v.uses []) same (subst (λ (x : FoldedStore). IsOpen v.geometry x v.uses []) c.settle.ensures.store (open_at is)) in
    subst (λ (x : FoldedStore). LeadsTo g (store_said s) b (store_said x)) (sym c.settle.ensures.store)
    (leads g s b c.in-Ok.records are t v.uses (omega (arith, c.if-batch-self.false)) (omega (arith, c.if-batch-gt-LAST_NUMBER.false)) (taken.apply c.if-not-branch.false) (taken.changed c.if-not-branch.false) here))

pub returns-clause-nowhere : goal.returns-clause-nowhere
returns-clause-nowhere c =
    let b = c.args.batch.now in
    let s = c.args.self.now.store in
    let g = c.args.self.now.geometry in
    let t = c.take_records.new.self.store in
    let are : AreRecords b.records b.count c.in-Ok.records = subst (λ (l : List ℕ). AreRecords l b.count c.in-Ok.records) c.as_slice.ensures c.in-Ok.ensures.read in
    let taken = c.in_ok-take_records.ensures in
    on_ok (λ yes. yes ≡ false → AreLawfulTogether c.take_records.new.self.geometry (under b.number t) → ⊥) (λ yes. yes ≡ false → LeadsNowhere g (store_said s) b) c.settle.result c.settle.ensures.refused
    (λ yes never is. never_lawful g s b c.in-Ok.records are t (taken.changed c.if-not-branch.false) (λ all. never is (subst (λ (k : ℕ). AreLawfulTogether k (under b.number t)) (sym c.take_records.ensures.geometry) all)))
