use Rattle.std.proofs.Common.{◌≡◌, ℕ, ◌∷◌, length, true, sym, ◌∙◌, ap, subst, arith}
use Rattle.std.specs.Vec.Iter.{into_iter_items}
use Rattle.journal_records.specs.Texts.{inode_of}
use Rattle.journal_fold.specs.declared.stores.FoldedStore.{FoldedStore}
use Rattle.journal_fold.specs.FoldedStores.{store_said}
use Rattle.journal_fold.specs.Open.{is_touched}
use Rattle.journal_fold.proofs.OpenStores.{IsTaking, taking_next, taking_stops, record_taken}
use Rattle.journal_fold.proofs.fold.Fold.take_records.Goals as goal

pub returns-then-not-branch-clause-refused : goal.returns-then-not-branch-clause-refused
returns-then-not-branch-clause-refused c = λ _ all.
    let rs = c.args.records in
    let left = into_iter_items c.next.new.self in
    let taking : IsTaking rs (c.in-Some.record ∷ left) (store_said c.args.self.now.store) (store_said c.loop-record.self.store) = rw c.in-Some.ensures.steps.0 at c.loop-record.invariant.taking in
    let here = subst (λ (s : FoldedStore). IsTaking rs (c.in-Some.record ∷ left) (store_said c.args.self.now.store) (store_said s)) (sym c.touch.ensures.store) taking in
    taking_stops rs left c.in-Some.record (store_said c.args.self.now.store) (store_said c.touch.new.self.store) here (c.in_ok-take_record.ensures.refused c.if-not-branch.true) all

pub loop-record-preserved : goal.loop-record-preserved
loop-record-preserved c =
    let rs = c.args.records in
    let left = into_iter_items c.next.new.self in
    let so_far = c.loop-record.invariant in
    let next = c.in-Some.ensures.steps in
    let taking : IsTaking rs (c.in-Some.record ∷ left) (store_said c.args.self.now.store) (store_said c.loop-record.self.store) = rw next.0 at so_far.taking in
    let here = subst (λ (s : FoldedStore). IsTaking rs (c.in-Some.record ∷ left) (store_said c.args.self.now.store) (store_said s)) (sym c.touch.ensures.store) taking in
    let taken = c.in_ok-take_record.ensures in
    let there : is_touched c.touch.new.touched.items (inode_of c.in-Some.record) ≡ true = subst (λ (n : ℕ). is_touched c.touch.new.touched.items n ≡ true) c.ino.ensures c.in_ok-touch.ensures.touched in
    let is = c.in_ok-touch.ensures.open in
    record {
      left = omega (arith, so_far.left, next.1, ap length next.0);
      still = record_taken c.touch.new.self.geometry c.touch.new.self.store c.take_record.new.self c.touch.new.self.uses c.touch.new.touched.items c.in-Some.record is there (taken.applies c.if-not-branch.false) taken.held (taken.changed c.if-not-branch.false) (taken.last c.if-not-branch.false is.next);
      taking = taking_next rs left c.in-Some.record (store_said c.args.self.now.store) (store_said c.touch.new.self.store) (store_said c.take_record.new.self) here (taken.applies c.if-not-branch.false) (taken.changed c.if-not-branch.false);
      geometry = c.touch.ensures.geometry ∙ so_far.geometry;
    }
