use Rattle.std.proofs.Common.{ℕ, subst}
use Rattle.std.proofs.lemmas.Option.{same_Some}
use Rattle.journal_fold.specs.Folds.{LeadsNowhere, FailsAt}
use Rattle.journal_fold.specs.Open.{fold_said}
use Rattle.journal_fold.proofs.GoingOn.{stops}
use Rattle.journal_fold.proofs.fold.Fold.take_all.Goals as goal

pub returns-then-not-branch-clause-fails : goal.returns-then-not-branch-clause-fails
returns-then-not-branch-clause-fails c = λ place is.
    let so_far = c.loop-batch.invariant in
    let g = c.args.self.now.geometry in
    let t = fold_said c.loop-batch.self in
    let b = c.batch-item.result in
    let nowhere : LeadsNowhere g t b = subst (λ (k : ℕ). LeadsNowhere k t b) so_far.geometry (c.in_ok-take.ensures.nowhere c.if-not-branch.true) in
    subst (FailsAt g (fold_said c.args.self.now) c.args.batches.now) (same_Some b.place place is) (stops g (fold_said c.args.self.now) c.args.batches.now t t c.loop-batch.batch-index b c.loop-batch-test.true c.batch-item.is so_far.going nowhere)
