use Rattle.std.proofs.Common.{◌≡◌, ◌∷◌, ap, length, arith}
use Rattle.std.proofs.lemmas.Result.{err_from_is_err_and}
use Rattle.std.specs.Vec.Iter.{into_iter_items}
use Rattle.meta_store.proofs.AppliedRecords.{IsTaking, taking-next, taking-stops, taking-judged, told_on}
use Rattle.meta_store.proofs.catalog.Catalog.apply_all.Goals.{After-drop-record-iterator}
use Rattle.meta_store.proofs.catalog.Catalog.apply_all.Goals as goal

taking : (c : After-drop-record-iterator) → IsTaking c.args.records c.args.self.now (c.in-Some.record ∷ into_iter_items c.next.new.self) c.loop-record.self
taking c = rw c.in-Some.ensures.steps.0 at c.loop-record.invariant.taking

pub returns-in_err-apply-clause-refused : goal.returns-in_err-apply-clause-refused
returns-in_err-apply-clause-refused c = λ why.
    let p = err_from_is_err_and c.from_residual.result c.from_residual.ensures.1 in
    rw (p.1, p.2, ← taking-judged _ _ _ _ _ (taking c)) (told_on _ _ _ (c.in_err-apply.ensures.refused why))

pub returns-in_err-apply-clause-err : goal.returns-in_err-apply-clause-err
returns-in_err-apply-clause-err c =
    let p = err_from_is_err_and c.from_residual.result c.from_residual.ensures.1 in
    let first : c.loop-record.self ≡ c.args.self.now = taking-stops _ _ _ _ _ (taking c) (λ is. let ok = c.in_err-apply.ensures.sure is in absurd cc) in
    rw (p.1, c.in_err-apply.ensures.err) first

pub loop-record-preserved : goal.loop-record-preserved
loop-record-preserved c =
    let so_far = c.loop-record.invariant in
    let next = c.in-Some.ensures.steps in
    record {
      left = omega (arith, so_far.left, next.1, ap length next.0);
      taking = taking-next _ _ _ _ _ _ (rw next.0 at so_far.taking) c.in_ok-apply.ensures.judged c.in_ok-apply.ensures.taken;
    }
