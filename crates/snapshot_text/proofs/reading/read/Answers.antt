use Rattle.std.proofs.Common.{arith}
use Rattle.std.proofs.lemmas.Result.{err_from_is_err_and}
use Rattle.snapshot_text.proofs.ReadSnapshots.{is_read, one, is_refused}
use Rattle.snapshot_text.proofs.reading.read.Goals as goal

pub returns-clause-found : goal.returns-clause-found
returns-clause-found c = is_read _ _ (λ i. omega (arith, c.type_inv.area i)) c.in_ok-snapshot.ensures

pub returns-clause-only : goal.returns-clause-only
returns-clause-only c = λ t. one _ _ t (is_read _ _ (λ i. omega (arith, c.type_inv.area i)) c.in_ok-snapshot.ensures)

pub returns-in_err-snapshot-clause-refused : goal.returns-in_err-snapshot-clause-refused
returns-in_err-snapshot-clause-refused c = let p = err_from_is_err_and c.from_residual.result c.from_residual.ensures.1 in rw (p.1, p.2) (is_refused _ c.in_err-snapshot.field-0.0 c.in_err-snapshot.ensures)
