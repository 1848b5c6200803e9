-- The parts of a file that a snapshot spells.
use Rattle.std.proofs.Common.{◌≡◌, Result, Err, arith}
use Rattle.std.specs.Result.{IsErrAnd}

-- the error of a part is the one that is told
pub told_err : {T U E : Type 0} (r : Result T E) (from why : E) → IsErrAnd r (λ e. e ≡ from) → r ≡ Err why → ◌≡◌ {A = Result U E} (Err from) (Err why)
told_err r from why and is = grind arith
