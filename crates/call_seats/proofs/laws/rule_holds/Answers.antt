use Rattle.call_seats.proofs.Orderly.{orderly}
use Rattle.call_seats.proofs.laws.rule_holds.Goals as goal

pub returns : goal.returns
returns c = orderly
