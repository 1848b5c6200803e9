use Rattle.journal_fold.proofs.OneFold.{one_fold}
use Rattle.journal_fold.proofs.laws.one_fold.Goals as goal

pub returns : goal.returns
returns c = one_fold
