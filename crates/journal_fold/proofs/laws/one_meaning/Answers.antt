use Rattle.journal_fold.proofs.OneFold.{one_meaning}
use Rattle.journal_fold.proofs.laws.one_meaning.Goals as goal

pub returns : goal.returns
returns c = one_meaning
