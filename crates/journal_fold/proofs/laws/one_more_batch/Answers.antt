use Rattle.journal_fold.proofs.OneFold.{folds_more}
use Rattle.journal_fold.proofs.laws.one_more_batch.Goals as goal

pub returns : goal.returns
returns c = folds_more
