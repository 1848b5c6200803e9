use Rattle.journal_fold.proofs.OneFold.{folds_lawfully}
use Rattle.journal_fold.proofs.laws.lawful_fold.Goals as goal

pub returns : goal.returns
returns c = folds_lawfully
