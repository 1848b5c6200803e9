use Rattle.journal_fold.proofs.OneStore.{one_store}
use Rattle.journal_fold.proofs.laws.one_store.Goals as goal

pub returns : goal.returns
returns c = one_store
