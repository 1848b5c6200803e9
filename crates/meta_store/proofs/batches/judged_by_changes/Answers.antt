use Rattle.meta_store.proofs.JudgedBatches.{judged_by_changes}
use Rattle.meta_store.proofs.batches.judged_by_changes.Goals as goal

pub returns : goal.returns
returns c = λ geometry s number rs. judged_by_changes geometry s number rs
