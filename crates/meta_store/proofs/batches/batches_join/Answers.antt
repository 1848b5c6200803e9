use Rattle.meta_store.proofs.JoinedBatches.{joined}
use Rattle.meta_store.proofs.batches.batches_join.Goals as goal

pub returns : goal.returns
returns c = λ geometry s n m rs ss. joined geometry s n m rs ss
