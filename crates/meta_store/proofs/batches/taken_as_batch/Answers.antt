use Rattle.meta_store.proofs.BatchedRecords.{taken_as_batch}
use Rattle.meta_store.proofs.batches.taken_as_batch.Goals as goal

pub returns : goal.returns
returns c = λ old new rs number later. taken_as_batch old new rs number later
