use Rattle.meta_store.proofs.MappedAhead.{judged_at_its_end}
use Rattle.meta_store.proofs.batches.judged_at_its_end.Goals as goal

pub returns : goal.returns
returns c = λ places. judged_at_its_end places
