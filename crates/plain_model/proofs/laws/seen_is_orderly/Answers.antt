use Rattle.plain_model.proofs.AnyDisk as law
use Rattle.plain_model.proofs.laws.seen_is_orderly.Goals as goal

pub returns : goal.returns
returns c = law.seen_is_orderly
