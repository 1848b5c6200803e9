use Rattle.call_lists.proofs.Making.{calls_grow}
use Rattle.call_lists.proofs.laws.calls_grow.Goals as goal

pub returns : goal.returns
returns c = calls_grow
