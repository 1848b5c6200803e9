use Rattle.deed_laws.proofs.UnknownTokens as law
use Rattle.deed_laws.proofs.laws.loses_no_answer.Goals as goal

pub returns : goal.returns
returns c = law.loses_no_answer
