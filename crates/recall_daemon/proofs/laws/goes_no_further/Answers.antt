use Rattle.recall_daemon.proofs.Nearing as law
use Rattle.recall_daemon.proofs.laws.goes_no_further.Goals as goal

pub returns : goal.returns
returns c = law.goes_no_further
