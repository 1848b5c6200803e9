use Rattle.recall_daemon.proofs.Sound as law
use Rattle.recall_daemon.proofs.laws.works_where_seated.Goals as goal

pub returns : goal.returns
returns c = law.works_where_seated
