use Rattle.recall_daemon.proofs.Nearing as law
use Rattle.recall_daemon.proofs.laws.each_act_nears.Goals as goal

pub returns : goal.returns
returns c = law.each_act_nears
