use Rattle.marked_history.proofs.KeepingAll as law
use Rattle.marked_history.proofs.laws.served_keeps_all.Goals as goal

pub returns : goal.returns
returns c = law.served_keeps_all
