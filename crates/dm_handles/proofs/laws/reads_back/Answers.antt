use Rattle.dm_handles.proofs.Orders as law
use Rattle.dm_handles.proofs.laws.reads_back.Goals as goal

pub returns : goal.returns
returns c = law.reads_back
