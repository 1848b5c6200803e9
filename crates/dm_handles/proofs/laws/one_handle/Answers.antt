use Rattle.dm_handles.proofs.Orders as law
use Rattle.dm_handles.proofs.laws.one_handle.Goals as goal

pub returns : goal.returns
returns c = law.one_handle
