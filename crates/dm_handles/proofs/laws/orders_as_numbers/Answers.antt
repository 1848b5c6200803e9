use Rattle.dm_handles.proofs.Orders as law
use Rattle.dm_handles.proofs.laws.orders_as_numbers.Goals as goal

pub returns : goal.returns
returns c = law.orders_as_numbers
