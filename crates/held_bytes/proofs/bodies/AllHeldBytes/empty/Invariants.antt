use Rattle.std.proofs.Common.{[], replicate}
use Rattle.held_bytes.proofs.bodies.AllHeldBytes.empty.Given as goal

abbrev pub ghost-from_clause : goal.ghost-from_clause
ghost-from_clause a = replicate a.by.now []
