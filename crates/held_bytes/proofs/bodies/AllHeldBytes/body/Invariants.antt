use Rattle.std.proofs.Common.{[], get_or}
use Rattle.held_bytes.proofs.bodies.AllHeldBytes.body.Given as goal

abbrev pub ghost-from_clause : goal.ghost-from_clause
ghost-from_clause a = get_or a.by.now.0.now.bodies a.by.now.1 []
