use Rattle.std.proofs.Common.{set}
use Rattle.held_bytes.proofs.bodies.AllHeldBytes.with_body.Given as goal

abbrev pub ghost-from_clause : goal.ghost-from_clause
ghost-from_clause a = set a.by.now.0.now.bodies a.by.now.1 a.by.now.2.now.bytes
