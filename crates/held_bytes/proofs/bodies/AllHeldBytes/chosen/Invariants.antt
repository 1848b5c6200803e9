use Rattle.std.proofs.Common.{if◌then◌else◌}
use Rattle.held_bytes.proofs.bodies.AllHeldBytes.chosen.Given as goal

abbrev pub ghost-from_clause : goal.ghost-from_clause
ghost-from_clause a = if a.by.now.0 then a.by.now.1.now.bodies else a.by.now.2.now.bodies
