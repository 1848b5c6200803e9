use Rattle.held_bytes.proofs.bodies.AllHeldBytes.same.Given as goal

abbrev pub ghost-from_clause : goal.ghost-from_clause
ghost-from_clause a = a.by.now.bodies
