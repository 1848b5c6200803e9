use Rattle.plain_model.specs.Plain.{written}
use Rattle.held_bytes.proofs.bytes.HeldBytes.with_written.Given as goal

abbrev pub ghost-from_clause : goal.ghost-from_clause
ghost-from_clause a = written a.by.now.1 a.by.now.2.now a.by.now.0.now.bytes
