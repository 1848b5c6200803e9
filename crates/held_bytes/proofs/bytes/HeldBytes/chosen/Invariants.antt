use Rattle.std.proofs.Common.{if◌then◌else◌}
use Rattle.held_bytes.proofs.bytes.HeldBytes.chosen.Given as goal

abbrev pub ghost-from_clause : goal.ghost-from_clause
ghost-from_clause a = if a.by.now.0 then a.by.now.1.now.bytes else a.by.now.2.now.bytes
