use Rattle.std.proofs.Common.{sym, ◌∙◌}
use Rattle.call_seats.proofs.desk.Desk.publish.Goals as goal

pub append-requires-clause-room : goal.append-requires-clause-room
append-requires-clause-room c = c.requires.room c.in-Some.pass (sym c.take.ensures.value ∙ c.in-Some.is)
