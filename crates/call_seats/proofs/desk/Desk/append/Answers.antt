use Rattle.std.proofs.Common.{◌<◌, ◌^◌, ◌-◌, length, sym, subst}
use Rattle.call_seats.specs.Passes.{Knowledge}
use Rattle.call_seats.proofs.desk.Desk.append.Goals as goal

pub append-requires-clause-room : goal.append-requires-clause-room
append-requires-clause-room c = subst (λ (p : Knowledge). length p.seen < 2 ^ 64 - 1) (sym c.pass.view_is) c.requires.room
