use Rattle.std.proofs.Common.{◌≡◌}
use Rattle.std.specs.Prelude.{vec_capacity}
use Rattle.hsm_types.specs.Messages.{takes}
use Rattle.dm_sessions.proofs.Moves.{AreParted}
use Rattle.dm_sessions.proofs.moving.move_kinds.Given as goal

abbrev pub invariant-loop : goal.invariant-loop
invariant-loop l = record {
  parted : AreParted (λ m. takes l.kinds m.kind) l.fn.from.items l.fn.to.items l.from.items l.to.items l.counter;
  room : vec_capacity l.to ≡ vec_capacity l.fn.to;
}
