use Rattle.std.proofs.Common.{◌≤◌, ◌+◌, length, take}
use Rattle.indexmap.specs.IndexMap.{spare}
use Rattle.hsm_types.specs.Sessions.{with_tokens}
use Rattle.dm_sessions.proofs.Moves.{AreHanded}
use Rattle.dm_sessions.proofs.moving.hand_out.Given as goal

abbrev pub invariant-loop : goal.invariant-loop
invariant-loop l = record {
  handed : AreHanded l.fn.queue l.fn.outstanding.entries l.queue l.outstanding.entries l.counter;
  room : spare l.fn.outstanding ≤ spare l.outstanding + length (with_tokens (take l.counter l.fn.queue));
}
