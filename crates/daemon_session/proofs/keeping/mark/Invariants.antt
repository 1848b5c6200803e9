use Rattle.std.proofs.Common.{◌≡◌, ◌++◌}
use Rattle.std.specs.Prelude.{take, drop}
use Rattle.daemon_session.specs.Seats.{marked_at}
use Rattle.daemon_session.proofs.keeping.mark.Given as goal

abbrev pub invariant-loop-one : goal.invariant-loop-one
invariant-loop-one l = l.kept ≡ marked_at l.token (take l.one-index l.initial.kept) ++ drop l.one-index l.initial.kept
