use Rattle.std.proofs.Common.{◌≡◌, ◌++◌}
use Rattle.std.specs.Prelude.{take, drop}
use Rattle.daemon_session.specs.Seats.{all_marked}
use Rattle.daemon_session.proofs.keeping.mark_all.Given as goal

abbrev pub invariant-loop-one : goal.invariant-loop-one
invariant-loop-one l = l.kept ≡ all_marked l.marked (take l.one-index l.initial.kept) ++ drop l.one-index l.initial.kept
