use Rattle.std.proofs.Common.{◌≡◌}
use Rattle.dm_sessions.proofs.Lookups.{lost}
use Rattle.dm_sessions.proofs.changes.lose_kinds.Given as goal

abbrev pub invariant-loop-i : goal.invariant-loop-i
invariant-loop-i l = l.live.entries ≡ lost l.kinds l.i l.fn.live.entries
