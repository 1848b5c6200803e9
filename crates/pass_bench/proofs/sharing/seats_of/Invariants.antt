use Rattle.std.proofs.Common.{All}
use Rattle.pass_bench.specs.Ours.{IsOurs}
use Rattle.pass_bench.proofs.sharing.seats_of.Given as goal

abbrev pub invariant-loop-thread : goal.invariant-loop-thread
invariant-loop-thread g l = All (IsOurs g.N.Named.table l.fn.shared.callers) l.rest.items
