use Rattle.std.proofs.Common.{◌≡◌}
use Rattle.thread_tests.proofs.recalling.recall.Given as goal

abbrev pub invariant-loop : goal.invariant-loop
invariant-loop g l = l.pass.table ≡ g.N.Named.table
