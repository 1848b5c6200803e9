use Rattle.std.proofs.Common.{◌≡◌}
use Rattle.thread_tests.proofs.recalling.punch.Given as goal

abbrev pub invariant-loop-sid : goal.invariant-loop-sid
invariant-loop-sid g l = l.pass.table ≡ g.N.Named.table
