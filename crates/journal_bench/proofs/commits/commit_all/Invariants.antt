use Rattle.std.proofs.Common.{◌+◌, ◌≤◌}
use Rattle.journal_bench.proofs.commits.commit_all.Given as goal

abbrev pub invariant-loop-number : goal.invariant-loop-number
invariant-loop-number g l = l.journal.at + l.journal.len ≤ g.D.Disk.length_of l.disk
