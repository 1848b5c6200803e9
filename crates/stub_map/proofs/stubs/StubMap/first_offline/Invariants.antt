use Rattle.std.proofs.Common.{◌≤◌, ◌-◌}
use Rattle.stub_map.specs.States.{HereBetween}
use Rattle.stub_map.proofs.stubs.StubMap.first_offline.Given as goal

abbrev pub invariant-loop-segment : goal.invariant-loop-segment
invariant-loop-segment l = (l.from ≤ l.start) × HereBetween l.from l.start l.self

abbrev pub decreases-loop-segment : goal.decreases-loop-segment
decreases-loop-segment l = l.to - l.start
