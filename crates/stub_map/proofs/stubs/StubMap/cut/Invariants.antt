use Rattle.std.proofs.Common.{◌≡◌, length}
use Rattle.hsm_types.specs.Stubs.{stubs_below}
use Rattle.stub_map.proofs.stubs.StubMap.cut.Given as goal

abbrev pub invariant-loop-segment : goal.invariant-loop-segment
invariant-loop-segment l = stubs_below l.from l.self ≡ stubs_below l.from l.initial.self

abbrev pub decreases-loop-segment : goal.decreases-loop-segment
decreases-loop-segment l = length l.self
