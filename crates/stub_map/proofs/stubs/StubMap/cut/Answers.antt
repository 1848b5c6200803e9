use Rattle.std.proofs.Common.{◌∙◌, sym}
use Rattle.stub_map.proofs.Entries.{below-without, none-below, fewer-without}
use Rattle.stub_map.proofs.stubs.StubMap.cut.Goals as goal

pub loop-segment-smaller : goal.loop-segment-smaller
loop-segment-smaller c = rw c.remove.ensures (fewer-without c.in-Some.segment c.loop-segment.self c.in-Some.ensures.1)

pub loop-segment-preserved : goal.loop-segment-preserved
loop-segment-preserved c = rw c.remove.ensures (below-without c.args.from c.in-Some.segment c.loop-segment.self c.in-Some.ensures.0 ∙ c.loop-segment.invariant)

pub returns : goal.returns
returns c = sym (none-below c.args.from c.loop-segment.self c.in_default.ensures) ∙ c.loop-segment.invariant
