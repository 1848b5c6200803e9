use Rattle.std.proofs.Common.{◌≡◌, ◌++◌, map, drop}
use Rattle.event_text.specs.Render.{segment_letter}
use Rattle.event_text.proofs.answers.push_letters.Given as goal

abbrev pub invariant-loop-segment : goal.invariant-loop-segment
invariant-loop-segment l = l.out.items ++ map segment_letter (drop l.segment-index l.segments) ≡ l.fn.out.items ++ map segment_letter l.segments
