use Rattle.std.proofs.Common.{◌≡◌, map}
use Rattle.hsm_types.specs.Segments.{from_on}
use Rattle.hsm_core.proofs.ToldSegments.{told_at}
use Rattle.hsm_core.proofs.services.segments.segments_of.Given as goal

abbrev pub invariant-loop-segment : goal.invariant-loop-segment
invariant-loop-segment l = l.told.items ≡ map (told_at l.parts.places l.parts.stubs) (from_on 0 l.segment)
