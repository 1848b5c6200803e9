use Rattle.std.proofs.Common.{◌≡◌}
use Rattle.hsm_types.specs.Stubs.{uncovered}
use Rattle.snapshot_text.proofs.file_parts.FileParts.first_uncovered.Given as goal

abbrev pub invariant-loop-segment : goal.invariant-loop-segment
invariant-loop-segment l = uncovered l.regions l.segment-iterator ≡ uncovered l.regions l.self.stubs
