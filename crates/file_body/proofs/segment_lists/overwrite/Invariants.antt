use Rattle.std.proofs.Common.{◌≡◌, ◌+◌, ◌-◌, ◌≤◌, ◌++◌, length, take, drop}
use Rattle.std.specs.List.{concat}
use Rattle.hsm_types.specs.Limits.{segment_bytes}
use Rattle.file_body.specs.HeldBodies.{pieces, aways}
use Rattle.file_body.specs.Segments.{IsCut}
use Rattle.file_body.proofs.segment_lists.overwrite.Given as goal

abbrev pub invariant-loop-done : goal.invariant-loop-done
invariant-loop-done l = record {
  within : l.done ≤ length l.bytes;
  written : concat (pieces l.segments) ≡ take l.offset (concat (pieces l.fn.segments)) ++ take l.done l.bytes ++ drop (l.offset + l.done) (concat (pieces l.fn.segments));
  cut : IsCut segment_bytes (pieces l.segments);
  away : aways l.segments ≡ aways l.fn.segments;
}

abbrev pub decreases-loop-done : goal.decreases-loop-done
decreases-loop-done l = length l.bytes - l.done
