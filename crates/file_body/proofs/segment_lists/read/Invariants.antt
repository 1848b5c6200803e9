use Rattle.std.proofs.Common.{◌≡◌, ◌-◌, ◌≤◌, length, take, drop}
use Rattle.std.specs.List.{concat}
use Rattle.file_body.specs.HeldBodies.{pieces}
use Rattle.file_body.proofs.segment_lists.read.Given as goal

abbrev pub invariant-loop-bytes : goal.invariant-loop-bytes
invariant-loop-bytes l = record {
  within : length l.bytes.items ≤ l.count;
  read : l.bytes.items ≡ take (length l.bytes.items) (drop l.offset (concat (pieces l.segments)));
}

abbrev pub decreases-loop-bytes : goal.decreases-loop-bytes
decreases-loop-bytes l = l.count - length l.bytes.items
