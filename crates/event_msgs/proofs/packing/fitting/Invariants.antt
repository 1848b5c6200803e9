use Rattle.std.proofs.Common.{◌≤◌}
use Rattle.event_msgs.proofs.PackedMessages.{FitBefore}
use Rattle.event_msgs.proofs.packing.fitting.Given as goal

abbrev pub invariant-loop-count : goal.invariant-loop-count
invariant-loop-count l = record { within : l.left ≤ l.room; before : FitBefore l.room l.messages l.count l.left }
