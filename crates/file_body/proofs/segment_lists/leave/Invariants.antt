use Rattle.std.proofs.Common.{◌≡◌, ℕ, ◌-◌, ◌*◌, ◌≤◌, ◌++◌, length, take, drop}
use Rattle.std.specs.Prelude.{min, replicate, nat_le, nat_lt, ◌&&◌, ◌||◌}
use Rattle.std.specs.List.{concat}
use Rattle.hsm_types.specs.Limits.{segment_bytes}
use Rattle.file_body.specs.HeldBodies.{pieces, stands_away}
use Rattle.file_body.specs.Segments.{IsCut}
use Rattle.file_body.proofs.segment_lists.leave.Given as goal

abbrev pub invariant-loop-at : goal.invariant-loop-at
invariant-loop-at l = let old = concat (pieces l.fn.segments) in record {
  from : l.from ≤ l.at;
  end : l.at ≤ l.end;
  bytes : concat (pieces l.segments) ≡ take (segment_bytes * l.from) old ++ replicate (min (segment_bytes * l.at) (length old) - segment_bytes * l.from) 0 ++ drop (segment_bytes * l.at) old;
  cut : IsCut segment_bytes (pieces l.segments);
  away : (j : ℕ) → stands_away l.segments j ≡ (stands_away l.fn.segments j || (nat_le l.from j && nat_lt j l.at));
}

abbrev pub decreases-loop-at : goal.decreases-loop-at
decreases-loop-at l = l.end - l.at
