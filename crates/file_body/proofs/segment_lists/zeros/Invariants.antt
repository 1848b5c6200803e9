use Rattle.std.proofs.Common.{◌≡◌, ℕ, ◌<◌, ◌++◌, length, get_or, []}
use Rattle.std.specs.Prelude.{replicate, false}
use Rattle.std.specs.List.{concat}
use Rattle.hsm_types.specs.Limits.{segment_bytes}
use Rattle.file_body.specs.HeldBodies.{pieces, stands_away}
use Rattle.file_body.specs.Segments.{IsCut}
use Rattle.file_body.proofs.segment_lists.zeros.Given as goal

abbrev pub invariant-loop-left : goal.invariant-loop-left
invariant-loop-left l = record {
  zeros : concat (pieces l.segments.items) ++ replicate l.left 0 ≡ replicate l.count 0;
  cut : IsCut segment_bytes (pieces l.segments.items);
  full : 0 < l.left → (i : ℕ) → i < length (pieces l.segments.items) → length (get_or (pieces l.segments.items) i []) ≡ segment_bytes;
  here : (j : ℕ) → stands_away l.segments.items j ≡ false;
}

abbrev pub decreases-loop-left : goal.decreases-loop-left
decreases-loop-left l = l.left
