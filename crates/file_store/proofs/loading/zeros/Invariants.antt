use Rattle.file_store.proofs.Names.{◌≡◌, ◌*◌, ◌&&◌, ℕ, min, replicate, is_away}
use Rattle.std.specs.Prelude.{nat_lt}
use Rattle.hsm_types.specs.Limits.{segment_bytes}
use Rattle.hsm_types.specs.Stubs.{offline_at}
use Rattle.file_store.proofs.loading.zeros.Given as goal

abbrev pub invariant-loop-segment : goal.invariant-loop-segment
invariant-loop-segment l = record {
  bytes : l.body.bytes ≡ replicate (min l.size (segment_bytes * l.segment)) 0;
  away : (j : ℕ) → is_away l.body j ≡ (offline_at l.stubs j && nat_lt j l.segment);
}
