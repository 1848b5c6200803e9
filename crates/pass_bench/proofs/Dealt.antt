-- Passes that were given out to callers.
use Rattle.std.proofs.Common.{◌≡◌, ℕ, List, false, All, arith}
use Rattle.std.proofs.lemmas.List.Elements.{All-map, All-same, All-from_get_or}
use Rattle.std.proofs.lemmas.List.FromFn.{length-range_with_len, get_or-range_with_len}
use Rattle.std.specs.List.{range_with_len}
use Rattle.atomic_table.specs.Seated.{TableId}
use Rattle.call_seats.specs.Passes.{Knowledge, new_pass, new_passes}
use Rattle.pass_bench.specs.Ours.{IsOurs}

-- those that a desk gives out are the callers', where it gives out as many
pub new_are_ours : (passes : List Knowledge) (table at : TableId) (count callers : ℕ) → passes ≡ new_passes at count → at ≡ table → callers ≡ count → All (IsOurs table callers) passes
new_are_ours passes table at count callers is same many =
    All-same (IsOurs table callers) passes (new_passes at count) is
    (All-map (IsOurs table callers) (new_pass at false) (range_with_len 1 count)
    (All-from_get_or (λ n. IsOurs table callers (new_pass at false n)) (range_with_len 1 count) 0
    (λ i lt. let long = length-range_with_len 1 count in let number = get_or-range_with_len 1 count i 0 (omega arith) in (same, omega arith, omega arith))))
