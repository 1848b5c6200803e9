use Rattle.std.proofs.Common.{◌≡◌, ◌+◌, ◌<◌, ◌^◌, length, take}
use Rattle.std.specs.List.{flat_map, AllByRecursion}
use Rattle.byteorder.specs.Endian.{big_bytes}
use Rattle.journal_records.specs.Places.{Puts}
use Rattle.journal_records.proofs.spelling.put_places.Given as goal

abbrev pub invariant-loop-place : goal.invariant-loop-place
invariant-loop-place l = record {
  end : l.end ≡ l.at + length (flat_map (big_bytes 4) (take l.place-index l.places));
  puts : Puts l.at (flat_map (big_bytes 4) (take l.place-index l.places)) l.fn.out l.out;
  len : length l.out ≡ length l.fn.out;
  fits : AllByRecursion (λ p. p < 2 ^ 32) (take l.place-index l.places);
}
