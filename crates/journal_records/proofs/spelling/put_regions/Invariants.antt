use Rattle.std.proofs.Common.{◌≡◌, ◌+◌, length, take}
use Rattle.std.specs.List.{flat_map, AllByRecursion}
use Rattle.journal_records.specs.Texts.{region_bytes, RegionFits}
use Rattle.journal_records.specs.Places.{Puts}
use Rattle.journal_records.proofs.spelling.put_regions.Given as goal

abbrev pub invariant-loop-region : goal.invariant-loop-region
invariant-loop-region l = record {
  end : l.end ≡ l.at + length (flat_map region_bytes (take l.region-index l.regions));
  puts : Puts l.at (flat_map region_bytes (take l.region-index l.regions)) l.fn.out l.out;
  len : length l.out ≡ length l.fn.out;
  fits : AllByRecursion RegionFits (take l.region-index l.regions);
}
