use Rattle.std.proofs.Common.{◌≡◌, ◌++◌, drop}
use Rattle.std.specs.List.{flat_map}
use Rattle.journal_records.specs.Texts.{region_bytes}
use Rattle.snapshot_text.proofs.writing.put_regions.Given as goal

abbrev pub invariant-loop-region : goal.invariant-loop-region
invariant-loop-region l = l.out.items ++ flat_map region_bytes (drop l.region-index l.regions) ≡ l.fn.out.items ++ flat_map region_bytes l.regions
