use Rattle.std.proofs.Common.{◌≡◌, ◌+◌, ◌<◌, length, drop}
use Rattle.std.specs.List.{AllByRecursion}
use Rattle.snapshot_text.specs.Files.{present}
use Rattle.snapshot_text.specs.FileRecords.{places_set}
use Rattle.snapshot_text.proofs.file_places.set.Given as goal

abbrev pub invariant-loop-mapping : goal.invariant-loop-mapping
invariant-loop-mapping l = record {
  left : places_set (drop l.mapping-index l.mappings) l.places.items ≡ places_set l.mappings l.fn.places.items;
  within : AllByRecursion (λ m. m.block < length l.fn.places.items) (drop l.mapping-index l.mappings);
  size : length l.places.items ≡ length l.fn.places.items;
  added : l.added + length (present l.fn.places.items) ≡ length (present l.places.items);
}
