use Rattle.std.proofs.Common.{◌≡◌, ◌+◌, length, drop}
use Rattle.snapshot_text.specs.Files.{present}
use Rattle.snapshot_text.specs.FileRecords.{places_set, mappings_from}
use Rattle.snapshot_text.proofs.file_places.set_from.Given as goal

abbrev pub invariant-loop-i : goal.invariant-loop-i
invariant-loop-i l = record {
  left : places_set (mappings_from (l.first + l.i) (drop l.i l.new)) l.places.items ≡ places_set (mappings_from l.first l.new) l.fn.places.items;
  size : length l.places.items ≡ length l.fn.places.items;
  added : l.added + length (present l.fn.places.items) ≡ length (present l.places.items);
}
