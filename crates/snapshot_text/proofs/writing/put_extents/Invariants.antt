use Rattle.std.proofs.Common.{◌≡◌, ◌++◌, drop}
use Rattle.std.specs.List.{flat_map}
use Rattle.snapshot_text.specs.Snapshots.{extent_bytes, extents_from}
use Rattle.snapshot_text.proofs.writing.put_extents.Given as goal

abbrev pub invariant-loop-place : goal.invariant-loop-place
invariant-loop-place l =
    (l.block ≡ l.place-index)
    × (l.out.items ++ flat_map extent_bytes (extents_from l.place-index (drop l.place-index l.places)) ≡ l.fn.out.items ++ flat_map extent_bytes (extents_from 0 l.places))
