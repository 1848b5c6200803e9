use Rattle.std.proofs.Common.{◌≡◌, ◌++◌, drop, map}
use Rattle.std.specs.List.{flat_map}
use Rattle.snapshot_text.specs.Snapshots.{bytes_of_file, snapshot_file, spelling}
use Rattle.meta_store.specs.Snapshots.{snapshot_of}
use Rattle.meta_store.proofs.spelling.spell.Given as goal

abbrev pub invariant-loop-index : goal.invariant-loop-index
invariant-loop-index l =
    l.out.items ++ flat_map bytes_of_file (map snapshot_file (drop l.index l.catalog.files)) ≡ spelling (snapshot_of l.number l.catalog)
