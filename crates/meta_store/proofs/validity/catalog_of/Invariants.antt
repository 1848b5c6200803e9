use Rattle.std.proofs.Common.{◌≡◌, ◌++◌, length, map}
use Rattle.std.specs.Vec.Iter.{into_iter_items, into_iter_len}
use Rattle.snapshot_text.specs.Files.{geometry_of}
use Rattle.snapshot_text.specs.Snapshots.{raw_file}
use Rattle.meta_store.specs.Validity.{last_inode, names_in, HasTaken}
use Rattle.meta_store.proofs.validity.catalog_of.Given as goal

abbrev pub invariant-loop-file : goal.invariant-loop-file
invariant-loop-file l = record {
  walked : l.yielded ++ into_iter_items l.file-iterator ≡ l.fn.snapshot.files.items;
  left : into_iter_len l.file-iterator ≡ length (into_iter_items l.file-iterator);
  taken : HasTaken l.geometry l.next (geometry_of l.geometry).blocks (map raw_file l.yielded) l.catalog l.flags;
  last : l.last ≡ last_inode 0 (names_in (map raw_file l.yielded));
}
