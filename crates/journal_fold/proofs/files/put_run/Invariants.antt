use Rattle.std.proofs.Common.{◌≡◌, ◌+◌, map, drop}
use Rattle.snapshot_text.specs.FileRecords.{mappings_from}
use Rattle.meta_store.specs.Batches.{with_extents}
use Rattle.journal_fold.specs.FoldedFiles.{mapping_of}
use Rattle.journal_fold.proofs.files.put_run.Given as goal

abbrev pub invariant-loop-place : goal.invariant-loop-place
invariant-loop-place l = record {
  at : l.block ≡ l.first + l.place-index;
  left : with_extents (mappings_from l.block (drop l.place-index l.places)) (map mapping_of l.extents.items) ≡ with_extents (mappings_from l.first l.places) (map mapping_of l.initial.extents.items);
}
