use Rattle.std.proofs.Common.{◌≡◌, map, drop}
use Rattle.plain_model.specs.Blocks.{with_mapped}
use Rattle.snapshot_text.specs.FileValidity.{are_free, places_of}
use Rattle.journal_fold.specs.FoldedFiles.{mapping_of}
use Rattle.journal_fold.proofs.uses.claim.Given as goal

abbrev pub invariant-loop-extent : goal.invariant-loop-extent
invariant-loop-extent l = record {
  free : are_free (places_of (map mapping_of l.extents)) l.fn.flags ≡ are_free (places_of (map mapping_of (drop l.extent-index l.extents))) l.flags;
  mapped : with_mapped (places_of (map mapping_of l.extents)) l.fn.flags ≡ with_mapped (places_of (map mapping_of (drop l.extent-index l.extents))) l.flags;
}
