use Rattle.std.proofs.Common.{◌≡◌, map, drop}
use Rattle.snapshot_text.specs.FileValidity.{places_of}
use Rattle.journal_fold.specs.Counted.{with_free}
use Rattle.journal_fold.specs.FoldedFiles.{mapping_of}
use Rattle.journal_fold.proofs.uses.release.Given as goal

abbrev pub invariant-loop-extent : goal.invariant-loop-extent
invariant-loop-extent l = with_free (places_of (map mapping_of l.extents)) l.fn.flags ≡ with_free (places_of (map mapping_of (drop l.extent-index l.extents))) l.flags
