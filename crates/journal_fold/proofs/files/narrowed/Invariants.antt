use Rattle.std.proofs.Common.{◌≡◌, map, take}
use Rattle.journal_fold.specs.FoldedFiles.{mapping_of}
use Rattle.journal_fold.proofs.files.narrowed.Given as goal

abbrev pub invariant-loop-block : goal.invariant-loop-block
invariant-loop-block l = l.narrow.items ≡ map mapping_of (take l.block-index l.extents)
