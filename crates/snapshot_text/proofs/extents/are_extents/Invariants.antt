use Rattle.std.proofs.Common.{◌≡◌, drop}
use Rattle.snapshot_text.specs.FileValidity.{are_extents}
use Rattle.snapshot_text.proofs.extents.are_extents.Given as goal

abbrev pub invariant-loop-extent : goal.invariant-loop-extent
invariant-loop-extent l = are_extents 0 l.count l.blocks l.extents ≡ are_extents l.low l.count l.blocks (drop l.extent-index l.extents)
