use Rattle.std.proofs.Common.{◌-◌}
use Rattle.volume_shelf.proofs.Pieces.{SoFar}
use Rattle.volume_shelf.proofs.reading.print_payload.Given as goal

abbrev pub invariant-pieces : goal.invariant-pieces
invariant-pieces g l = SoFar g.M.Drive l.volume l.object l.len l.initial.drive l.drive l.pieces

abbrev pub decreases-pieces : goal.decreases-pieces
decreases-pieces g l = l.len - l.pieces.len
