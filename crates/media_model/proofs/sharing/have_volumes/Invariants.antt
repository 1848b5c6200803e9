use Rattle.std.proofs.Common.{◌≡◌}
use Rattle.media_model.specs.Sharing.{have_volumes}
use Rattle.media_model.proofs.sharing.have_volumes.Given as goal

abbrev pub invariant-loop-volume : goal.invariant-loop-volume
invariant-loop-volume l = l.has_all ≡ have_volumes l.drives l.volume
