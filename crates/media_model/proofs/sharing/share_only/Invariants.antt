use Rattle.std.proofs.Common.{◌≡◌}
use Rattle.media_model.specs.Sharing.{first_share_only}
use Rattle.media_model.proofs.sharing.share_only.Given as goal

abbrev pub invariant-loop-number : goal.invariant-loop-number
invariant-loop-number l = l.has_no_other ≡ first_share_only l.drives l.volumes l.number
