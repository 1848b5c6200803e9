use Rattle.std.proofs.Common.{◌≡◌, ℕ, nat_eq}
use Rattle.std.specs.List.{list_any}
use Rattle.media_model.specs.Sharing.{is_shared}
use Rattle.media_model.proofs.sharing.volumes_of.Given as goal

abbrev pub invariant-loop-volume : goal.invariant-loop-volume
invariant-loop-volume l = (v : ℕ) → list_any (nat_eq v) l.shared.items ≡ is_shared l.number l.drives l.volume v
