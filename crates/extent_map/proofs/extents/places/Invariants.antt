use Rattle.std.proofs.Common.{◌≡◌, take, map}
use Rattle.extent_map.proofs.extents.places.Given as goal

abbrev pub invariant-loop-entry : goal.invariant-loop-entry
invariant-loop-entry l = l.places.items ≡ map (λ e. e.at) (take l.entry-index l.entries)
