use Rattle.std.proofs.Common.{◌≡◌, ◌++◌, ◌∷◌, drop}
use Rattle.std.specs.List.{flat_map}
use Rattle.event_text.specs.Render.{region_word}
use Rattle.event_text.proofs.pieces.push_more_regions.Given as goal

abbrev pub invariant-loop-region : goal.invariant-loop-region
invariant-loop-region l = l.out.items ++ flat_map (λ r. 44 ∷ region_word r) (drop l.region-index l.regions) ≡ l.fn.out.items ++ flat_map (λ r. 44 ∷ region_word r) l.regions
