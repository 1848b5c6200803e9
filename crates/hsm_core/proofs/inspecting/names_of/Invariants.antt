use Rattle.std.proofs.Common.{◌≡◌, map, take}
use Rattle.hsm_core.proofs.inspecting.names_of.Given as goal

abbrev pub invariant-loop-index : goal.invariant-loop-index
invariant-loop-index l = l.names.items ≡ map (λ f. f.name) (take l.index l.catalog.files)
