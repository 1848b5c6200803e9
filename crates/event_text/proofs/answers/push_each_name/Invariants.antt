use Rattle.std.proofs.Common.{◌≡◌, ◌++◌, ◌∷◌, drop}
use Rattle.std.specs.List.{flat_map}
use Rattle.event_text.specs.Render.{name_word}
use Rattle.event_text.proofs.answers.push_each_name.Given as goal

abbrev pub invariant-loop-name : goal.invariant-loop-name
invariant-loop-name l = l.out.items ++ flat_map (λ name. 32 ∷ name_word name) (drop l.name-index l.names) ≡ l.fn.out.items ++ flat_map (λ name. 32 ∷ name_word name) l.names
