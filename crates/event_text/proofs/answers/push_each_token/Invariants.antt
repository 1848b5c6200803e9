use Rattle.std.proofs.Common.{◌≡◌, ◌++◌, ◌∷◌, drop}
use Rattle.std.specs.Fmt.{decimal}
use Rattle.std.specs.List.{flat_map}
use Rattle.event_text.proofs.answers.push_each_token.Given as goal

abbrev pub invariant-loop-token : goal.invariant-loop-token
invariant-loop-token l = l.out.items ++ flat_map (λ token. 32 ∷ decimal token.0) (drop l.token-index l.tokens) ≡ l.fn.out.items ++ flat_map (λ token. 32 ∷ decimal token.0) l.tokens
