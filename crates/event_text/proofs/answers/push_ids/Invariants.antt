use Rattle.std.proofs.Common.{◌≡◌, ◌++◌, ◌∷◌, drop}
use Rattle.std.specs.Fmt.{decimal}
use Rattle.std.specs.List.{flat_map}
use Rattle.event_text.proofs.answers.push_ids.Given as goal

abbrev pub invariant-loop-sid : goal.invariant-loop-sid
invariant-loop-sid l = l.out.items ++ flat_map (λ sid. 32 ∷ decimal sid.0) (drop l.sid-index l.sids) ≡ l.fn.out.items ++ flat_map (λ sid. 32 ∷ decimal sid.0) l.sids
