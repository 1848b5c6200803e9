-- How a caller's own entries grow.
use Rattle.std.proofs.Common.{◌≡◌, ◌∙◌, ◌++◌, ◌∷◌, [], ℕ, List, Bool, true, false, cond, refl, append-nil}
use Rattle.std.specs.Prelude.{if◌then◌else◌}
use Rattle.std.proofs.lemmas.List.Elements.{filter-append}
use Rattle.plain_model.specs.declared.entries.Entry.{Entry}
use Rattle.plain_model.specs.Own.{is_caller, own, OwnGrows}

at_end : (es : List Entry) (e : Entry) (b : Bool) → es ++ cond b (e ∷ []) [] ≡ (if b then es ++ e ∷ [] else es)
at_end es e true = refl
at_end es e false = append-nil es

pub own_grows : (c : ℕ) (es : List Entry) (e : Entry) → OwnGrows c es e
own_grows c es e = filter-append (λ (x : Entry). is_caller c x.actor) es (e ∷ []) ∙ at_end (own c es) e (is_caller c e.actor)
