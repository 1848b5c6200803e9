-- Which entries of a history are a caller's own.
use Rattle.std.specs.Prelude.{ℕ, ◌≡◌, ◌==◌, List, [], ◌∷◌, ◌++◌, filter, Bool, false, if◌then◌else◌}
use Rattle.plain_model.specs.declared.entries.Entry.{Entry}
use Rattle.plain_model.specs.declared.entries.Actor.{Actor}
use Rattle.plain_model.specs.declared.entries.Actor.TheVariants.{Caller}

-- it is that caller who acts
abbrev pub is_caller : ℕ → Actor → Bool
is_caller c (Caller d) = d == c
is_caller c actor = false

-- the entries of the caller with that number, in their order
abbrev pub own : ℕ → List Entry → List Entry
own c es = filter (λ e. is_caller c e.actor) es

-- one entry more is the last one of its caller, and leaves those of each other caller
abbrev pub OwnGrows : ℕ → List Entry → Entry → Type 0
OwnGrows c es e = own c (es ++ e ∷ []) ≡ (if is_caller c e.actor then own c es ++ e ∷ [] else own c es)
