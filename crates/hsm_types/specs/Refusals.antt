-- Refusals in the order of judgement.
use Rattle.std.specs.Prelude.{List, [], ◌∷◌, Option, Some, None}

-- the first that refuses
abbrev pub first_refusal : {R : Type 0} → List (Option R) → Option R
first_refusal [] = None
first_refusal (None ∷ rest) = first_refusal rest
first_refusal (Some why ∷ rest) = Some why
