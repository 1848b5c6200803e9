-- The first refusal of a list.
use Rattle.std.proofs.Common.{◌≡◌, List, [], ◌∷◌, ◌++◌, Option, Some, None, refl}
use Rattle.hsm_types.specs.Refusals.{first_refusal}

module _ {R : Type 0} where
  -- where none of a list refuses, a later one decides
  pub all_pass : (first rest : List (Option R)) → first_refusal first ≡ None → first_refusal (first ++ rest) ≡ first_refusal rest
  all_pass [] rest is = refl
  all_pass (None ∷ first) rest is = all_pass first rest is
  all_pass (Some why ∷ first) rest is = absurd cc

  pub one_stops : (first rest : List (Option R)) (why : R) → first_refusal first ≡ Some why → first_refusal (first ++ rest) ≡ Some why
  one_stops [] rest why is = absurd cc
  one_stops (None ∷ first) rest why is = one_stops first rest why is
  one_stops (Some x ∷ first) rest why is = is

  pub alone : (a : Option R) → first_refusal (a ∷ []) ≡ a
  alone None = refl
  alone (Some why) = refl
