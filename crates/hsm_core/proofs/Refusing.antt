-- The first refusal of a list.
use Rattle.std.proofs.Common.{◌≡◌, List, ◌∷◌, Option, Some, None, refl}
use Rattle.hsm_types.specs.Refusals.{first_refusal}
pub use Rattle.dm_service.proofs.Refusing.{all_pass, one_stops, alone}

module _ {R : Type 0} where
  -- where the first one passes, a later one decides
  pub passes : (a : Option R) (rest : List (Option R)) → a ≡ None → first_refusal (a ∷ rest) ≡ first_refusal rest
  passes None rest is = refl
  passes (Some why) rest is = absurd cc

  pub stops : (a : Option R) (rest : List (Option R)) (why : R) → a ≡ Some why → first_refusal (a ∷ rest) ≡ Some why
  stops None rest why is = absurd cc
  stops (Some x) rest why is = is
