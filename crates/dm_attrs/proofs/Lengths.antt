-- How many attributes there can be.
use Rattle.std.proofs.Common.{◌*◌, ◌≤◌, ◌∷◌, [], length, arith}
use Rattle.std.proofs.lemmas.List.Sums.{sum_by-cons}
use Rattle.std.specs.Map.{values_of}
use Rattle.hsm_types.specs.Attributes.{Attributes, cost_of_value, bytes_of_attributes}
use Rattle.hsm_types.specs.Limits.{attribute_cost}

-- each counts what one without bytes does, at least
pub length-few : (attrs : Attributes) → attribute_cost * length attrs ≤ bytes_of_attributes attrs
length-few [] = omega arith
length-few (a ∷ attrs) = omega (arith, sum_by-cons cost_of_value a.1 (values_of attrs), length-few attrs)
