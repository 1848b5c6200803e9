-- What bounds the regions and the attributes of a lawful file.
use Rattle.std.proofs.Common.{◌≡◌, ℕ, ◌+◌, ◌*◌, ◌≤◌, List, [], ◌∷◌, length, Option, None, Some, length-append, arith}
use Rattle.std.specs.List.{flat_map, AllByRecursion}
use Rattle.std.specs.Map.{values_of}
use Rattle.std.proofs.lemmas.List.Sums.{sum_by-cons}
use Rattle.hsm_types.specs.Limits.{file_regions, value_bytes, attribute_cost, widest_limits, IsCountable}
use Rattle.hsm_types.specs.declared.regions.Region.{Region}
use Rattle.hsm_types.specs.declared.stores.Limits.{Limits}
use Rattle.hsm_types.specs.declared.attributes.AttrName.{AttrName}
use Rattle.hsm_types.specs.Regions.{first_bad, regions_refusal}
use Rattle.hsm_types.specs.Attributes.{Attributes, AreAttributes, setting_refusal, with_value, without_value, cost_of_value, bytes_of_attributes}
use Rattle.std.proofs.lemmas.List.Elements.{recursion_from_All}
use Rattle.hsm_types.proofs.Limiting.{regions_countable}
use Rattle.snapshot_text.proofs.EachOf.{each-as, each-and, map-each}
use Rattle.journal_records.specs.Texts.{RegionFits}
use Rattle.snapshot_text.specs.Snapshots.{attribute_bytes, AttributeFits}

pub regions-few : (limits : Limits) → IsCountable limits → (rs : List Region) → regions_refusal limits rs ≡ None → length rs ≤ file_regions
regions-few limits countable rs lawful = let none = regions_countable limits countable rs lawful in grind arith

each_fits : (index : ℕ) (before : Option Region) (rs : List Region) → first_bad widest_limits index before rs ≡ None → AllByRecursion RegionFits rs
each_fits index before [] h = tt
each_fits index before (r ∷ rs) h = (grind arith, each_fits (index + 1) (Some r) rs (grind arith))

pub regions-fit : (limits : Limits) → IsCountable limits → (rs : List Region) → regions_refusal limits rs ≡ None → AllByRecursion RegionFits rs
regions-fit limits countable rs lawful = let none = regions_countable limits countable rs lawful in each_fits 0 None rs (grind arith)

-- values are short
pub values-short : (attrs : Attributes) → AreAttributes attrs → AllByRecursion (λ a. length a.1 ≤ value_bytes) attrs
values-short attrs are = map-each (λ value. length value ≤ value_bytes) (λ a. a.1) attrs (recursion_from_All (λ value. length value ≤ value_bytes) (values_of attrs) are.short)

pub attributes-fit : (attrs : Attributes) → AllByRecursion (λ a. length a.0.0 ≡ 8) attrs → AreAttributes attrs → AllByRecursion AttributeFits attrs
attributes-fit attrs eight are = each-as _ AttributeFits attrs (λ a is. (is.0, omega (arith, is.1))) (each-and (λ a. length a.0.0 ≡ 8) (λ a. length a.1 ≤ value_bytes) attrs eight (values-short attrs are))

-- one more name of eight bytes
pub eight-with : (name : AttrName) (value : List ℕ) (attrs : Attributes) → AllByRecursion (λ a. length a.0.0 ≡ 8) attrs → length name.0 ≡ 8 → AllByRecursion (λ a. length a.0.0 ≡ 8) (with_value name value attrs)
eight-with name value [] old new = (new, tt)
eight-with name value (a ∷ attrs) old new = grind (arith, old.0, old.1, new, eight-with name value attrs old.1 new)

pub eight-without : (name : AttrName) (attrs : Attributes) → AllByRecursion (λ a. length a.0.0 ≡ 8) attrs → AllByRecursion (λ a. length a.0.0 ≡ 8) (without_value name attrs)
eight-without name [] old = tt
eight-without name (a ∷ attrs) old = grind (arith, old.0, old.1, eight-without name attrs old.1)

-- what is left counts no more
pub fewer-without : (name : AttrName) (attrs : Attributes) → bytes_of_attributes (without_value name attrs) ≤ bytes_of_attributes attrs
fewer-without name [] = omega arith
fewer-without name (a ∷ attrs) =
    grind (arith, sum_by-cons cost_of_value a.1 (values_of attrs), sum_by-cons cost_of_value a.1 (values_of (without_value name attrs)), fewer-without name attrs)

-- nothing refuses what counts too much
pub setting-fits : (name : AttrName) (value : List ℕ) (others limit : ℕ) (attrs : Attributes) → setting_refusal name value others limit attrs ≡ None → others + bytes_of_attributes (with_value name value attrs) ≤ limit
setting-fits name value others limit attrs none = grind arith

-- each counts what one without bytes does, at least
pub attributes-few : (attrs : Attributes) → attribute_cost * length attrs ≤ bytes_of_attributes attrs
attributes-few [] = omega arith
attributes-few (a ∷ attrs) = omega (arith, sum_by-cons cost_of_value a.1 (values_of attrs), attributes-few attrs)

-- their bytes in a snapshot are no more than what they count
pub attributes-short : (attrs : Attributes) → AllByRecursion (λ a. length a.0.0 ≡ 8) attrs → length (flat_map attribute_bytes attrs) ≤ bytes_of_attributes attrs
attributes-short [] eight = omega arith
attributes-short (a ∷ attrs) eight = simp length-append (omega (arith, eight.0, attributes-short attrs eight.1, sum_by-cons cost_of_value a.1 (values_of attrs)))

pub ruleset kept_steps = (eight-with, eight-without, setting-fits, fewer-without)
