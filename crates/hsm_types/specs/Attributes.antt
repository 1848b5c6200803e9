-- Attributes of a file: names with their values, in the order of names.
use Rattle.std.specs.Prelude.{◌≡◌, ℕ, ◌+◌, ◌≤◌, List, ◌∷◌, [], length, sum_by, codes, Bool, false, nat_eq, nat_le, if◌then◌else◌, Option, Some, None, is_some}
use Rattle.std.specs.BTreeMap.{insert_entry}
use Rattle.std.specs.Cmp.Lexicographic.{slice_cmp}
use Rattle.std.specs.List.{All, starts_with}
use Rattle.std.specs.List.Sorted.{IsStrictlySortedBy}
use Rattle.std.specs.Map.{keys_of, values_of, lookup, remove_entry}
use Rattle.std.specs.Ordering.{nat_cmp}
use Rattle.std.specs.declared.cmp.Ordering.{Ordering}
use Rattle.std.specs.Str.{bytes_eq}
use Rattle.hsm_types.specs.Limits.{value_bytes, attribute_cost}
use Rattle.hsm_types.specs.Refusals.{first_refusal}
use Rattle.hsm_types.specs.declared.attributes.AttrName.{AttrName}
use Rattle.hsm_types.specs.declared.dm.DmRefusal.{DmRefusal}
use Rattle.hsm_types.specs.declared.dm.DmRefusal.TheVariants.{TooMany, NoAttr, Reserved, AttrTooBig}

abbrev pub Attributes : Type 0
Attributes = List (AttrName × List ℕ)

abbrev pub same_name : AttrName → AttrName → Bool
same_name a b = bytes_eq a.0 b.0

-- names stand in the order of their bytes
abbrev pub name_cmp : AttrName → AttrName → Ordering
name_cmp a b = slice_cmp nat_cmp a.0 b.0

-- names that begin with `HSM` are kept for the store
abbrev pub is_reserved : AttrName → Bool
is_reserved name = starts_with nat_eq name.0 (codes "HSM")

-- what is true of the attributes of every file
pub record AreAttributes (attrs : Attributes) : Type 0 where
  pub ascend : IsStrictlySortedBy name_cmp (keys_of attrs)
  pub unreserved : All (λ name. is_reserved name ≡ false) (keys_of attrs)
  pub short : All (λ value. length value ≤ value_bytes) (values_of attrs)

-- the value of the attribute with that name, if there is one
abbrev pub value_of : AttrName → Attributes → Option (List ℕ)
value_of name attrs = lookup (same_name name) attrs

-- ---- what is left

-- with this value under that name, in the place of an older one, or where the order puts it
abbrev pub with_value : AttrName → List ℕ → Attributes → Attributes
with_value name value attrs = insert_entry name_cmp attrs name value

abbrev pub without_value : AttrName → Attributes → Attributes
without_value name attrs = remove_entry (same_name name) attrs

-- ---- how much they count

-- what an attribute with that value counts: `attribute_cost` beside the bytes of the value
abbrev pub cost_of_value : List ℕ → ℕ
cost_of_value value = attribute_cost + length value

abbrev pub bytes_of_attributes : Attributes → ℕ
bytes_of_attributes attrs = sum_by cost_of_value (values_of attrs)

-- ---- what refuses a change, in the order of judgement

abbrev pub reserved : AttrName → Option DmRefusal
reserved name = if is_reserved name then Some Reserved else None

abbrev pub too_big_value : List ℕ → Option DmRefusal
too_big_value value = if nat_le (length value) value_bytes then None else Some (AttrTooBig (length value))

-- the attributes of all files together would count more than they may
abbrev pub too_many_bytes : ℕ → ℕ → Option DmRefusal
too_many_bytes limit bytes = if nat_le bytes limit then None else Some (TooMany bytes)

-- `others` is what the attributes of all other files count
abbrev pub setting_refusal : AttrName → List ℕ → ℕ → ℕ → Attributes → Option DmRefusal
setting_refusal name value others limit attrs = first_refusal (reserved name ∷ too_big_value value ∷ too_many_bytes limit (others + bytes_of_attributes (with_value name value attrs)) ∷ [])

abbrev pub no_attribute : AttrName → Attributes → Option DmRefusal
no_attribute name attrs = if is_some (value_of name attrs) then None else Some NoAttr

abbrev pub removal_refusal : AttrName → Attributes → Option DmRefusal
removal_refusal name attrs = first_refusal (reserved name ∷ no_attribute name attrs ∷ [])
