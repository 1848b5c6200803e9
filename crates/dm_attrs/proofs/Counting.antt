-- Attributes and what they count, after one is set or removed.
use Rattle.std.proofs.Common.{◌≡◌, ℕ, ◌+◌, ◌-◌, ◌≤◌, ◌^◌, Bool, true, false, cond, List, ◌∷◌, [], length, None, Some, refl, sym, ap, ◌∙◌, leb, leb-true, arith}
use Rattle.std.proofs.lemmas.Cmp.{nat_list_cmp_total, on_total}
use Rattle.std.proofs.lemmas.Map.Entries.{sum_by-insert_entry, sum_by-remove_entry}
use Rattle.std.proofs.lemmas.Map.Text.{is_eq-slice_cmp}
use Rattle.std.proofs.lemmas.Map.Views.{All-keys-insert_entry, All-values-insert_entry, All-map-remove_entry}
use Rattle.std.specs.BTreeMap.{is_at}
use Rattle.std.specs.Cmp.{IsTotalOrder}
use Rattle.std.specs.List.Sorted.{IsStrictlySortedBy}
use Rattle.std.specs.Map.{keys_of, lookup, remove_entry}
use Rattle.hsm_types.specs.Limits.{value_bytes}
use Rattle.hsm_types.specs.declared.attributes.AttrName.{AttrName}
use Rattle.hsm_types.specs.declared.dm.DmRefusal.TheVariants.{Reserved, AttrTooBig, TooMany}
use Rattle.hsm_types.specs.Refusals.{first_refusal}
use Rattle.hsm_types.specs.Attributes.{Attributes, AreAttributes, name_cmp, same_name, is_reserved, value_of}
use Rattle.hsm_types.specs.Attributes.{with_value, without_value, cost_of_value, bytes_of_attributes, setting_refusal}
use Rattle.dm_attrs.specs.Counts.{cost_under, IsCounted}

-- ---- a name is found by its order, and known by its bytes

tests : (name : AttrName) → is_at (name_cmp name) ≡ same_name name
tests name = λ i other. is_eq-slice_cmp name.0 other.0 i

pub lookup-is_at : (name : AttrName) (attrs : Attributes) → lookup (is_at (name_cmp name)) attrs ≡ value_of name attrs
lookup-is_at name attrs = ap (λ (test : AttrName → Bool). lookup test attrs) (tests name)

pub remove_entry-is_at : (name : AttrName) (attrs : Attributes) → remove_entry (is_at (name_cmp name)) attrs ≡ without_value name attrs
remove_entry-is_at name attrs = ap (λ (test : AttrName → Bool). remove_entry test attrs) (tests name)

-- ---- what attributes count afterwards

name_cmp-total : IsTotalOrder name_cmp
name_cmp-total = on_total (λ (name : AttrName). name.0) nat_list_cmp_total

pub bytes-without : (name : AttrName) (attrs : Attributes) → bytes_of_attributes (without_value name attrs) + cost_under name attrs ≡ bytes_of_attributes attrs
bytes-without name attrs = sum_by-remove_entry cost_of_value (same_name name) attrs

pub bytes-with : (name : AttrName) (value : List ℕ) (attrs : Attributes) → AreAttributes attrs → bytes_of_attributes (with_value name value attrs) + cost_under name attrs ≡ bytes_of_attributes attrs + cost_of_value value
bytes-with name value attrs are =
    rw (lookup-is_at name attrs) at (sum_by-insert_entry cost_of_value name_cmp-total attrs name value are.ascend)

-- ---- what is true of them afterwards

-- nothing refuses a name that isn't reserved, a value that is small enough, and a sum that is
passes : (kept short fits : Bool) (len sum : ℕ) → first_refusal (cond kept (Some Reserved) None ∷ cond short None (Some (AttrTooBig len)) ∷ cond fits None (Some (TooMany sum)) ∷ []) ≡ None → (kept ≡ false) × (short ≡ true) × (fits ≡ true)
passes true short fits len sum h = absurd cc
passes false false fits len sum h = absurd cc
passes false true false len sum h = absurd cc
passes false true true len sum h = (refl, refl, refl)

module _ (name : AttrName) (value : List ℕ) (others limit bytes count : ℕ) (attrs after : Attributes) (is : IsCounted bytes attrs) (bound : limit ≤ 2 ^ 32)
    (none : setting_refusal name value others limit attrs ≡ None) (counts : count ≡ bytes_of_attributes (with_value name value attrs))
    (made : after ≡ with_value name value attrs) (ascend : IsStrictlySortedBy name_cmp (keys_of after)) where
  passed : (is_reserved name ≡ false) × (leb (length value) value_bytes ≡ true) × (leb (others + bytes_of_attributes (with_value name value attrs)) limit ≡ true)
  passed = passes (is_reserved name) (leb (length value) value_bytes) (leb (others + bytes_of_attributes (with_value name value attrs)) limit) (length value) (others + bytes_of_attributes (with_value name value attrs)) none

  short : length value ≤ value_bytes
  short = leb-true (length value) value_bytes passed.1

  fits : others + bytes_of_attributes (with_value name value attrs) ≤ limit
  fits = leb-true (others + bytes_of_attributes (with_value name value attrs)) limit passed.2

  pub counted-with : IsCounted count after
  counted-with = record {
    attributes = record {
      ascend = ascend;
      unreserved = rw made (All-keys-insert_entry name_cmp name value (λ (other : AttrName). is_reserved other ≡ false) attrs is.attributes.unreserved passed.0);
      short = rw made (All-values-insert_entry name_cmp name value (λ (other : List ℕ). length other ≤ value_bytes) attrs is.attributes.short short);
    };
    sum = rw made counts;
    few = let limited = fits in omega arith;
  }

module _ (name : AttrName) (value : List ℕ) (bytes : ℕ) (attrs : Attributes) (is : IsCounted bytes attrs) (there : value_of name attrs ≡ Some value) where
  pub counted-part : bytes_of_attributes (without_value name attrs) + cost_of_value value ≡ bytes
  counted-part = rw there at (bytes-without name attrs) ∙ sym is.sum

  pub counted-without : (after : Attributes) → after ≡ without_value name attrs → IsStrictlySortedBy name_cmp (keys_of after) → IsCounted (bytes - cost_of_value value) after
  counted-without after left ascend = record {
    attributes = record {
      ascend = ascend;
      unreserved = rw left (All-map-remove_entry (same_name name) (λ (a : AttrName × List ℕ). a.0) (λ (other : AttrName). is_reserved other ≡ false) attrs is.attributes.unreserved);
      short = rw left (All-map-remove_entry (same_name name) (λ (a : AttrName × List ℕ). a.1) (λ (other : List ℕ). length other ≤ value_bytes) attrs is.attributes.short);
    };
    sum = let part = counted-part in rw left (omega arith);
    few = let few = is.few in omega arith;
  }
