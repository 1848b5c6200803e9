-- Attributes of a snapshot, one after the other.
use Rattle.std.proofs.Common.{◌≡◌, ℕ, ◌≤◌, List, [], ◌∷◌, ◌++◌, length, Option, Some, None, true, false, refl, arith}
use Rattle.std.specs.List.{AllByRecursion}
use Rattle.std.specs.List.Sorted.{IsStrictlySortedBy}
use Rattle.std.specs.Map.{keys_of, values_of}
use Rattle.std.specs.declared.cmp.Ordering.TheVariants.{Less}
use Rattle.std.specs.Cmp.{IsTotalOrder}
use Rattle.std.proofs.lemmas.Cmp.{nat_list_cmp_total, on_total}
use Rattle.std.proofs.lemmas.List.Sums.{sum_by-cons, sum_by-append}
use Rattle.std.proofs.lemmas.List.{map-append}
use Rattle.std.proofs.lemmas.List.Elements.{recursion_from_All}
use Rattle.hsm_types.specs.Limits.{value_bytes}
use Rattle.hsm_types.specs.declared.attributes.AttrName.{AttrName}
use Rattle.hsm_types.specs.Attributes.{Attributes, AreAttributes, name_cmp, is_reserved, with_value, cost_of_value, bytes_of_attributes, setting_refusal}
use Rattle.snapshot_text.specs.FileValidity.{stands_behind, are_attributes}
use Rattle.snapshot_text.proofs.EachOf.{each-as}
use Rattle.snapshot_text.proofs.KeptBounds.{values-short}

name_cmp-total : IsTotalOrder name_cmp
name_cmp-total = on_total (λ (name : AttrName). name.0) nat_list_cmp_total

abbrev AreBelow : AttrName → Attributes → Type 0
AreBelow name attrs = AllByRecursion (λ k. name_cmp k name ≡ Less) (keys_of attrs)

-- each name that can stand behind that one is above those of the attributes
abbrev pub EndWith : Option AttrName → Attributes → Type 0
EndWith before attrs = (name : AttrName) → stands_behind before name ≡ true → AreBelow name attrs

goes-last : (name : AttrName) (value : List ℕ) (attrs : Attributes) → AreBelow name attrs → with_value name value attrs ≡ attrs ++ (name, value) ∷ []
goes-last name value [] below = refl
goes-last name value (a ∷ attrs) below = grind (arith, name_cmp-total.antisymm name a.0, below.0, goes-last name value attrs below.1)

all-below : (name later : AttrName) (value : List ℕ) (attrs : Attributes) → name_cmp name later ≡ Less → AreBelow name attrs → AreBelow later (attrs ++ (name, value) ∷ [])
all-below name later value [] less below = (less, tt)
all-below name later value (a ∷ attrs) less below = (name_cmp-total.trans a.0 name later below.0 less, all-below name later value attrs less below.1)

bytes-front : (attrs : Attributes) (a : AttrName × List ℕ) (rest : Attributes) → bytes_of_attributes (attrs ++ a ∷ []) ≤ bytes_of_attributes (attrs ++ a ∷ rest)
bytes-front attrs a rest = simp (map-append, sum_by-append) (omega (arith, sum_by-cons cost_of_value a.1 [], sum_by-cons cost_of_value a.1 (values_of rest)))

module _ (before : Option AttrName) (attrs : Attributes) (name : AttrName) (value : List ℕ) (ends : EndWith before attrs) where
  pub at-end : stands_behind before name ≡ true → with_value name value attrs ≡ attrs ++ (name, value) ∷ []
  at-end behind = goes-last name value attrs (ends name behind)

  pub ends-more : stands_behind before name ≡ true → EndWith (Some name) (with_value name value attrs)
  ends-more behind = λ later h. rw (at-end behind) (all-below name later value attrs (grind arith) (ends name behind))

  pub accepted : (rest : Attributes) (limit : ℕ) → are_attributes before ((name, value) ∷ rest) ≡ true → bytes_of_attributes (attrs ++ (name, value) ∷ rest) ≤ limit → setting_refusal name value 0 limit attrs ≡ None
  accepted rest limit are few = grind (arith, at-end, bytes-front attrs (name, value) rest)

pass-behind : (before : Option AttrName) (attrs : Attributes) → AllByRecursion (λ k. stands_behind before k ≡ true) (keys_of attrs) → IsStrictlySortedBy name_cmp (keys_of attrs) → AllByRecursion (λ k. is_reserved k ≡ false) (keys_of attrs) → AllByRecursion (λ a. length a.1 ≤ value_bytes) attrs
    → are_attributes before attrs ≡ true
unfolding IsStrictlySortedBy
pass-behind before [] behind ascend named short = refl
pass-behind before (a ∷ attrs) behind ascend named short =
    let next = pass-behind (Some a.0) attrs (each-as (λ k. name_cmp a.0 k ≡ Less) (λ k. stands_behind (Some a.0) k ≡ true) (keys_of attrs) (λ k less. grind arith) ascend.0) ascend.1 named.1 short.1 in
    grind (arith, behind.0, named.0, short.0)

pub attributes-pass : (attrs : Attributes) → AreAttributes attrs → are_attributes None attrs ≡ true
attributes-pass attrs are =
    let named = recursion_from_All (λ name. is_reserved name ≡ false) (keys_of attrs) are.unreserved in
    pass-behind None attrs (each-as (λ name. is_reserved name ≡ false) (λ k. true ≡ true) (keys_of attrs) (λ k _. refl) named) are.ascend named (values-short attrs are)
