-- Regions of a list that nothing refuses.
use Rattle.std.proofs.Common.{◌≡◌, ℕ, zero, suc, ◌+◌, ◌<◌, ◌≤◌, true, List, [], ◌∷◌, slice_get, Option, None, Some, arith}
use Rattle.std.proofs.lemmas.Bool.Decides.{nat_tests}
use Rattle.hsm_types.specs.declared.regions.Region.{Region}
use Rattle.hsm_types.specs.declared.stores.Limits.{Limits}
use Rattle.hsm_types.specs.Regions.{is_region, first_bad, too_many_regions}
use Rattle.hsm_types.proofs.Limiting.{passed, few_and_good}
use Rattle.managed_regions.specs.Laws.{AreApart, LawfulStandApart}

-- ---- two regions

record Before (a b : Region) : Type 0 where
  ends : 0 < a.size
  in_order : a.offset + a.size ≤ b.offset

next_before : (limits : Limits) (a b : Region) → is_region limits (Some a) b ≡ true → Before a b
next_before limits a b h = record { ends = grind (arith, nat_tests); in_order = grind (arith, nat_tests) }

before-trans : (a b c : Region) → Before a b → Before b c → Before a c
before-trans a b c first second = let ends = first.ends in let one = first.in_order in let two = second.in_order in record { ends = ends; in_order = omega arith }

module _ (limits : Limits) where
  later_before : (index : ℕ) (a : Region) (rs : List Region) → first_bad limits index (Some a) rs ≡ None → (k : ℕ) (b : Region) → slice_get rs k ≡ Some b → Before a b
  later_before index a [] h k b there = absurd cc
  later_before index a (r ∷ rs) h zero b there =
      let is = passed (is_region limits (Some a) r) (first_bad limits (index + 1) (Some r) rs) index h in
      let same : r ≡ b = cc in
      rw (← same) (next_before limits a r is.0)
  later_before index a (r ∷ rs) h (suc k) b there =
      let is = passed (is_region limits (Some a) r) (first_bad limits (index + 1) (Some r) rs) index h in
      before-trans a r b (next_before limits a r is.0) (later_before (index + 1) r rs is.1 k b there)

  all_before : (index : ℕ) (before : Option Region) (rs : List Region) → first_bad limits index before rs ≡ None → (i j : ℕ) (a b : Region) → i < j → slice_get rs i ≡ Some a → slice_get rs j ≡ Some b → Before a b
  all_before index before [] h i j a b less one two = absurd cc
  all_before index before (r ∷ rs) h i zero a b less one two = absurd (omega arith)
  all_before index before (r ∷ rs) h zero (suc j) a b less one two =
      let is = passed (is_region limits before r) (first_bad limits (index + 1) (Some r) rs) index h in
      let same : r ≡ a = cc in
      rw (← same) (later_before (index + 1) r rs is.1 j b two)
  all_before index before (r ∷ rs) h (suc i) (suc j) a b less one two =
      let is = passed (is_region limits before r) (first_bad limits (index + 1) (Some r) rs) index h in
      all_before (index + 1) (Some r) rs is.1 i j a b (omega arith) one two

apart : (a b : Region) → Before a b → AreApart a b
apart a b before = let ends = before.ends in let order = before.in_order in record {
  ends = ends;
  in_order = order;
  no_byte = λ n met. grind (arith, nat_tests);
}

pub lawful_stand_apart : (limits : Limits) (rs : List Region) → LawfulStandApart limits rs
lawful_stand_apart limits rs none i j a b less one two =
    apart a b (all_before limits 0 None rs (few_and_good (too_many_regions limits rs) (first_bad limits 0 None rs) none).1 i j a b less one two)
