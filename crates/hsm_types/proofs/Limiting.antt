-- Regions that a format allows are such as the code can count.
use Rattle.std.proofs.Common.{◌≡◌, ℕ, ◌+◌, ◌≤◌, Bool, true, false, cond, List, [], ◌∷◌, length, Option, Some, None, refl, arith, leb-true, le-leb}
use Rattle.std.specs.Prelude.{◌&&◌, nat_le}
use Rattle.std.proofs.lemmas.Bool.{and_parts}
use Rattle.hsm_types.specs.Limits.{file_bytes, file_regions, all_flags, widest_limits, IsCountable}
use Rattle.hsm_types.specs.Refusals.{first_refusal}
use Rattle.hsm_types.specs.Regions.{is_behind, is_region, first_bad, too_many_regions, bad_region, regions_refusal}
use Rattle.hsm_types.specs.declared.dm.DmRefusal.{DmRefusal}
use Rattle.hsm_types.specs.declared.dm.DmRefusal.TheVariants.{TooMany}
use Rattle.hsm_types.specs.declared.regions.Region.{Region}
use Rattle.hsm_types.specs.declared.stores.Limits.{Limits}

-- ---- what isn't refused

pub passed : {X : Type 0} (b : Bool) (rest : Option X) (x : X) → cond b rest (Some x) ≡ None → (b ≡ true) × (rest ≡ None)
passed true rest x h = (refl, h)
passed false rest x h = absurd cc

pub few_and_good : (few : Option DmRefusal) (bad : Option ℕ) → first_refusal (few ∷ bad_region bad ∷ []) ≡ None → (few ≡ None) × (bad ≡ None)
few_and_good None None h = (refl, refl)
few_and_good None (Some index) h = absurd cc
few_and_good (Some why) bad h = absurd cc

-- ---- within wider limits

module _ (limits : Limits) (countable : IsCountable limits) where
  region_countable : (before : Option Region) (r : Region) → is_region limits before r ≡ true → is_region widest_limits before r ≡ true
  region_countable before r is =
      let both = and_parts (nat_le r.flags all_flags && nat_le (r.offset + r.size) limits.bytes) (is_behind before r) is in
      let own = and_parts (nat_le r.flags all_flags) (nat_le (r.offset + r.size) limits.bytes) both.0 in
      let ends : r.offset + r.size ≤ file_bytes = omega (arith, leb-true (r.offset + r.size) limits.bytes own.1, countable.0) in
      rw (own.0, le-leb (r.offset + r.size) file_bytes ends, both.1) refl

  none_bad : (index : ℕ) (before : Option Region) (rs : List Region) → first_bad limits index before rs ≡ None → first_bad widest_limits index before rs ≡ None
  none_bad index before [] h = refl
  none_bad index before (r ∷ rs) h =
      let is = passed (is_region limits before r) (first_bad limits (index + 1) (Some r) rs) index h in
      rw (region_countable before r is.0) (none_bad (index + 1) (Some r) rs is.1)

  pub regions_countable : (rs : List Region) → regions_refusal limits rs ≡ None → regions_refusal widest_limits rs ≡ None
  regions_countable rs none =
      let both = few_and_good (too_many_regions limits rs) (first_bad limits 0 None rs) none in
      let few = leb-true (length rs) limits.regions (passed (nat_le (length rs) limits.regions) None (TooMany (length rs)) both.0).0 in
      let count : length rs ≤ file_regions = omega (arith, few, countable.1) in
      rw (le-leb (length rs) file_regions count, none_bad 0 None rs both.1) refl
