-- Laws on the regions of a file.
use Rattle.std.specs.Prelude.{◌≡◌, ℕ, ◌+◌, ◌<◌, ◌≤◌, List, true, false, Some, None, slice_get}
use Rattle.hsm_types.specs.declared.regions.Region.{Region}
use Rattle.hsm_types.specs.declared.stores.Limits.{Limits}
use Rattle.hsm_types.specs.Regions.{meets, regions_refusal}

-- the first region ends, no later than where the second starts, and no byte meets both
pub record AreApart (a b : Region) : Type 0 where
  pub ends : 0 < a.size
  pub in_order : a.offset + a.size ≤ b.offset
  pub no_byte : (n : ℕ) → meets n 1 a ≡ true → meets n 1 b ≡ false

-- where nothing refuses the list, each region is apart from every later one
abbrev pub LawfulStandApart : Limits → List Region → Type 0
LawfulStandApart limits rs = regions_refusal limits rs ≡ None → (i j : ℕ) (a b : Region) → i < j → slice_get rs i ≡ Some a → slice_get rs j ≡ Some b → AreApart a b
