-- Pick: the shortest prefix of the candidates in order after whose blocks are taken away no more than `low` blocks are used, or all of them.
use Rattle.std.specs.Prelude.{◌≡◌, ℕ, ◌<◌, ◌≤◌, ◌-◌, ◌⊎◌, List, length, map, take}
use Rattle.std.specs.List.{sum_by}
use Rattle.hsm_types.specs.declared.tables.Table.{Table}
use Rattle.hsm_policy.specs.declared.candidates.Candidate.{Candidate}
use Rattle.hsm_policy.specs.declared.picking.Picked.{Picked}
use Rattle.hsm_policy.specs.Candidates.{candidates, InOrder}

abbrev pub picked : Candidate → Picked
picked c = record { handle = c.handle; segment = c.segment; sealed = c.sealed }

-- how many blocks are used once those of the first n are taken away
abbrev pub used_without : ℕ → List Candidate → ℕ → ℕ
used_without used sorted n = used - sum_by (λ (c : Candidate). c.blocks) (take n sorted)

-- the first n are enough, or all that there are
abbrev pub IsEnough : ℕ → ℕ → List Candidate → ℕ → Type 0
IsEnough used low sorted n = (used_without used sorted n ≤ low) ⊎ (n ≡ length sorted)

-- no fewer are enough
pub record IsShortest (used low : ℕ) (sorted : List Candidate) (n : ℕ) : Type 0 where
  pub within : n ≤ length sorted
  pub enough : IsEnough used low sorted n
  pub no_fewer : (m : ℕ) → m < n → ¬ IsEnough used low sorted m

pub record IsPick (table : Table) (low : ℕ) (picks : List Picked) : Type 0 where
  pub sorted : List Candidate
  pub count : ℕ
  pub ordered : InOrder (candidates table) sorted
  pub shortest : IsShortest table.used low sorted count
  pub is : picks ≡ map picked (take count sorted)
