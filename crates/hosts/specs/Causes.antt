-- When a fault may be told.
use Rattle.std.specs.Prelude.{ℕ, ◌<◌, ◌≤◌, ◌≡◌, ◌⊎◌, List, length, Result, IfOk, OnErr}
use Rattle.disk_model.specs.Calls.{raised}

-- a count of faults never falls, and is one more at each failure
pub record HasCause {T E : Type 0} (before now : ℕ) (result : Result T E) : Type 0 where
  pub later : before ≤ now
  pub failed : OnErr result (now ≡ raised before)

-- to take nothing of bytes is a fault too
abbrev pub IsToldWhereNoneTaken : {E : Type 0} → ℕ → ℕ → Result ℕ E → List ℕ → Type 0
IsToldWhereNoneTaken before now result bytes = IfOk result (λ n. n ≡ 0 → 0 < length bytes → now ≡ raised before)

-- a write that took something, or was given nothing, leaves the count
abbrev pub IsQuietWhereTaken : {E : Type 0} → ℕ → ℕ → Result ℕ E → List ℕ → Type 0
IsQuietWhereTaken before now result bytes = IfOk result (λ n. (0 < n) ⊎ (length bytes ≡ 0) → now ≡ before)
