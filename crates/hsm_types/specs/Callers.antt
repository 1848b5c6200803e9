-- The numbers of callers.
use Rattle.std.specs.Prelude.{ℕ, ◌≤◌}
use Rattle.hsm_types.specs.Limits.{callers}

-- from 1 to `callers`
abbrev pub IsCallerNumber : ℕ → Type 0
IsCallerNumber n = (1 ≤ n) × (n ≤ callers)
