-- Passes of callers.
use Rattle.std.specs.Prelude.{ℕ, ◌≡◌, ◌≤◌}
use Rattle.atomic_table.specs.Seated.{TableId}
use Rattle.call_seats.specs.Passes.{Knowledge}

-- the pass is that of one of so many callers, at that table
abbrev pub IsOurs : TableId → ℕ → Knowledge → Type 0
IsOurs table callers p = (p.table ≡ table) × (1 ≤ p.number) × (p.number ≤ callers)
