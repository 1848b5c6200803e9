-- How much of the store is used.
use Rattle.std.specs.Prelude.{ℕ, ◌*◌, ◌/◌, Bool, false, nat_lt, Option, Some, None}
use Rattle.migrate_daemon.specs.declared.shares.Space.{Space}

-- so many percent of the blocks, rounded down
abbrev pub share : ℕ → ℕ → ℕ
share percent total = total * percent / 100

-- more than so many percent of the blocks are used
abbrev pub is_above : ℕ → Option Space → Bool
is_above high None = false
is_above high (Some s) = nat_lt (share high s.total) s.used
