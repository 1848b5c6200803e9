-- Settings: six numbers, each in its range.
use Rattle.std.specs.Prelude.{ℕ, ◌≤◌, ◌<◌}
use Rattle.hsm_types.specs.Limits.{most_volumes}

pub record Numbers : Type 0 where
  pub drives : ℕ
  pub volumes : ℕ
  pub capacity : ℕ
  pub high : ℕ
  pub low : ℕ
  pub workers : ℕ

-- the numbers that hold where nothing is said
abbrev pub standard : Numbers
standard = record { drives = 2; volumes = 8; capacity = 67108864; high = 80; low = 60; workers = 2 }

-- how many drives there may be, and how many threads that work them
abbrev pub most_drives : ℕ
most_drives = 8

abbrev pub most_workers : ℕ
most_workers = 8

-- the least and the most bytes that a volume may have room for
abbrev pub least_capacity : ℕ
least_capacity = 1048576

abbrev pub most_capacity : ℕ
most_capacity = 1073741824

-- the greatest limits of migration, in percent
abbrev pub most_high : ℕ
most_high = 95

abbrev pub most_low : ℕ
most_low = 94

-- the number is one of first to last
abbrev pub IsWithin : ℕ → ℕ → ℕ → Type 0
IsWithin first last n = (first ≤ n) × (n ≤ last)

-- how many drives there may be, and how many threads that work them; how many volumes, and of which capacity; and which limits, in percent
pub record AreDrives (count threads : ℕ) : Type 0 where
  pub drives : IsWithin 1 most_drives count
  pub workers : IsWithin 1 most_workers threads

pub record AreVolumes (count bytes : ℕ) : Type 0 where
  pub volumes : IsWithin 1 most_volumes count
  pub capacity : IsWithin least_capacity most_capacity bytes

pub record AreLimits (from to : ℕ) : Type 0 where
  pub high : IsWithin 1 most_high from
  pub low : IsWithin 0 most_low to
  pub apart : to < from

-- each number is in its range
pub record AreSettings (s : Numbers) : Type 0 where
  pub drives : AreDrives s.drives s.workers
  pub volumes : AreVolumes s.volumes s.capacity
  pub limits : AreLimits s.high s.low
