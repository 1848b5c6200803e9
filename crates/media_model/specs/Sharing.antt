-- Drives in memory that share volumes.
use Rattle.std.specs.Prelude.{◌≡◌, ℕ, zero, suc, ◌%◌, Bool, true, false, ◌&&◌, ◌==◌, nat_lt, List, [], length, slice_get, if◌then◌else◌, Some, None, IfSome}
use Rattle.std.specs.List.{list_all}
use Rattle.std.specs.Map.{keys_of}
use Rattle.std.specs.Option.{option_map_or}
use Rattle.media_model.specs.Memory.{Held, no_objects, volume_in, has_volume}
use Rattle.media_model.specs.Faults.{Faulty}

-- the volume is one of the drive's
abbrev pub is_shared : ℕ → ℕ → ℕ → ℕ → Bool
is_shared number drives volumes v = nat_lt v volumes && (v % drives == number)

-- a drive that never fails, as one of those that may
abbrev pub never_failing : Held → Faulty
never_failing held = record { held = held; calls = 0; failing = []; damage = []; faults = 0 }

-- a drive that has its volumes, without objects, and no fault so far
pub record IsNew (number drives volumes capacity : ℕ) (d : Faulty) : Type 0 where
  pub room : d.held.capacity ≡ capacity
  pub unfailed : d.faults ≡ 0
  pub shares : (v : ℕ) → volume_in v d.held ≡ (if is_shared number drives volumes v then Some no_objects else None)

pub record AreNew (drives volumes capacity : ℕ) (ds : List Faulty) : Type 0 where
  pub count : length ds ≡ drives
  pub each : (number : ℕ) → IfSome (slice_get ds number) (IsNew number drives volumes capacity)

abbrev pub have_room : List Faulty → ℕ → Bool
have_room ds capacity = list_all (λ d. d.held.capacity == capacity) ds

abbrev pub has_shared : List Faulty → ℕ → Bool
has_shared ds v = option_map_or (λ d. has_volume v d.held) (slice_get ds (v % length ds)) false

-- each volume below that number is in its drive
abbrev pub have_volumes : List Faulty → ℕ → Bool
have_volumes ds zero = true
have_volumes ds (suc v) = have_volumes ds v && has_shared ds v

-- the drive of that number has no volume that it doesn't share
abbrev pub shares_only : ℕ → ℕ → ℕ → Faulty → Bool
shares_only number drives volumes d = list_all (is_shared number drives volumes) (keys_of d.held.volumes)

-- none of so many of the drives, from the first one on, has a volume that it doesn't share
abbrev pub first_share_only : List Faulty → ℕ → ℕ → Bool
first_share_only ds volumes zero = true
first_share_only ds volumes (suc number) = first_share_only ds volumes number && option_map_or (shares_only number (length ds) volumes) (slice_get ds number) true

abbrev pub share_only : List Faulty → ℕ → Bool
share_only ds volumes = first_share_only ds volumes (length ds)
