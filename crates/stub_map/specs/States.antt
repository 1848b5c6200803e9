-- What is held of a segment, and where the next one with an entry is.
use Rattle.std.specs.Prelude.{◌≡◌, ℕ, ◌^◌, ◌<◌, ◌≤◌, length, Option, Some, None, if◌then◌else◌, is_some, true, false}
use Rattle.std.specs.List.Sorted.{IsStrictlySortedBy}
use Rattle.std.specs.Map.{keys_of}
use Rattle.std.specs.Ordering.{nat_cmp}
use Rattle.hsm_types.specs.Stubs.{Stubs, offline_at, stub_at}
use Rattle.hsm_types.specs.declared.stubs.Stub.{Stub}
use Rattle.stub_map.specs.declared.stubs.State.{State}
use Rattle.stub_map.specs.declared.stubs.State.TheVariants.{Resident, Sealed, Offline}

-- without an entry a segment has its bytes alone
abbrev pub state_of : Option Stub → State
state_of None = Resident
state_of (Some stub) = if stub.offline then Offline stub.entry else Sealed stub.entry

-- no segment from the first number on and below the second has an entry
abbrev pub NoneBetween : ℕ → ℕ → Stubs → Type 0
NoneBetween from to stubs = (k : ℕ) → from ≤ k → k < to → stub_at k stubs ≡ None

-- no segment from there on has an entry
abbrev pub NoneFrom : ℕ → Stubs → Type 0
NoneFrom from stubs = (k : ℕ) → from ≤ k → stub_at k stubs ≡ None

-- the first segment from there on with an entry
abbrev pub IsNext : ℕ → Stubs → ℕ → Type 0
IsNext from stubs j = (from ≤ j) × (is_some (stub_at j stubs) ≡ true) × NoneBetween from j stubs

-- the bytes of no segment from the first number on and below the second are away
abbrev pub HereBetween : ℕ → ℕ → Stubs → Type 0
HereBetween from to stubs = (k : ℕ) → from ≤ k → k < to → offline_at stubs k ≡ false

-- the first segment from the first number on and below the second whose bytes are away
abbrev pub IsFirstOffline : ℕ → ℕ → Stubs → ℕ → Type 0
IsFirstOffline from to stubs j = (from ≤ j) × (j < to) × (offline_at stubs j ≡ true) × HereBetween from j stubs

-- at most one entry a segment, and no more than can be counted
pub record AreCounted (stubs : Stubs) : Type 0 where
  pub ascend : IsStrictlySortedBy nat_cmp (keys_of stubs)
  pub few : length stubs < 2 ^ 32
