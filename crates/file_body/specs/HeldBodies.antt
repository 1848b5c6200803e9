-- What is held of a body: its bytes, with zeros in the place of segments that are away, and which segments are away.
use Rattle.std.specs.Prelude.{◌≡◌, ℕ, ◌/◌, ◌<◌, ◌≤◌, List, [], length, replicate, Bool, true, false, map, get_or}
use Rattle.hsm_types.specs.Limits.{segment_bytes}

pub record HeldBody : Type 0 where
  pub bytes : List ℕ
  pub away : List Bool  -- for each segment, from 0

abbrev pub no_body : HeldBody
no_body = record { bytes = []; away = [] }

abbrev pub is_away : HeldBody → ℕ → Bool
is_away b j = get_or b.away j false

-- each byte of the range is here
abbrev pub AreHere : ℕ → ℕ → HeldBody → Type 0
AreHere from to b = (i : ℕ) → from ≤ i → i < to → is_away b (i / segment_bytes) ≡ false

-- no segment goes away
abbrev pub KeepsHere : HeldBody → HeldBody → Type 0
KeepsHere old new = (j : ℕ) → is_away new j ≡ true → is_away old j ≡ true

-- and none comes
abbrev pub SameAway : HeldBody → HeldBody → Type 0
SameAway old new = (j : ℕ) → is_away new j ≡ is_away old j

-- they are zeros alone
abbrev pub AreZeros : List ℕ → Type 0
AreZeros bytes = bytes ≡ replicate (length bytes) 0

-- no byte of the range is in the segment
abbrev pub Misses : ℕ → ℕ → ℕ → Type 0
Misses from to j = (i : ℕ) → from ≤ i → i < to → i / segment_bytes ≡ j → ⊥

-- ---- one segment

-- its bytes, zeros where it is away
pub record HeldSegment : Type 0 where
  pub bytes : List ℕ
  pub away : Bool

-- the bytes of each segment
abbrev pub pieces : List HeldSegment → List (List ℕ)
pieces segments = map (λ s. s.bytes) segments

-- which segments are away
abbrev pub aways : List HeldSegment → List Bool
aways segments = map (λ s. s.away) segments

-- that segment is away
abbrev pub stands_away : List HeldSegment → ℕ → Bool
stands_away segments j = get_or (aways segments) j false
