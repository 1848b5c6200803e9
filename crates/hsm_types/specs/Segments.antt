-- Segments of a body, of `segment_bytes` each: segment j holds the bytes from j times as many on up to the next multiple, or to the
-- body's end. A range is its first byte and its end.
use Rattle.std.specs.Prelude.{ℕ, zero, suc, ◌+◌, ◌-◌, ◌*◌, ◌/◌, ◌%◌, min, List, [], ◌∷◌, Bool, ◌==◌, ◌&&◌, nat_lt, if◌then◌else◌}
use Rattle.hsm_types.specs.Limits.{segment_bytes}

-- n numbers from a on
abbrev pub from_on : ℕ → ℕ → List ℕ
from_on a zero = []
from_on a (suc n) = a ∷ from_on (a + 1) n

-- how many segments a body of that size has
abbrev pub segments_in : ℕ → ℕ
segments_in size = (size + (segment_bytes - 1)) / segment_bytes

-- how many bytes the segment has of a body of that size
abbrev pub segment_len : ℕ → ℕ → ℕ
segment_len size j = min segment_bytes (size - segment_bytes * j)

-- the range has a byte in the segment, be it past the body's end
abbrev pub meets_segment : ℕ → ℕ → ℕ → Bool
meets_segment from to j = nat_lt from to && nat_lt from (segment_bytes * j + segment_bytes) && nat_lt (segment_bytes * j) to

-- the segments that the range meets
abbrev pub segments_met : ℕ → ℕ → List ℕ
segments_met from to = if nat_lt from to then from_on (from / segment_bytes) (segments_in to - from / segment_bytes) else []

-- the segment that has this place strictly inside
abbrev pub segment_around : ℕ → List ℕ
segment_around n = if n % segment_bytes == 0 then [] else (n / segment_bytes) ∷ []
