-- Managed regions of a file.
use Rattle.std.specs.Prelude.{ℕ, ◌+◌, ◌*◌, ◌/◌, ◌%◌, List, [], ◌∷◌, length, Bool, true, false, not, ◌==◌, ◌&&◌, ◌||◌, nat_lt, nat_le, if◌then◌else◌}
use Rattle.std.specs.Prelude.{Option, Some, None}
use Rattle.std.specs.List.{list_any}
use Rattle.hsm_types.specs.Limits.{segment_bytes, all_flags}
use Rattle.hsm_types.specs.Refusals.{first_refusal}
use Rattle.hsm_types.specs.declared.regions.Region.{Region}
use Rattle.hsm_types.specs.declared.regions.Range.{Range}
use Rattle.hsm_types.specs.declared.stores.Limits.{Limits}
use Rattle.hsm_types.specs.declared.dm.Kind.{Kind}
use Rattle.hsm_types.specs.declared.dm.Kind.TheVariants.{Read, Write, Truncate}
use Rattle.hsm_types.specs.declared.dm.DmRefusal.{DmRefusal}
use Rattle.hsm_types.specs.declared.dm.DmRefusal.TheVariants.{TooMany, BadRegion}

-- ---- which lists a file may have

-- the region starts where the one before it has ended. One of size 0 never ends
abbrev pub is_behind : Option Region → Region → Bool
is_behind None r = true
is_behind (Some before) r = not (before.size == 0) && nat_le (before.offset + before.size) r.offset

-- flags are those of accesses, the region ends within the limit of a file, and it is behind the one before it
abbrev pub is_region : Limits → Option Region → Region → Bool
is_region limits before r = nat_le r.flags all_flags && nat_le (r.offset + r.size) limits.bytes && is_behind before r

-- the index of the first that is bad behind the one before it, counted on from `index`
abbrev pub first_bad : Limits → ℕ → Option Region → List Region → Option ℕ
first_bad limits index before [] = None
first_bad limits index before (r ∷ rs) = if is_region limits before r then first_bad limits (index + 1) (Some r) rs else Some index

abbrev pub too_many_regions : Limits → List Region → Option DmRefusal
too_many_regions limits rs = if nat_le (length rs) limits.regions then None else Some (TooMany (length rs))

abbrev pub bad_region : Option ℕ → Option DmRefusal
bad_region None = None
bad_region (Some index) = Some (BadRegion index)

-- what refuses a list, in the order of judgement
abbrev pub regions_refusal : Limits → List Region → Option DmRefusal
regions_refusal limits rs = first_refusal (too_many_regions limits rs ∷ bad_region (first_bad limits 0 None rs) ∷ [])

-- ---- what touches a region

-- the bytes from the offset on, so many of them, meet the region
abbrev pub meets : ℕ → ℕ → Region → Bool
meets offset len r = nat_lt 0 len && nat_lt r.offset (offset + len) && (r.size == 0 || nat_lt offset (r.offset + r.size))

-- the region has the flag of such accesses. Other kinds have none
abbrev pub is_flagged : Kind → Region → Bool
is_flagged Read r = r.flags % 2 == 1
is_flagged Write r = r.flags / 2 % 2 == 1
is_flagged Truncate r = r.flags / 4 % 2 == 1
is_flagged kind r = false

-- an access with that reach touches a region with its flag
abbrev pub touches : List Region → Range → Kind → Bool
touches rs reach kind = list_any (λ r. is_flagged kind r && meets reach.offset reach.len r) rs

-- the region has all three flags, and contains the whole range of the segment, also past the file's end
abbrev pub contains : ℕ → Region → Bool
contains segment r = (r.flags == all_flags) && nat_le r.offset (segment_bytes * segment) && (r.size == 0 || nat_le (segment_bytes * segment + segment_bytes) (r.offset + r.size))

-- one region covers the segment
abbrev pub covers : List Region → ℕ → Bool
covers rs segment = list_any (contains segment) rs
