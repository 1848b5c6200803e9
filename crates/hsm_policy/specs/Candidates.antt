-- Which segments of a table may be picked, and in which order.
use Rattle.std.specs.Prelude.{ℕ, List, [], ◌∷◌, Bool, true, false, ◌&&◌, nat_lt, ◌^◌, if◌then◌else◌, Option, Some, None}
use Rattle.std.specs.Cmp.Lexicographic.{slice_cmp}
use Rattle.std.specs.List.{filter_map, flat_map, enumerate_from}
use Rattle.std.specs.List.Sorted.{IsPermutation, IsSortedByKey, IsStableByKey}
use Rattle.std.specs.Ordering.{nat_cmp}
use Rattle.hsm_types.specs.declared.stubs.Segment.{Segment}
use Rattle.hsm_types.specs.declared.stubs.Segment.TheVariants.{Resident, Sealed, Offline}
use Rattle.hsm_types.specs.declared.tables.FileRow.{FileRow}
use Rattle.hsm_types.specs.declared.tables.Table.{Table}
use Rattle.hsm_policy.specs.declared.candidates.Candidate.{Candidate}

-- how many blocks of the segment are mapped
abbrev pub mapped : Segment → ℕ
mapped (Resident blocks) = blocks
mapped (Sealed blocks entry) = blocks
mapped (Offline entry) = 0

abbrev pub is_sealed : Segment → Bool
is_sealed (Resident blocks) = false
is_sealed (Sealed blocks entry) = true
is_sealed (Offline entry) = false

-- the segment of that number, where it has a mapped block. A number has 32 bits
abbrev pub offered : FileRow → ℕ × Segment → Option Candidate
offered row s =
    if nat_lt 0 (mapped s.1) && nat_lt s.0 (2 ^ 32)
    then Some (record { stamp = row.stamp; handle = row.handle; segment = s.0; blocks = mapped s.1; sealed = is_sealed s.1 })
    else None

-- those of a file, and of all files, as the table has them
abbrev pub offered_by : FileRow → List Candidate
offered_by row = filter_map (offered row) (enumerate_from 0 row.segments)

abbrev pub candidates : Table → List Candidate
candidates table = flat_map offered_by table.files

-- what they are ordered by: stamp, handle, segment
abbrev pub rank : Candidate → List ℕ
rank c = c.stamp ∷ c.handle.fsid ∷ c.handle.key.ino ∷ c.handle.key.igen ∷ c.segment ∷ []

-- the second list has the items of the first in this order, and those of one rank as they stood
pub record InOrder (given sorted : List Candidate) : Type 0 where
  pub same : IsPermutation given sorted
  pub ascending : IsSortedByKey rank (slice_cmp nat_cmp) sorted
  pub stable : IsStableByKey rank (slice_cmp nat_cmp) given sorted
