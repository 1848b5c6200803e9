-- The text of a store's summary: a line for each of its numbers, one for each file, and two for the counts of classes, where there are some.
use Rattle.std.specs.Prelude.{◌≡◌, ℕ, List, [], ◌∷◌, ◌++◌, length, codes, count_by, Bool, true, false, Option, Some, None}
use Rattle.std.specs.Cmp.Lexicographic.{slice_cmp}
use Rattle.std.specs.Fmt.{decimal}
use Rattle.std.specs.List.{flat_map, zip}
use Rattle.std.specs.List.Sorted.{IsPermutation, IsSortedByKey, IsStableByKey}
use Rattle.std.specs.Ordering.{nat_cmp}
use Rattle.hsm_types.specs.declared.stubs.Segment.{Segment}
use Rattle.hsm_types.specs.declared.stubs.Segment.TheVariants.{Resident, Sealed, Offline}
use Rattle.hsm_types.specs.declared.tables.FileRow.{FileRow}
use Rattle.hsm_types.specs.Words.{spaced, key_word}
use Rattle.store_summary.specs.declared.states.StateCounts.{StateCounts}
use Rattle.store_summary.specs.declared.summaries.ClassCounts.{ClassCounts}
use Rattle.store_summary.specs.declared.summaries.Summary.{Summary}

abbrev pub is_resident : Segment → Bool
is_resident (Resident blocks) = true
is_resident (Sealed blocks entry) = false
is_resident (Offline entry) = false

abbrev pub is_sealed : Segment → Bool
is_sealed (Resident blocks) = false
is_sealed (Sealed blocks entry) = true
is_sealed (Offline entry) = false

abbrev pub is_offline : Segment → Bool
is_offline (Resident blocks) = false
is_offline (Sealed blocks entry) = false
is_offline (Offline entry) = true

-- how many of the segments are of each state
abbrev pub states_of : List Segment → StateCounts
states_of segments = record { resident = count_by is_resident segments; sealed = count_by is_sealed segments; offline = count_by is_offline segments }

-- the segments of all files
abbrev pub all_segments : List FileRow → List Segment
all_segments files = flat_map (λ (row : FileRow). row.segments) files

abbrev pub state_words : StateCounts → List (List ℕ)
state_words n = decimal n.resident ∷ decimal n.sealed ∷ decimal n.offline ∷ []

-- words with a space between each two, and a newline
abbrev pub line : List (List ℕ) → List ℕ
line words = spaced words ++ codes "\n"

abbrev pub number_lines : Summary → List ℕ
number_lines s =
    line (codes "number" ∷ decimal s.number ∷ [])
    ++ line (codes "files" ∷ decimal (length s.table.files) ∷ [])
    ++ line (codes "blocks" ∷ decimal s.table.used ∷ decimal s.table.total ∷ [])
    ++ line (codes "segments" ∷ state_words (states_of (all_segments s.table.files)))

-- a file with its name
abbrev pub file_line : FileRow × List ℕ → List ℕ
file_line f = line (f.1 ∷ decimal f.0.size ∷ key_word f.0.handle.key ∷ state_words (states_of f.0.segments))

abbrev pub class_lines : Option ClassCounts → List ℕ
class_lines None = []
class_lines (Some c) =
    line (codes "objects" ∷ decimal c.live ∷ decimal c.dead ∷ [])
    ++ line (codes "entries" ∷ decimal c.held ∷ decimal c.missing ∷ decimal c.altered ∷ [])

-- all lines, those of files as they stand here
abbrev pub show_lines : Summary → Option ClassCounts → List (FileRow × List ℕ) → List ℕ
show_lines s classes files = number_lines s ++ flat_map file_line files ++ class_lines classes

-- the second list has the files of the first in byte order of names, and those of one name as they stood
pub record InOrder (given sorted : List (FileRow × List ℕ)) : Type 0 where
  pub same : IsPermutation given sorted
  pub ascending : IsSortedByKey (λ f. f.1) (slice_cmp nat_cmp) sorted
  pub stable : IsStableByKey (λ f. f.1) (slice_cmp nat_cmp) given sorted

pub record ShowsText (s : Summary) (classes : Option ClassCounts) (text : List ℕ) : Type 0 where
  pub files : List (FileRow × List ℕ)
  pub ordered : InOrder (zip s.table.files s.names) files
  pub is : text ≡ show_lines s classes files
