-- What is judged of one file of a snapshot.
use Rattle.std.specs.Prelude.{◌≡◌, ◌≤◌, ℕ, ◌+◌, List, [], ◌∷◌, length, map, replicate, get_or, slice_set, Bool, true, false, not}
use Rattle.std.specs.Prelude.{◌&&◌, nat_lt, nat_le, Option, Some, None, is_some}
use Rattle.std.specs.List.{AllByRecursion}
use Rattle.std.specs.Ordering.{is_lt}
use Rattle.hsm_types.specs.Limits.{value_bytes}
use Rattle.hsm_types.specs.declared.stores.Limits.{Limits}
use Rattle.hsm_types.specs.declared.attributes.AttrName.{AttrName}
use Rattle.hsm_types.specs.declared.regions.Region.{Region}
use Rattle.hsm_types.specs.Regions.{regions_refusal}
use Rattle.hsm_types.specs.Stubs.{Stubs, AreStubs}
use Rattle.hsm_types.specs.Attributes.{Attributes, name_cmp, is_reserved, bytes_of_attributes}
use Rattle.plain_model.specs.Blocks.{blocks_in}
use Rattle.snapshot_text.specs.declared.snapshot.Mapping.{Mapping}
use Rattle.snapshot_text.specs.declared.file_parts.FileParts.{FileParts}
use Rattle.snapshot_text.specs.Files.{HasNoBlocks}
use Rattle.snapshot_text.specs.FileRecords.{places_set}
use Rattle.snapshot_text.specs.Snapshots.{SnapshotFile}

abbrev pub places_of : List Mapping → List ℕ
places_of extents = map (λ e. e.place) extents

-- the extents ascend from that block on, each block is one of the file's, and each place is one of the disk's blocks
abbrev pub are_extents : ℕ → ℕ → ℕ → List Mapping → Bool
are_extents low count blocks [] = true
are_extents low count blocks (e ∷ es) = nat_le low e.block && nat_lt e.block count && nat_lt e.place blocks && are_extents (e.block + 1) count blocks es

-- nothing refuses these regions
abbrev pub are_regions : Limits → List Region → Bool
are_regions limits regions = not (is_some (regions_refusal limits regions))

-- the first name stands before the second, if there is one before it
abbrev pub stands_behind : Option AttrName → AttrName → Bool
stands_behind None name = true
stands_behind (Some before) name = is_lt (name_cmp before name)

-- the attribute can stand behind one of that name: its own isn't reserved, and its value has at most `value_bytes`
abbrev pub is_attribute : Option AttrName → AttrName × List ℕ → Bool
is_attribute before a = stands_behind before a.0 && not (is_reserved a.0) && nat_le (length a.1) value_bytes

-- each attribute can stand behind the one before it
abbrev pub are_attributes : Option AttrName → Attributes → Bool
are_attributes before [] = true
are_attributes before (a ∷ attrs) = is_attribute before a && are_attributes (Some a.0) attrs

-- the segment stands behind the first one, if there is one before it
abbrev pub is_above : Option ℕ → ℕ → Bool
is_above None j = true
is_above (Some before) j = nat_lt before j

-- Stub entries of a file of that size, with these regions and its blocks at these places: at most one a segment, each of which fits, and no segment that
-- is offline has blocks.
pub record AreLawfulStubs (size : ℕ) (regions : List Region) (places : List (Option ℕ)) (stubs : Stubs) : Type 0 where
  pub fit : AreStubs size regions stubs
  pub away : AllByRecursion (HasNoBlocks places) stubs

-- the places of the file's blocks
abbrev pub places_by : SnapshotFile → List (Option ℕ)
places_by f = places_set f.extents (replicate (blocks_in f.size) None)

-- what is kept of that file beside its key, its name and its size
abbrev pub parts_said : SnapshotFile → FileParts
parts_said f = record { places = places_by f; regions = f.kept.regions; attributes = f.kept.attributes; stubs = f.kept.stubs }

-- What sessions keep with the file is lawful, where its attributes may count so many bytes, and it may have so many stub entries.
pub record MayKeep (limits : Limits) (room stub_room : ℕ) (f : SnapshotFile) : Type 0 where
  pub regions : are_regions limits f.kept.regions ≡ true
  pub attributes : are_attributes None f.kept.attributes ≡ true
  pub few : bytes_of_attributes f.kept.attributes ≤ room
  pub stubs : AreLawfulStubs f.size f.kept.regions (places_by f) f.kept.stubs
  pub few_stubs : length f.kept.stubs ≤ stub_room

-- no flag of these places is set, and none of them stands twice
abbrev pub are_free : List ℕ → List Bool → Bool
are_free [] flags = true
are_free (p ∷ ps) flags = not (get_or flags p false) && are_free ps (slice_set flags p true)
