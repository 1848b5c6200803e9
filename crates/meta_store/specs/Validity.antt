-- What is judged of the files of a snapshot, one after the other.
use Rattle.std.specs.Prelude.{◌≡◌, ℕ, ◌+◌, ◌<◌, ◌≤◌, List, [], ◌∷◌, ◌++◌, length, map, sum_by, get_or, Bool, true, false, not}
use Rattle.std.specs.Prelude.{◌==◌, ◌&&◌, nat_lt, nat_le, None, is_some}
use Rattle.std.specs.List.{flat_map, list_any}
use Rattle.hsm_types.specs.Names.{is_name}
use Rattle.hsm_types.specs.declared.stores.Geometry.{Geometry}
use Rattle.hsm_types.specs.declared.stores.Limits.{Limits}
use Rattle.hsm_types.specs.Attributes.{bytes_of_attributes}
use Rattle.plain_model.specs.Plain.{Listed, named}
use Rattle.plain_model.specs.Blocks.{blocks_in}
use Rattle.meta_store.specs.Catalogs.{Catalog, AreLengths}
use Rattle.snapshot_text.specs.Snapshots.{SnapshotFile, snapshot_file}
use Rattle.snapshot_text.specs.FileValidity.{places_of, are_extents, are_regions, are_attributes, AreLawfulStubs, places_by}

abbrev pub listed_in : SnapshotFile → Listed
listed_in f = record { key = f.key; name = f.name }

-- the key and the name of each file
abbrev pub names_in : List SnapshotFile → List Listed
names_in files = map listed_in files

-- the disk's blocks that files use
abbrev pub places_in : List SnapshotFile → List ℕ
places_in files = flat_map (λ f. places_of f.extents) files

-- the inode of the last file, and that number where there is no file
abbrev pub last_inode : ℕ → List Listed → ℕ
last_inode n [] = n
last_inode n (l ∷ ls) = last_inode l.key.ino ls

-- what can be judged of a file by itself, what sessions keep with it aside
abbrev pub is_file : Geometry → ℕ → SnapshotFile → Bool
is_file geometry next f =
    nat_le 1 f.key.igen && nat_lt f.key.igen next && nat_le f.size geometry.limits.bytes && is_name f.name && are_extents 0 (blocks_in f.size) geometry.blocks f.extents

-- none of these places is used yet, and none of them stands twice
abbrev pub are_unused : List ℕ → List ℕ → Bool
are_unused used [] = true
are_unused used (p ∷ ps) = not (list_any (λ q. q == p) used) && are_unused (used ++ p ∷ []) ps

-- the file can stand behind those by its inode and its name, and is one by itself
abbrev pub can_follow : Geometry → ℕ → List SnapshotFile → SnapshotFile → Bool
can_follow geometry next before f =
    not (is_some (named f.name (names_in before))) && nat_lt (last_inode 0 (names_in before)) f.key.ino && nat_le f.key.ino geometry.files && is_file geometry next f

-- what that says
pub record Follows (geometry : Geometry) (next : ℕ) (before : List SnapshotFile) (f : SnapshotFile) : Type 0 where
  pub fresh : named f.name (names_in before) ≡ None
  pub above : last_inode 0 (names_in before) < f.key.ino
  pub high : f.key.ino ≤ geometry.files
  pub first : 1 ≤ f.key.igen
  pub old : f.key.igen < next
  pub size : f.size ≤ geometry.limits.bytes
  pub name : is_name f.name ≡ true
  pub extents : are_extents 0 (blocks_in f.size) geometry.blocks f.extents ≡ true

-- what the attributes of these files count
abbrev pub attribute_total_in : List SnapshotFile → ℕ
attribute_total_in files = sum_by (λ f. bytes_of_attributes f.kept.attributes) files

-- the attributes of the file and those before it count at most what the geometry allows
abbrev pub are_few : Geometry → List SnapshotFile → SnapshotFile → Bool
are_few geometry before f = nat_le (attribute_total_in before + bytes_of_attributes f.kept.attributes) geometry.attributes

-- how many stub entries these files have
abbrev pub stub_total_in : List SnapshotFile → ℕ
stub_total_in files = sum_by (λ f. length f.kept.stubs) files

-- the stub entries of the file and those before it are at most so many as the geometry allows
abbrev pub are_few_stubs : Geometry → List SnapshotFile → SnapshotFile → Bool
are_few_stubs geometry before f = nat_le (stub_total_in before + length f.kept.stubs) geometry.stubs

-- its regions and its attributes are lawful
abbrev pub is_kept : Limits → SnapshotFile → Bool
is_kept limits f = are_regions limits f.kept.regions && are_attributes None f.kept.attributes

-- the file can stand behind those, if its stub entries are lawful
abbrev pub is_next : Geometry → ℕ → List SnapshotFile → SnapshotFile → Bool
is_next geometry next before f = can_follow geometry next before f && is_kept geometry.limits f && are_few geometry before f && are_few_stubs geometry before f && are_unused (places_in before) (places_of f.extents)

-- the file can stand behind those
pub record IsNext (geometry : Geometry) (next : ℕ) (before : List SnapshotFile) (f : SnapshotFile) : Type 0 where
  pub judged : is_next geometry next before f ≡ true
  pub stubs : AreLawfulStubs f.size f.kept.regions (places_by f) f.kept.stubs

-- ---- flags of the places in use

-- the flags of exactly these places are set
abbrev pub Flags : List Bool → List ℕ → Type 0
Flags flags places = (p : ℕ) → p < length flags → get_or flags p false ≡ list_any (λ q. q == p) places

-- How far the walk over the files has come: the catalog, of that geometry and with that next generation, has these files, each entry the
-- length of its segment, and a flag of each block of the disk says whether they use it.
pub record HasTaken (kind later blocks : ℕ) (files : List SnapshotFile) (c : Catalog) (flags : List Bool) : Type 0 where
  pub geometry : c.geometry ≡ kind
  pub next : c.next ≡ later
  pub taken : map snapshot_file c.files ≡ files
  pub lengths : AreLengths c
  pub count : length flags ≡ blocks
  pub flagged : Flags flags (places_in files)
