-- What a store keeps of one file beside its bytes.
use Rattle.std.specs.Prelude.{◌≡◌, ℕ, ◌*◌, ◌<◌, ◌≤◌, ◌^◌, ◌==◌, List, [], ◌∷◌, length, take, drop, true, if◌then◌else◌, Option, Some, None}
use Rattle.std.specs.List.{AllByRecursion}
use Rattle.std.specs.List.Sorted.{IsStrictlySortedBy}
use Rattle.std.specs.Map.{keys_of}
use Rattle.std.specs.Ordering.{nat_cmp}
use Rattle.hsm_types.specs.Limits.{segment_blocks, small_geometry, large_geometry}
use Rattle.hsm_types.specs.Names.{is_name}
use Rattle.hsm_types.specs.declared.keys.FileKey.{FileKey}
use Rattle.hsm_types.specs.declared.stores.Geometry.{Geometry}
use Rattle.hsm_types.specs.declared.stores.Limits.{Limits}
use Rattle.hsm_types.specs.Regions.{regions_refusal}
use Rattle.hsm_types.specs.Segments.{segment_len}
use Rattle.hsm_types.specs.Attributes.{AreAttributes}
use Rattle.hsm_types.specs.Kept.{Kept}
use Rattle.hsm_types.specs.Stubs.{FitsFile, entry_place, entry_print, entry_at}
use Rattle.hsm_types.specs.declared.stubs.Stub.{Stub}
use Rattle.plain_model.specs.Blocks.{blocks_in}
use Rattle.journal_records.specs.Texts.{EntryFits}

-- a file: its key, its name, its size, for each of its blocks which block of the disk has it, where a hole has none, and what sessions keep with it
pub record CatalogFile : Type 0 where
  pub key : FileKey
  pub name : List ℕ
  pub size : ℕ
  pub places : List (Option ℕ)
  pub kept : Kept

-- how much a store of geometry 0 can hold, which is small, and one of any other, which is large
unfoldable pub geometry_of : ℕ → Geometry
geometry_of geometry = if geometry == 0 then small_geometry else large_geometry

-- the disk's blocks among these places
abbrev pub present : List (Option ℕ) → List ℕ
present [] = []
present (None ∷ places) = present places
present (Some at ∷ places) = at ∷ present places

-- where the blocks of a segment lie, of a file whose blocks lie there
abbrev pub places_in_segment : ℕ → List (Option ℕ) → List (Option ℕ)
places_in_segment j places = take segment_blocks (drop (segment_blocks * j) places)

-- each number of a segment and its entry is one that its field can hold
pub record NumbersFit (x : ℕ × Stub) : Type 0 where
  pub segment : x.0 < 2 ^ 32
  pub entry : EntryFits x.1.entry

-- the entry with the length of its segment of a file of that size
abbrev pub with_length : ℕ → ℕ × Stub → ℕ × Stub
with_length size x = (x.0, record x.1 { entry = entry_at (entry_place x.1.entry) (record (entry_print x.1.entry) { len = segment_len size x.0 }) })

-- but for its length the entry fits the file
abbrev pub FitsButLength : CatalogFile → ℕ × Stub → Type 0
FitsButLength f x = FitsFile f.size f.kept.regions (with_length f.size x)

-- where the entry says that the bytes of its segment are away, the segment has no blocks
abbrev pub HasNoBlocks : List (Option ℕ) → ℕ × Stub → Type 0
HasNoBlocks places x = x.1.offline ≡ true → present (places_in_segment x.0 places) ≡ []

-- what is true of each stub entry of a file
pub record IsCatalogStub (f : CatalogFile) (x : ℕ × Stub) : Type 0 where
  pub fits : FitsButLength f x
  pub away : HasNoBlocks f.places x
  pub numbers : NumbersFit x

-- each of the file's entries has the length of its segment
abbrev pub HasLengths : CatalogFile → Type 0
HasLengths f = AllByRecursion (λ x. (entry_print x.1.entry).len ≡ segment_len f.size x.0) f.kept.stubs

-- what is true of what sessions keep with each file
pub record IsLawfulKept (limits : Limits) (k : Kept) : Type 0 where
  pub regions : regions_refusal limits k.regions ≡ None
  pub attributes : AreAttributes k.attributes
  -- a name of an attribute has eight bytes
  pub eight : AllByRecursion (λ a. length a.0.0 ≡ 8) k.attributes

-- what is true of each file in a store of that geometry
pub record IsCatalogFile (geometry : Geometry) (f : CatalogFile) : Type 0 where
  pub generation : 1 ≤ f.key.igen
  pub name : is_name f.name ≡ true
  pub size : f.size ≤ geometry.limits.bytes
  pub places : length f.places ≡ blocks_in f.size
  pub within : AllByRecursion (λ b. b < geometry.blocks) (present f.places)
  pub kept : IsLawfulKept geometry.limits f.kept
  pub ascend : IsStrictlySortedBy nat_cmp (keys_of f.kept.stubs)
  pub stubs : AllByRecursion (IsCatalogStub f) f.kept.stubs
