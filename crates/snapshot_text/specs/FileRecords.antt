-- What a record changes of the file that it is about.
use Rattle.std.specs.Prelude.{◌≡◌, ℕ, ◌+◌, ◌-◌, ◌*◌, min, List, [], ◌∷◌, ◌++◌, length, take, drop, replicate, slice_set}
use Rattle.std.specs.Prelude.{true, false, if◌then◌else◌, Option, Some, None}
use Rattle.hsm_types.specs.Limits.{segment_blocks}
use Rattle.hsm_types.specs.declared.dm.DmRefusal.{DmRefusal}
use Rattle.hsm_types.specs.Refusals.{first_refusal}
use Rattle.hsm_types.specs.Regions.{regions_refusal}
use Rattle.hsm_types.specs.Segments.{segments_in}
use Rattle.hsm_types.specs.Stubs.{Stubs, stub_at, offline_at, with_stub, without_stub, stubs_below, uncovered, too_many_stubs}
use Rattle.hsm_types.specs.declared.stores.Geometry.{Geometry}
use Rattle.hsm_types.specs.declared.stubs.Stub.{Stub as StubOf}
use Rattle.hsm_types.specs.Attributes.{with_value, without_value, setting_refusal, removal_refusal}
use Rattle.hsm_types.specs.Kept.{Kept}
use Rattle.plain_model.specs.Blocks.{blocks_in}
use Rattle.snapshot_text.specs.declared.snapshot.Mapping.{Mapping}
use Rattle.journal_records.specs.declared.records.Record.{Record}
use Rattle.journal_records.specs.declared.records.Record.TheVariants.{Make, Drop, Size, Map, Regions, SetAttr, DropAttr, Stub}
use Rattle.snapshot_text.specs.declared.file_parts.Others.{Others}
use Rattle.snapshot_text.specs.Files.{CatalogFile}

-- as many places as a body of that size has blocks: more of them are holes
abbrev pub places_fitted : ℕ → List (Option ℕ) → List (Option ℕ)
places_fitted size places = take (blocks_in size) places ++ replicate (blocks_in size - length places) None

-- these blocks of the file lie at these places from now on
abbrev pub places_set : List Mapping → List (Option ℕ) → List (Option ℕ)
places_set [] places = places
places_set (m ∷ ms) places = places_set ms (slice_set places m.block (Some m.place))

-- the blocks from that one on, each at its place
abbrev pub mappings_from : ℕ → List ℕ → List Mapping
mappings_from block [] = []
mappings_from block (p ∷ ps) = (record { block = block; place = p }) ∷ mappings_from (block + 1) ps

-- no block of the segment has a place
abbrev pub places_without : ℕ → List (Option ℕ) → List (Option ℕ)
places_without j places = take (segment_blocks * j) places ++ replicate (min segment_blocks (length places - segment_blocks * j)) None ++ drop (segment_blocks * j + segment_blocks) places

-- the file that a record is about, after it
abbrev pub file_after : Record → CatalogFile → CatalogFile
file_after (Size ino size) f = record f { size = size; places = places_fitted size f.places; kept = record f.kept { stubs = stubs_below (segments_in size) f.kept.stubs } }
file_after (Map ino block places) f = record f { places = places_set (mappings_from block places) f.places }
file_after (Regions ino regions) f = record f { kept = record f.kept { regions = regions } }
file_after (SetAttr ino name value) f = record f { kept = record f.kept { attributes = with_value name value f.kept.attributes } }
file_after (DropAttr ino name) f = record f { kept = record f.kept { attributes = without_value name f.kept.attributes } }
file_after (Stub ino j None) f = record f { kept = record f.kept { stubs = without_stub j f.kept.stubs } }
file_after (Stub ino j (Some stub)) f = record f { places = if stub.offline then places_without j f.places else f.places; kept = record f.kept { stubs = with_stub j stub f.kept.stubs } }
file_after r f = f

-- by the rules of the part that it is about, where all other files have so much, in a store of that geometry
abbrev pub part_refusal : Record → Others → Geometry → Kept → Option DmRefusal
part_refusal (Regions ino regions) others geometry k = first_refusal (regions_refusal geometry.limits regions ∷ uncovered regions k.stubs ∷ [])
part_refusal (SetAttr ino name value) others geometry k = setting_refusal name value others.attributes geometry.attributes k.attributes
part_refusal (DropAttr ino name) others geometry k = removal_refusal name k.attributes
part_refusal (Stub ino j (Some stub)) others geometry k = too_many_stubs j others.stubs geometry.stubs k.stubs
part_refusal r others geometry k = None

-- the segment goes away only by the entry that it is sealed with, and comes back only by the entry that it has
pub record FitsStub (j : ℕ) (stub : StubOf) (stubs : Stubs) : Type 0 where
  pub goes : stub.offline ≡ true → stub_at j stubs ≡ Some (record stub { offline = false })
  pub comes : stub.offline ≡ false → offline_at stubs j ≡ true → stub_at j stubs ≡ Some (record stub { offline = true })

-- it is never refused, and takes no memory: the places of blocks, and that an entry is gone or stands for bytes that are away
abbrev pub IsSure : Record → Type 0
IsSure (Map ino block places) = Unit {0}
IsSure (Stub ino j None) = Unit {0}
IsSure (Stub ino j (Some stub)) = stub.offline ≡ true
IsSure r = ⊥
