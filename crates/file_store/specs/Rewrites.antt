-- Changes of the bytes of a file, and the records that they are.
use Rattle.std.specs.Prelude.{◌≡◌, ℕ, ◌+◌, ◌-◌, ◌*◌, ◌<◌, ◌≤◌, ◌==◌, ◌&&◌, nat_lt, not, min, max, Bool, true, false, List, [], ◌∷◌, ◌++◌, length}
use Rattle.std.specs.Prelude.{map, take, drop, replicate, get_or, Option, Some, None, is_some}
use Rattle.std.specs.List.{flat_map, list_any, AllByRecursion}
use Rattle.hsm_types.specs.Limits.{file_bytes, file_segments, segment_bytes}
use Rattle.hsm_types.specs.Segments.{meets_segment}
use Rattle.hsm_types.specs.declared.stores.Limits.{Limits}
use Rattle.hsm_types.specs.Stubs.{Stubs, stub_at, offline_at}
use Rattle.hsm_types.specs.declared.stubs.Stub.{Stub as StubOf}
use Rattle.plain_model.specs.Effects.{Effect, Writes, Resizes, Restores}
use Rattle.plain_model.specs.Plain.{segment as segment_of}
use Rattle.plain_model.specs.Blocks.{blocks_in, touched, size_after}
use Rattle.plain_model.specs.State.{rekept}
use Rattle.block_space.specs.Space.{Space, free}
use Rattle.file_body.specs.HeldBodies.{HeldBody, is_away, AreHere, AreZeros}
use Rattle.snapshot_text.specs.declared.snapshot.Mapping.{Mapping}
use Rattle.journal_records.specs.declared.records.Record.{Record}
use Rattle.journal_records.specs.declared.records.Record.TheVariants.{Size, Map, Stub}
use Rattle.snapshot_text.specs.Files.{CatalogFile, present}
use Rattle.snapshot_text.specs.FileRecords.{places_fitted, places_set, mappings_from}
use Rattle.file_store.specs.declared.rewrites.Rewrite.{Rewrite}
use Rattle.file_store.specs.declared.rewrites.Rewrite.TheVariants.{Write, Resize, Restore}

abbrev pub effect_of : Rewrite → Effect
effect_of (Write offset bytes) = Writes offset bytes.now
effect_of (Resize size) = Resizes size
effect_of (Restore segment bytes) = Restores segment bytes.now

-- what is written has bytes, and no file has more than `file_bytes` after it, which the code can count
abbrev pub IsRewrite : Rewrite → Type 0
IsRewrite (Write offset bytes) = (1 ≤ length bytes.now) × (offset + length bytes.now ≤ file_bytes)
IsRewrite (Resize size) = size ≤ file_bytes
IsRewrite (Restore segment bytes) = (1 ≤ length bytes.now) × (length bytes.now ≤ segment_bytes) × (segment_bytes * segment + length bytes.now ≤ file_bytes)

-- nor has it more than the limits allow: a restore leaves the size
abbrev pub IsAllowedBy : Limits → Rewrite → Type 0
IsAllowedBy limits (Write offset bytes) = offset + length bytes.now ≤ limits.bytes
IsAllowedBy limits (Resize size) = size ≤ limits.bytes
IsAllowedBy limits (Restore segment bytes) = Unit {0}

-- a segment comes back within the file, which has that size
abbrev pub IsWithin : Rewrite → ℕ → Type 0
IsWithin (Restore segment bytes) size = segment_bytes * segment + length bytes.now ≤ size
IsWithin change size = Unit {0}

-- and by an entry that it has
abbrev pub HasEntry : Rewrite → Stubs → Type 0
HasEntry (Restore segment bytes) stubs = (stub : StubOf) × (stub_at segment stubs ≡ Some stub)
HasEntry change stubs = Unit {0}

-- of a body: its size after the change, and the blocks that the change touches
abbrev pub new_size : Rewrite → List ℕ → ℕ
new_size change body = size_after (effect_of change) (length body)

abbrev pub touched_of : Rewrite → List ℕ → List ℕ
touched_of change body = touched (effect_of change) (length body)

-- zeros behind the body, up to that size
abbrev pub grown : ℕ → List ℕ → List ℕ
grown size body = body ++ replicate (size - length body) 0

-- the lowest free places for the blocks that it touches
abbrev pub places_for : Rewrite → List ℕ → Space → List ℕ
places_for change body space = take (length (touched_of change body)) (free space)

-- ---- which segments are in memory

-- that which comes back
abbrev pub brings : Rewrite → ℕ → Bool
brings (Restore segment bytes) j = j == segment
brings change j = false

-- it is offline
abbrev pub BringsOffline : Rewrite → Stubs → Type 0
BringsOffline (Restore segment bytes) stubs = offline_at stubs segment ≡ true
BringsOffline change stubs = Unit {0}

-- and away from the body
abbrev pub BringsAway : Rewrite → HeldBody → Type 0
BringsAway (Restore segment bytes) body = is_away body segment ≡ true
BringsAway change body = Unit {0}

-- The body, as it was and with the memory for the change: for zeros up to the new size, and for the segment that comes back.
pub record HasRoom (change : Rewrite) (old new : HeldBody) : Type 0 where
  pub bytes : new.bytes ≡ grown (new_size change old.bytes) old.bytes
  pub away : (j : ℕ) → is_away new j ≡ (is_away old j && not (brings change j))
  -- so it can be as it was again
  pub starts : (j : ℕ) → is_away old j ≡ true → segment_bytes * j < length old.bytes
  pub zeros : (j : ℕ) → brings change j ≡ true → is_away old j ≡ true → AreZeros (segment_of j old.bytes)

-- those in which the change puts bytes
abbrev pub HasRange : Rewrite → HeldBody → Type 0
HasRange (Write offset bytes) body = AreHere offset (offset + length bytes.now) body
HasRange (Resize size) body = Unit {0}
HasRange (Restore segment bytes) body = AreHere (segment_bytes * segment) (segment_bytes * segment + length bytes.now) body

-- a cut spares the segment
abbrev pub spares : Rewrite → ℕ → Bool
spares (Resize size) j = nat_lt (segment_bytes * j) size
spares change j = true

-- ---- records

-- of a file of that size: the segment has bytes after the change, and its entry goes, since the change touches it
abbrev pub unseals : Rewrite → ℕ → ℕ → Bool
unseals (Write offset bytes) size j = meets_segment (min offset size) (offset + length bytes.now) j
unseals (Resize to) size j = meets_segment (min to size) (max to size) j && nat_lt (segment_bytes * j) to
unseals (Restore segment bytes) size j = false

-- what the file becomes, which had that size, as these of its blocks lie at new places
abbrev pub remapped : Rewrite → ℕ → List Mapping → CatalogFile → CatalogFile
remapped change size mappings f =
    record f { size = size_after (effect_of change) size; places = places_set mappings (places_fitted (size_after (effect_of change) size) f.places); kept = rekept (effect_of change) size f.kept }

-- each of these blocks at the place beside it
abbrev pub mappings_of : List ℕ → List ℕ → List Mapping
mappings_of [] places = []
mappings_of (b ∷ bs) [] = []
mappings_of (b ∷ bs) (p ∷ ps) = (record { block = b; place = p }) ∷ mappings_of bs ps

-- the places that a record gives
abbrev pub mappings_in : Record → List Mapping
mappings_in (Map ino block places) = mappings_from block places
mappings_in r = []

-- it gives some
abbrev pub IsMapOn : ℕ → Record → Type 0
IsMapOn ino (Map i block places) = (i ≡ ino) × (1 ≤ length places)
IsMapOn ino r = ⊥

-- the segment has no entry
abbrev pub unsealing : ℕ → ℕ → Record
unsealing ino j = Stub ino j None

-- The first record of a change of the file on that inode, which had that size and these entries: the new size, or the entry of the segment that comes
-- back.
abbrev pub IsHead : ℕ → Rewrite → ℕ → Stubs → Record → Type 0
IsHead ino (Restore segment bytes) size stubs r = (stub : StubOf) × (stub_at segment stubs ≡ Some stub) × (r ≡ Stub ino segment (Some (record stub { offline = false })))
IsHead ino change size stubs r = r ≡ Size ino (size_after (effect_of change) size)

-- Records that let the file on that inode become what a change leaves of it, which had that size and these entries: the first one, then those that take
-- away the entries that the change drops, and then places in their order.
pub record IsRewriting (ino : ℕ) (change : Rewrite) (size : ℕ) (stubs : Stubs) (mappings : List Mapping) (records : List Record) : Type 0 where
  pub first : Record
  pub segments : List ℕ
  pub maps : List Record
  pub are : records ≡ first ∷ map (unsealing ino) segments ++ maps
  pub head : IsHead ino change size stubs first
  pub only : AllByRecursion (λ j. unseals change size j ≡ true) segments
  pub every : (j : ℕ) → unseals change size j ≡ true → is_some (stub_at j stubs) ≡ true → list_any (λ s. s == j) segments ≡ true
  pub few : length segments ≤ file_segments
  pub each : AllByRecursion (IsMapOn ino) maps
  pub all : flat_map mappings_in maps ≡ mappings

-- Behind records those that take the entries away of the segments from the first number up to the second.
pub record AreUnsealed (ino from to : ℕ) (stubs : Stubs) (before after : List Record) : Type 0 where
  pub segments : List ℕ
  pub are : after ≡ before ++ map (unsealing ino) segments
  pub only : AllByRecursion (λ j. (from ≤ j) × (j < to)) segments
  pub every : (j : ℕ) → from ≤ j → j < to → is_some (stub_at j stubs) ≡ true → list_any (λ s. s == j) segments ≡ true
  pub few : length segments ≤ to - from

-- ---- blocks that it frees

-- the places that these blocks of the file had
abbrev pub places_under : List ℕ → List (Option ℕ) → List (Option ℕ)
places_under blocks places = map (λ b. get_or places b None) blocks

-- of a file with these places, which gets that size, and new places for these blocks: those past the end, and the old ones
abbrev pub freed_by : ℕ → List ℕ → List (Option ℕ) → List ℕ
freed_by size touched places = present (drop (blocks_in size) places) ++ present (places_under touched places)
