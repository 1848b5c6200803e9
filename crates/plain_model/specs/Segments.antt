-- What sessions ask of the segments of a file: what refuses them, and what they are told.
use Rattle.std.specs.Prelude.{ℕ, ◌+◌, ◌-◌, ◌*◌, ◌/◌, ◌%◌, min, List, [], ◌∷◌, length, map, take, drop, count_by, Bool, ◌==◌, ◌&&◌, ◌||◌, nat_lt}
use Rattle.std.specs.Prelude.{nat_le, if◌then◌else◌, Option, Some, None}
use Rattle.std.specs.Option.{option_map}
use Rattle.std.specs.Str.{bytes_eq}
use Rattle.hsm_types.specs.Limits.{segment_bytes, segment_blocks, access_bytes, last_volume}
use Rattle.hsm_types.specs.Refusals.{first_refusal}
use Rattle.hsm_types.specs.Segments.{from_on, segments_in, segments_met}
use Rattle.hsm_types.specs.Stubs.{print_of, stub_at, already_offline, not_offline, any_unpunched, entry_place, entry_print}
use Rattle.hsm_types.specs.declared.dm.DmRefusal.{DmRefusal}
use Rattle.hsm_types.specs.declared.dm.DmRefusal.TheVariants.{Changed, BadRange, NoSpace}
use Rattle.hsm_types.specs.declared.stubs.Fingerprint.{Fingerprint}
use Rattle.hsm_types.specs.declared.stubs.Segment.{Segment}
use Rattle.hsm_types.specs.declared.stubs.Segment.TheVariants.{Resident, Sealed, Offline}
use Rattle.hsm_types.specs.declared.stubs.Stub.{Stub}
use Rattle.hsm_types.specs.declared.stubs.StubEntry.{StubEntry}
use Rattle.hsm_types.specs.declared.stores.Limits.{Limits}
use Rattle.hsm_types.specs.declared.stores.Superblock.{Superblock}
use Rattle.hsm_types.specs.declared.tables.FileRow.{FileRow}
use Rattle.hsm_types.specs.declared.tables.Table.{Table}
use Rattle.hsm_types.specs.declared.keys.FileKey.{FileKey}
use Rattle.plain_model.specs.declared.facts.NoRoom.{NoRoom}
use Rattle.plain_model.specs.Effects.{Effect, Writes, Restores, punch_from, punch_to}
use Rattle.plain_model.specs.Plain.{segment}
use Rattle.plain_model.specs.Blocks.{touched}
use Rattle.plain_model.specs.State.{FileState, Held, used}
use Rattle.plain_model.specs.Verdict.{short_of}

-- ---- ranges

-- an access without an event has from 1 to `access_bytes`
abbrev pub bad_access : ℕ → Option DmRefusal
bad_access len = if nat_le 1 len && nat_le len access_bytes then None else Some BadRange

-- it ends within the file
abbrev pub past_size : ℕ → ℕ → Option DmRefusal
past_size end size = if nat_le end size then None else Some BadRange

-- the segment starts below the size
abbrev pub past_end : ℕ → ℕ → Option DmRefusal
past_end j size = if nat_lt (segment_bytes * j) size then None else Some BadRange

abbrev pub bad_volume : ℕ → Option DmRefusal
bad_volume volume = if nat_le volume last_volume then None else Some BadRange

-- A punch begins at a segment of the file. It ends at a segment too, or at the file's end, or with a length of 0 goes on to that
abbrev pub ends_well : Limits → ℕ → ℕ → ℕ → Bool
ends_well limits offset len size = len == 0 || (nat_le (offset + len) limits.bytes && ((offset + len) % segment_bytes == 0 || offset + len == size))

abbrev pub bad_punch : Limits → ℕ → ℕ → ℕ → Option DmRefusal
bad_punch limits offset len size = if offset % segment_bytes == 0 && nat_lt offset size && ends_well limits offset len size then None else Some BadRange

-- what could be punched of a range: from the next segment on, and up to the end of a segment, or to that of the file
abbrev pub probe_start : ℕ → ℕ
probe_start offset = segment_bytes * segments_in offset

abbrev pub probe_end : ℕ → ℕ → ℕ → ℕ
probe_end offset len size = if len == 0 || nat_le size (offset + len) then size else segment_bytes * ((offset + len) / segment_bytes)

abbrev pub nothing_to_punch : ℕ → ℕ → ℕ → Option DmRefusal
nothing_to_punch offset len size = if nat_lt (probe_start offset) (probe_end offset len size) then None else Some BadRange

-- ---- what refuses

-- the bytes of the segment are away
abbrev pub away : FileState → ℕ → Option DmRefusal
away f j = already_offline j (stub_at j f.kept.stubs)

-- those of a segment that the range meets are
abbrev pub any_away : FileState → ℕ → ℕ → Option DmRefusal
any_away f from to = first_refusal (map (away f) (segments_met from to))

-- the effect touches more blocks of the file than are free
abbrev pub no_room : Superblock → Held → FileState → Effect → Option DmRefusal
no_room s h f effect = option_map (λ (room : NoRoom). NoSpace room.need room.free) (short_of (length (touched effect (length f.body))) (s.geometry.blocks - used h.files))

abbrev pub same_print : Fingerprint → Fingerprint → Bool
same_print a b = (a.len == b.len) && bytes_eq a.digest.0 b.digest.0

-- the bytes have another fingerprint than is wanted
abbrev pub changed_bytes : Fingerprint → List ℕ → Option DmRefusal
changed_bytes want bytes = if same_print want (print_of bytes) then None else Some (Changed want (print_of bytes))

abbrev pub changed_from : Option Stub → List ℕ → Option DmRefusal
changed_from None bytes = None
changed_from (Some stub) bytes = changed_bytes (entry_print stub.entry) bytes

-- of each call by itself, in the order of judgement
abbrev pub reading_refusal : FileState → ℕ → ℕ → Option DmRefusal
reading_refusal f offset len = first_refusal (bad_access len ∷ any_away f offset (min (offset + len) (length f.body)) ∷ [])

abbrev pub writing_refusal : Superblock → Held → FileState → ℕ → List ℕ → Option DmRefusal
writing_refusal s h f offset bytes =
    first_refusal (bad_access (length bytes) ∷ past_size (offset + length bytes) (length f.body) ∷ any_away f offset (offset + length bytes) ∷ no_room s h f (Writes offset bytes) ∷ [])

abbrev pub punch_refusal : Limits → FileState → ℕ → ℕ → Option DmRefusal
punch_refusal limits f offset len =
    first_refusal (bad_punch limits offset len (length f.body) ∷ any_unpunched f.kept.regions f.kept.stubs (punch_from offset) (min (punch_to offset len) (segments_in (length f.body))) ∷ [])

-- but for the limit of entries, which is judged last
abbrev pub seal_refusal : FileState → ℕ → StubEntry → Option DmRefusal
seal_refusal f j entry = first_refusal (past_end j (length f.body) ∷ bad_volume (entry_place entry).volume ∷ away f j ∷ changed_bytes (entry_print entry) (segment j f.body) ∷ [])

abbrev pub restore_refusal : Superblock → Held → FileState → ℕ → List ℕ → Option DmRefusal
restore_refusal s h f j bytes =
    first_refusal (past_end j (length f.body) ∷ not_offline j (stub_at j f.kept.stubs) ∷ changed_from (stub_at j f.kept.stubs) bytes ∷ no_room s h f (Restores j bytes) ∷ [])

-- ---- what is told

-- how many blocks of the segment are mapped
abbrev pub mapped_in : FileState → ℕ → ℕ
mapped_in f j = count_by (λ b. b) (take segment_blocks (drop (segment_blocks * j) f.mapped))

abbrev pub segment_as : ℕ → Option Stub → Segment
segment_as blocks None = Resident blocks
segment_as blocks (Some stub) = if stub.offline then Offline stub.entry else Sealed blocks stub.entry

-- what is held of the segment
abbrev pub segment_told : FileState → ℕ → Segment
segment_told f j = segment_as (mapped_in f j) (stub_at j f.kept.stubs)

abbrev pub segments_told : FileState → List Segment
segments_told f = map (segment_told f) (from_on 0 (segments_in (length f.body)))

abbrev pub row_of : Superblock → (FileKey → ℕ) → FileState → FileRow
row_of s stamps f = record { handle = record { fsid = s.fsid; key = f.key }; size = length f.body; stamp = stamps f.key; segments = segments_told f }

abbrev pub table_of : Superblock → (FileKey → ℕ) → Held → Table
table_of s stamps h = record { used = used h.files; total = s.geometry.blocks; files = map (row_of s stamps) h.files }
