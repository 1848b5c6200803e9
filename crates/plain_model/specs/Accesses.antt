-- Accesses: calls on the bytes of a file, which may have to wait. Of which kind their event is, which bytes they reach, which segments they need, and what
-- the message of the event says of them.
use Rattle.std.specs.Prelude.{ℕ, ◌+◌, ◌-◌, ◌==◌, min, max, List, length, [], Bool, true, false, if◌then◌else◌, Option, Some, None}
use Rattle.std.specs.List.{list_any}
use Rattle.hsm_types.specs.Segments.{segments_met, segment_around}
use Rattle.hsm_types.specs.Stubs.{Stubs, offline_at}
use Rattle.hsm_types.specs.declared.calls.Call.{Call}
use Rattle.hsm_types.specs.declared.calls.Call.TheVariants.{Read, Write, Truncate, Remove}
use Rattle.hsm_types.specs.declared.dm.Kind.{Kind}
use Rattle.hsm_types.specs.declared.dm.Kind.TheVariants as kind
use Rattle.hsm_types.specs.declared.dm.Right.{Right}
use Rattle.hsm_types.specs.declared.dm.Right.TheVariants.{Null, Shared, Excl}
use Rattle.hsm_types.specs.declared.keys.Handle.{Handle}
use Rattle.hsm_types.specs.declared.keys.Token.{Token}
use Rattle.hsm_types.specs.declared.messages.Message.{Message}
use Rattle.hsm_types.specs.declared.regions.Range.{Range}
use Rattle.plain_model.specs.declared.facts.NoRoom.{NoRoom}

-- ---- which calls may have to wait

abbrev pub is_access : Call → Bool
is_access (Read name offset len) = true
is_access (Write name offset bytes) = true
is_access (Truncate name size) = true
is_access call = false

-- a remove waits for rights alone
abbrev pub can_block : Call → Bool
can_block (Remove name) = true
can_block call = is_access call

-- the right that it needs on its file: no token may hold one that excludes it
abbrev pub need_of : Call → Right
need_of (Read name offset len) = Shared
need_of (Write name offset bytes) = Excl
need_of (Truncate name size) = Excl
need_of (Remove name) = Excl
need_of call = Null

-- only these calls want space
abbrev pub wants_space : Call → Bool
wants_space (Write name offset bytes) = true
wants_space (Truncate name size) = true
wants_space call = false

-- of which kind the event of an access is
abbrev pub kind_of : Call → Option Kind
kind_of (Read name offset len) = Some kind.Read
kind_of (Write name offset bytes) = Some kind.Write
kind_of (Truncate name size) = Some kind.Truncate
kind_of call = None

-- ---- which bytes an access of a file of that size reaches

abbrev pub reach : ℕ → Call → Range
reach size (Read name offset len) = record { offset = offset; len = min (offset + len) size - offset }
reach size (Write name offset bytes) = record { offset = min offset size; len = offset + length bytes - min offset size }
reach size (Truncate name to) = record { offset = min to size; len = max to size - min to size }
reach size call = record { offset = 0; len = 0 }

-- ---- which segments an access of a file of that size needs, where their bytes are away

abbrev pub needed : ℕ → Call → List ℕ
needed size (Read name offset len) = segments_met offset (min (offset + len) size)
needed size (Write name offset bytes) = segments_met (min offset size) (offset + length bytes)
needed size (Truncate name to) = if to == size then [] else segment_around (min to size)
needed size call = []

-- the bytes of one of them are away
abbrev pub needs : Stubs → ℕ → Call → Bool
needs stubs size call = list_any (offline_at stubs) (needed size call)

-- ---- the message of its event

-- where it begins and its bytes; of a truncate the new size and 0
abbrev pub span : Call → Range
span (Read name offset len) = record { offset = offset; len = len }
span (Write name offset bytes) = record { offset = offset; len = length bytes }
span (Truncate name to) = record { offset = to; len = 0 }
span call = record { offset = 0; len = 0 }

abbrev pub room_or_none : Option NoRoom → NoRoom
room_or_none None = record { need = 0; free = 0 }
room_or_none (Some room) = room

-- the two numbers of the message: of an access that is short of space the blocks that it needs and those that are free
abbrev pub told_span : Call → Option NoRoom → Kind → Range
told_span call short kind.NoSpace = record { offset = (room_or_none short).need; len = (room_or_none short).free }
told_span call short kind = span call

abbrev pub event_message : Kind → Token → Handle → Range → Message
event_message kind t handle told = record { kind = kind; token = t; handle = Some handle; offset = told.offset; length = told.len; body = [] }
