-- Reading the bytes of messages from left to right.
use Rattle.std.specs.Prelude.{ℕ, zero, suc, ◌+◌, List, [], ◌∷◌, length, take, drop, replicate, Bool, not, ◌==◌, ◌&&◌, nat_lt, nat_le, if◌then◌else◌}
use Rattle.std.specs.Prelude.{Option, Some, None}
use Rattle.std.specs.Option.{option_map, option_and_then}
use Rattle.std.specs.Str.{bytes_eq}
use Rattle.byteorder.specs.Endian.{big_number}
use Rattle.hsm_types.specs.Limits.{data_bytes}
use Rattle.hsm_types.specs.Messages.{rounded_up, packed}
use Rattle.hsm_types.specs.declared.dm.Kind.{Kind}
use Rattle.hsm_types.specs.declared.dm.Kind.TheVariants.{Read, Write, Truncate, NoSpace, User}
use Rattle.hsm_types.specs.declared.keys.Handle.{Handle}
use Rattle.hsm_types.specs.declared.keys.Token.{Token}
use Rattle.hsm_types.specs.declared.messages.Message.{Message}
use Rattle.event_msgs.specs.declared.reading.Header.{Header}

-- the kind of that number
abbrev pub kind_of : ℕ → Option Kind
kind_of n =
    if n == 1 then Some Read else if n == 2 then Some Write else if n == 3 then Some Truncate else if n == 4 then Some NoSpace else if n == 5 then Some User else None

-- the header in front, whose last four bytes are zeros
unfoldable pub header_at : List ℕ → Option Header
header_at bytes =
    if nat_lt (length bytes) 24 then None else
    if big_number 4 (drop 20 bytes) == 0 then
    option_map (λ kind. record { next = big_number 4 bytes; kind = kind; token = record { 0 = big_number 8 (drop 8 bytes) }; size = big_number 4 (drop 16 bytes) }) (kind_of (big_number 4 (drop 4 bytes)))
    else None

-- what a message with this rest behind it says of that
abbrev pub next_before : ℕ → List ℕ → ℕ
next_before len [] = 0
next_before len (byte ∷ rest) = len

abbrev pub is_zeros : List ℕ → Bool
is_zeros bytes = bytes_eq bytes (replicate (length bytes) 0)

-- the bytes hold the message, it says right what is behind it, and its padding is zeros
unfoldable pub holds_message : Header → List ℕ → Bool
holds_message h bytes =
    let len = 24 + rounded_up h.size in
    nat_le len (length bytes) && (h.next == next_before len (drop len bytes) && is_zeros (drop (24 + h.size) (take len bytes)))

-- the header, the payload, and the rest behind the message
unfoldable pub frame_at : List ℕ → Option (Header × List ℕ × List ℕ)
frame_at bytes = option_and_then
    (λ h. if holds_message h bytes then Some (h, take h.size (drop 24 bytes), drop (24 + rounded_up h.size) bytes) else None)
    (header_at bytes)

abbrev pub handle_in : List ℕ → Handle
handle_in payload = record { fsid = big_number 8 payload; key = record { ino = big_number 8 (drop 8 payload); igen = big_number 8 (drop 16 payload) } }

-- a payload that is one of that kind, the length of a truncate being 0
abbrev pub is_payload : Kind → Token → List ℕ → Bool
is_payload User token payload = nat_le (length payload) data_bytes
is_payload Truncate token payload = length payload == 40 && (not (token.0 == 0) && big_number 8 (drop 32 payload) == 0)
is_payload kind token payload = length payload == 40 && not (token.0 == 0)

abbrev pub own_message : Token → List ℕ → Message
own_message token payload = record { kind = User; token = token; handle = None; offset = 0; length = 0; body = payload }

abbrev pub access_message : Kind → Token → List ℕ → Message
access_message kind token payload = record { kind = kind; token = token; handle = Some (handle_in payload); offset = big_number 8 (drop 24 payload); length = big_number 8 (drop 32 payload); body = [] }

abbrev pub message_with : Kind → Token → List ℕ → Message
message_with User token payload = own_message token payload
message_with kind token payload = access_message kind token payload

unfoldable pub message_of : Kind → Token → List ℕ → Option Message
message_of kind token payload = if is_payload kind token payload then Some (message_with kind token payload) else None

-- the message in front, and the rest behind it
unfoldable pub message_at : List ℕ → Option (Message × List ℕ)
message_at bytes = option_and_then (λ f. option_map (λ m. (m, f.2)) (message_of f.0.kind f.0.token f.1)) (frame_at bytes)

-- ---- the messages of a buffer

abbrev pub first_and_more : (List ℕ → List Message) → Option (Message × List ℕ) → List Message
first_and_more others None = []
first_and_more others (Some (m, rest)) = m ∷ others rest

-- at most so many
abbrev pub messages_within : ℕ → List ℕ → List Message
messages_within zero bytes = []
messages_within (suc most) bytes = first_and_more (messages_within most) (message_at bytes)

unfoldable pub messages_in : List ℕ → List Message
messages_in bytes = messages_within (length bytes) bytes

-- those of a buffer that is in the grammar, and none of any other
unfoldable pub told : List ℕ → List Message
told bytes = if bytes_eq (packed (messages_in bytes)) bytes then messages_in bytes else []
