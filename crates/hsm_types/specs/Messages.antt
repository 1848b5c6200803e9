-- Messages that tell sessions of events, and the buffers in which they are handed out.
use Rattle.std.specs.Prelude.{◌≡◌, ◌≢◌, ℕ, ◌+◌, ◌-◌, ◌*◌, ◌/◌, ◌≤◌, List, [], ◌∷◌, ◌++◌, length, take, replicate, Bool, true, false, not, ◌==◌, ◌&&◌}
use Rattle.std.specs.Prelude.{nat_le, if◌then◌else◌, Option, Some, None, IsSome}
use Rattle.byteorder.specs.Endian.{big_bytes}
use Rattle.hsm_types.specs.Handles.{handle_bytes}
use Rattle.hsm_types.specs.Limits.{data_bytes, last_error}
use Rattle.hsm_types.specs.declared.dm.Kind.{Kind}
use Rattle.hsm_types.specs.declared.dm.Kind.TheVariants.{Read, Write, Truncate, NoSpace, User}
use Rattle.hsm_types.specs.declared.dm.Kinds.{Kinds}
use Rattle.hsm_types.specs.declared.dm.Response.{Response}
use Rattle.hsm_types.specs.declared.dm.Response.TheVariants.{Continue, Abort, Media}
use Rattle.hsm_types.specs.declared.keys.Handle.{Handle}
use Rattle.hsm_types.specs.declared.keys.Token.{Token}
use Rattle.hsm_types.specs.declared.messages.Message.{Message}

-- ---- kinds

abbrev pub no_kinds : Kinds
no_kinds = record { read = false; write = false; truncate = false; no_space = false }

-- the kind is among them
abbrev pub takes : Kinds → Kind → Bool
takes kinds Read = kinds.read
takes kinds Write = kinds.write
takes kinds Truncate = kinds.truncate
takes kinds NoSpace = kinds.no_space
takes kinds User = false

abbrev pub without_kinds : Kinds → Kinds → Kinds
without_kinds others kinds = record {
  read = kinds.read && not others.read;
  write = kinds.write && not others.write;
  truncate = kinds.truncate && not others.truncate;
  no_space = kinds.no_space && not others.no_space;
}

-- ---- responses

-- an abort's error is from 1 to `last_error`
abbrev pub is_lawful : Response → Bool
is_lawful Continue = true
is_lawful (Abort error) = nat_le 1 error && nat_le error last_error
is_lawful (Media fault) = true

-- ---- which messages there are

abbrev pub has_token : Token → Message → Bool
has_token t m = m.token.0 == t.0

-- a session's own message has at most `data_bytes` and nothing else; any other has a token and a handle and no bytes, and that of a truncate no length
abbrev pub IsOf : Kind → Message → Type 0
IsOf User m = (m.handle ≡ None) × (m.offset ≡ 0) × (m.length ≡ 0) × (length m.body ≤ data_bytes)
IsOf Truncate m = (m.token.0 ≢ 0) × IsSome m.handle × (m.length ≡ 0) × (m.body ≡ [])
IsOf kind m = (m.token.0 ≢ 0) × IsSome m.handle × (m.body ≡ [])

abbrev pub IsMessage : Message → Type 0
IsMessage m = IsOf m.kind m

-- of a session, with or without a token
abbrev pub user_message : Token → List ℕ → Message
user_message t body = record { kind = User; token = t; handle = None; offset = 0; length = 0; body = body }

-- no token
abbrev pub no_token : Token
no_token = record { 0 = 0 }

-- ---- how they stand in a buffer

abbrev pub kind_number : Kind → ℕ
kind_number Read = 1
kind_number Write = 2
kind_number Truncate = 3
kind_number NoSpace = 4
kind_number User = 5

abbrev pub handle_or_none : Option Handle → List ℕ
handle_or_none None = []
handle_or_none (Some h) = handle_bytes h

-- a session's own message has its bytes, any other the handle and two numbers
abbrev pub payload_of : Kind → Message → List ℕ
payload_of User m = m.body
payload_of kind m = handle_or_none m.handle ++ big_bytes 8 m.offset ++ big_bytes 8 m.length

abbrev pub payload : Message → List ℕ
payload m = payload_of m.kind m

-- the bytes of a payload: of an access 40
abbrev pub size_of : Kind → Message → ℕ
size_of User m = length m.body
size_of kind m = 40

abbrev pub payload_size : Message → ℕ
payload_size m = size_of m.kind m

-- the next multiple of 8
abbrev pub rounded_up : ℕ → ℕ
rounded_up n = (n + 7) / 8 * 8

-- the bytes that a message takes: a header of 24 bytes and the payload, rounded up
abbrev pub message_bytes : Message → ℕ
message_bytes m = 24 + rounded_up (payload_size m)

-- `next`, the kind, the token, the payload's size, and four zeros
unfoldable pub header : ℕ → Message → List ℕ
header next m = big_bytes 4 next ++ big_bytes 4 (kind_number m.kind) ++ big_bytes 8 m.token.0 ++ big_bytes 4 (payload_size m) ++ replicate 4 0

-- zeros up to the next multiple of 8
abbrev pub padding : Message → List ℕ
padding m = replicate (rounded_up (payload_size m) - payload_size m) 0

-- a message. `next` is the bytes from its start to that of the one behind it
unfoldable pub message_text : ℕ → Message → List ℕ
message_text next m = header next m ++ payload m ++ padding m

-- messages without gaps. Behind the last there is none
abbrev pub packed : List Message → List ℕ
packed [] = []
packed (m ∷ []) = message_text 0 m
packed (m ∷ n ∷ more) = message_text (message_bytes m) m ++ packed (n ∷ more)

-- ---- how many are handed out

-- the longest prefix that fits into so many bytes
abbrev pub fitting : ℕ → List Message → List Message
fitting room [] = []
fitting room (m ∷ more) = if nat_le (message_bytes m) room then m ∷ fitting (room - message_bytes m) more else []

-- the first `most`, or all for 0
abbrev pub first_or_all : {A : Type 0} → ℕ → List A → List A
first_or_all most l = if most == 0 then l else take most l

-- the messages that are handed out, at most so many of them, 0 for no bound
abbrev pub handed_out : ℕ → ℕ → List Message → List Message
handed_out most room l = fitting room (first_or_all most l)
