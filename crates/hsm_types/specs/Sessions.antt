-- Sessions with their kinds, queues and outstanding tokens, and what calls do to them.
use Rattle.std.specs.Prelude.{ℕ, ◌+◌, ◌<◌, ◌≤◌, List, [], ◌∷◌, ◌++◌, length, map, filter, take, drop, fold, count_by, sum_by, Bool, true, false, not}
use Rattle.std.specs.Prelude.{◌==◌, ◌&&◌, ◌||◌, nat_lt, nat_le, if◌then◌else◌, Option, Some, None, is_some}
use Rattle.std.specs.List.{list_any, find}
use Rattle.std.specs.Map.{lookup, remove_entry}
use Rattle.std.specs.Option.{option_map}
use Rattle.hsm_types.specs.Limits.{live_sessions, info_bytes, user_events, data_bytes, waiting_messages}
use Rattle.hsm_types.specs.Refusals.{first_refusal}
use Rattle.hsm_types.specs.Messages.{no_kinds, takes, without_kinds, is_lawful, has_token, no_token, user_message, message_bytes, handed_out}
use Rattle.hsm_types.specs.declared.keys.Sid.{Sid}
use Rattle.hsm_types.specs.declared.keys.Token.{Token}
use Rattle.hsm_types.specs.declared.dm.Kind.{Kind}
use Rattle.hsm_types.specs.declared.dm.Kind.TheVariants.{User}
use Rattle.hsm_types.specs.declared.dm.Kinds.{Kinds}
use Rattle.hsm_types.specs.declared.dm.Response.{Response}
use Rattle.hsm_types.specs.declared.dm.DmRefusal.{DmRefusal}
use Rattle.hsm_types.specs.declared.dm.DmRefusal.TheVariants.{NoSession, NoToken, NotYours, EventsLeft, Again, TooSmall, BadResponse, TooMany}
use Rattle.hsm_types.specs.declared.messages.Message.{Message}

-- a live session
pub record LiveSession : Type 0 where
  pub info : List ℕ
  pub kinds : Kinds
  -- the messages that are not delivered yet
  pub queue : List Message
  -- those whose tokens are to be responded to, in the order of their tokens
  pub outstanding : List Message

-- how many ids were given, from 1 on; the live sessions in the order of their ids; and the messages of kinds that no session takes, in the order of
-- their tokens
pub record SessionTable : Type 0 where
  pub given : ℕ
  pub live : List (Sid × LiveSession)
  pub unrouted : List Message

abbrev pub same_sid : Sid → Sid → Bool
same_sid a b = a.0 == b.0

-- the session with that id, if it lives
abbrev pub session_of : Sid → SessionTable → Option LiveSession
session_of sid t = lookup (same_sid sid) t.live

abbrev pub lives : Sid → SessionTable → Bool
lives sid t = is_some (session_of sid t)

-- ---- what is known of a session: nothing of one that doesn't live

abbrev pub info_of : Sid → SessionTable → Option (List ℕ)
info_of sid t = option_map (λ s. s.info) (session_of sid t)

abbrev pub kinds_or_none : Option LiveSession → Kinds
kinds_or_none None = no_kinds
kinds_or_none (Some s) = s.kinds

abbrev pub queue_or_none : Option LiveSession → List Message
queue_or_none None = []
queue_or_none (Some s) = s.queue

abbrev pub outstanding_or_none : Option LiveSession → List Message
outstanding_or_none None = []
outstanding_or_none (Some s) = s.outstanding

abbrev pub kinds_of : Sid → SessionTable → Kinds
kinds_of sid t = kinds_or_none (session_of sid t)

abbrev pub queue_of : Sid → SessionTable → List Message
queue_of sid t = queue_or_none (session_of sid t)

abbrev pub outstanding_of : Sid → SessionTable → List Message
outstanding_of sid t = outstanding_or_none (session_of sid t)

abbrev pub tokens_of : List Message → List Token
tokens_of messages = map (λ (m : Message). m.token) messages

-- ---- who has a kind or a token

-- the session that takes the kind
abbrev pub taker : Kind → SessionTable → Option Sid
taker kind t = option_map (λ s. s.0) (find (λ s. takes s.1.kinds kind) t.live)

abbrev pub holds : Token → LiveSession → Bool
holds token s = list_any (has_token token) s.outstanding

-- the session to which the token is outstanding
abbrev pub owner : Token → SessionTable → Option Sid
owner token t = option_map (λ s. s.0) (find (λ s. holds token s.1) t.live)

-- the message of an outstanding token
abbrev pub message_in : Token → List Message → Option Message
message_in token messages = find (has_token token) messages

abbrev pub outstanding_to : Option LiveSession → Token → Option Message
outstanding_to s token = message_in token (outstanding_or_none s)

-- of all that is outstanding
abbrev pub outstanding_message : Token → SessionTable → Option Message
outstanding_message token t = outstanding_to (option_map (λ s. s.1) (find (λ s. holds token s.1) t.live)) token

-- ---- what refuses the creation of a session, in the order of judgement

-- the id is neither 0, for a session beside the others, nor that of a live session
abbrev pub no_session : Sid → SessionTable → Option DmRefusal
no_session old t = if old.0 == 0 || lives old t then None else Some NoSession

-- information has from 1 to `info_bytes` bytes
abbrev pub bad_info : List ℕ → Option DmRefusal
bad_info info = if nat_le 1 (length info) && nat_le (length info) info_bytes then None else Some (TooMany (length info))

-- at most `live_sessions` live, and one beside the others would be too many
abbrev pub too_many_sessions : Sid → SessionTable → Option DmRefusal
too_many_sessions old t = if old.0 == 0 && nat_le live_sessions (length t.live) then Some (TooMany live_sessions) else None

abbrev pub creation_refusal : Sid → List ℕ → SessionTable → Option DmRefusal
creation_refusal old info t = first_refusal (no_session old t ∷ bad_info info ∷ too_many_sessions old t ∷ [])

-- ---- what refuses other calls of a session

abbrev pub dead_session : Sid → SessionTable → Option DmRefusal
dead_session sid t = if lives sid t then None else Some NoSession

-- the token is outstanding to no session, or to another one
abbrev pub not_yours : Sid → Option Sid → Option DmRefusal
not_yours sid None = Some NoToken
not_yours sid (Some owner) = if same_sid owner sid then None else Some (NotYours owner)

abbrev pub bad_token : Sid → Token → SessionTable → Option DmRefusal
bad_token sid token t = not_yours sid (owner token t)

-- something is undelivered or outstanding
abbrev pub events_left : ℕ → Option DmRefusal
events_left count = if count == 0 then None else Some (EventsLeft count)

abbrev pub destruction_refusal : Sid → SessionTable → Option DmRefusal
destruction_refusal sid t = events_left (length (queue_of sid t) + length (outstanding_of sid t))

-- nothing is undelivered, or the first message doesn't fit
abbrev pub none_fits : ℕ → List Message → Option DmRefusal
none_fits room [] = Some Again
none_fits room (m ∷ more) = if nat_le (message_bytes m) room then None else Some (TooSmall (message_bytes m))

abbrev pub bad_response : Response → Option DmRefusal
bad_response response = if is_lawful response then None else Some BadResponse

-- a message has at most `data_bytes`
abbrev pub too_long : List ℕ → Option DmRefusal
too_long body = if nat_le (length body) data_bytes then None else Some (TooMany (length body))

abbrev pub is_of_user : Kind → Bool
is_of_user User = true
is_of_user kind = false

-- how many tokens of user events are outstanding
abbrev pub user_tokens : SessionTable → ℕ
user_tokens t = sum_by (λ s. count_by (λ m. is_of_user m.kind) s.1.outstanding) t.live

-- at most `user_events` of them
abbrev pub too_many_events : SessionTable → Option DmRefusal
too_many_events t = if nat_le user_events (user_tokens t) then Some (TooMany user_events) else None

abbrev pub event_refusal : List ℕ → SessionTable → Option DmRefusal
event_refusal body t = first_refusal (too_long body ∷ too_many_events t ∷ [])

-- at most `waiting_messages` without a token wait for a session
abbrev pub too_many_waiting : List Message → Option DmRefusal
too_many_waiting queue = if nat_le waiting_messages (count_by (has_token no_token) queue) then Some (TooMany waiting_messages) else None

abbrev pub sending_refusal : Sid → List ℕ → SessionTable → Option DmRefusal
sending_refusal target body t = first_refusal (dead_session target t ∷ too_long body ∷ too_many_waiting (queue_of target t) ∷ [])

-- ---- what is left

-- no session
abbrev pub no_sessions : SessionTable
no_sessions = record { given = 0; live = []; unrouted = [] }

-- the id that is given next
abbrev pub next_sid : SessionTable → Sid
next_sid t = record { 0 = t.given + 1 }

-- a session of that information: a new one has nothing, one that takes over another has all that was its
abbrev pub heir : List ℕ → Option LiveSession → LiveSession
heir info None = record { info = info; kinds = no_kinds; queue = []; outstanding = [] }
heir info (Some s) = record s { info = info }

-- a session with the next id, in the place of the old one where that lives
abbrev pub with_session : Sid → List ℕ → SessionTable → SessionTable
with_session old info t = record t { given = t.given + 1; live = remove_entry (same_sid old) t.live ++ (next_sid t, heir info (session_of old t)) ∷ [] }

abbrev pub without_session : Sid → SessionTable → SessionTable
without_session sid t = record t { live = remove_entry (same_sid sid) t.live }

-- the session with that id is changed
abbrev pub change_live : Sid → (LiveSession → LiveSession) → List (Sid × LiveSession) → List (Sid × LiveSession)
change_live sid change [] = []
change_live sid change (s ∷ rest) = if same_sid sid s.0 then (s.0, change s.1) ∷ rest else s ∷ change_live sid change rest

abbrev pub change_session : Sid → (LiveSession → LiveSession) → SessionTable → SessionTable
change_session sid change t = record t { live = change_live sid change t.live }

-- without these kinds
abbrev pub loses : Kinds → LiveSession → LiveSession
loses kinds s = record s { kinds = without_kinds kinds s.kinds }

abbrev pub queued : List Message → LiveSession → LiveSession
queued messages s = record s { queue = s.queue ++ messages }

-- The session takes these kinds and no others, and no other session takes them. The unrouted messages of these kinds join its queue
abbrev pub with_kinds : Sid → Kinds → SessionTable → SessionTable
with_kinds sid kinds t = record t {
  live = change_live sid (λ s. queued (filter (λ m. takes kinds m.kind) t.unrouted) (record s { kinds = kinds })) (map (λ (s : Sid × LiveSession). (s.0, loses kinds s.1)) t.live);
  unrouted = filter (λ m. not (takes kinds m.kind)) t.unrouted;
}

-- to the session that takes its kind, else unrouted
abbrev pub posted_to : Option Sid → Message → SessionTable → SessionTable
posted_to None m t = record t { unrouted = t.unrouted ++ m ∷ [] }
posted_to (Some sid) m t = change_session sid (queued (m ∷ [])) t

abbrev pub posted : Message → SessionTable → SessionTable
posted m t = posted_to (taker m.kind t) m t

-- one message more, in the order of their tokens
abbrev pub put_message : List Message → Message → List Message
put_message [] m = m ∷ []
put_message (n ∷ more) m = if nat_lt m.token.0 n.token.0 then m ∷ n ∷ more else n ∷ put_message more m

abbrev pub put_messages : List Message → List Message → List Message
put_messages l messages = fold put_message l messages

-- those that want a response
abbrev pub with_tokens : List Message → List Message
with_tokens messages = filter (λ m. not (has_token no_token m)) messages

-- the first so many are handed out. Those that want a response are outstanding then
abbrev pub hands_out : ℕ → LiveSession → LiveSession
hands_out count s = record s { queue = drop count s.queue; outstanding = put_messages s.outstanding (with_tokens (take count s.queue)) }

abbrev pub delivered : Sid → ℕ → SessionTable → SessionTable
delivered sid count t = change_session sid (hands_out count) t

-- what fits is delivered
abbrev pub delivered_within : Sid → ℕ → ℕ → SessionTable → SessionTable
delivered_within sid most room t = delivered sid (length (handed_out most room (queue_of sid t))) t

-- the token is outstanding no longer
abbrev pub without_token : Token → List Message → List Message
without_token token messages = filter (λ m. not (has_token token m)) messages

abbrev pub responded : Sid → Token → SessionTable → SessionTable
responded sid token t = change_session sid (λ s. record s { outstanding = without_token token s.outstanding }) t

-- an event of the session's own is outstanding at once
abbrev pub user_event : Sid → Token → List ℕ → SessionTable → SessionTable
user_event sid token body t = change_session sid (λ s. record s { outstanding = put_message s.outstanding (user_message token body) }) t

-- a message without a token waits for the session
abbrev pub sent : Sid → List ℕ → SessionTable → SessionTable
sent target body t = change_session target (queued (user_message no_token body ∷ [])) t

-- ---- where tokens stand

abbrev pub places_in : Token → LiveSession → ℕ
places_in token s = count_by (has_token token) s.queue + count_by (has_token token) s.outstanding

-- at how many places a token stands: unrouted, in a queue, or outstanding
abbrev pub places : Token → SessionTable → ℕ
places token t = count_by (has_token token) t.unrouted + sum_by (λ s. places_in token s.1) t.live

-- it is above each token that stands anywhere
abbrev pub IsNewToken : Token → SessionTable → Type 0
IsNewToken token t = (0 < token.0) × ((u : Token) → 0 < places u t → u.0 < token.0)

-- ---- the order of ids

-- the ids ascend, above the first number and up to the second
abbrev pub Ascend : ℕ → ℕ → List (Sid × LiveSession) → Type 0
Ascend low high [] = Unit {0}
Ascend low high (s ∷ rest) = (low < s.0.0) × (s.0.0 ≤ high) × Ascend s.0.0 high rest
