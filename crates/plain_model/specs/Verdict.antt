-- What a store says to an access: rules of which the first that applies decides; where none does, the access is done.
use Rattle.std.specs.Prelude.{ℕ, ◌+◌, ◌-◌, List, [], ◌∷◌, length, map, Bool, true, false, not, ◌&&◌, ◌||◌, nat_lt, if◌then◌else◌, Option, Some, None, is_some}
use Rattle.std.specs.Option.{option_map}
use Rattle.hsm_types.specs.Refusals.{first_refusal}
use Rattle.hsm_types.specs.Messages.{no_token}
use Rattle.hsm_types.specs.Regions.{touches}
use Rattle.hsm_types.specs.Rights.{Rights, conflict}
use Rattle.hsm_types.specs.Sessions.{SessionTable, taker, posted}
use Rattle.hsm_types.specs.declared.keys.FileKey.{FileKey}
use Rattle.hsm_types.specs.declared.keys.Token.{Token}
use Rattle.hsm_types.specs.declared.stores.Superblock.{Superblock}
use Rattle.hsm_types.specs.declared.calls.Call.{Call}
use Rattle.hsm_types.specs.declared.calls.Call.TheVariants.{Create}
use Rattle.hsm_types.specs.declared.calls.CallRefusal.{CallRefusal}
use Rattle.hsm_types.specs.declared.calls.CallRefusal.TheVariants.{NoSpace}
use Rattle.hsm_types.specs.declared.calls.Reply.{Reply}
use Rattle.hsm_types.specs.declared.calls.Reply.TheVariants.{Parked, Blocked, Refused}
use Rattle.hsm_types.specs.declared.dm.Kind.{Kind}
use Rattle.hsm_types.specs.declared.dm.Kind.TheVariants as kind
use Rattle.hsm_types.specs.declared.dm.Response.{Response}
use Rattle.hsm_types.specs.declared.messages.Message.{Message}
use Rattle.plain_model.specs.declared.entries.Action.{Action}
use Rattle.plain_model.specs.declared.entries.Action.TheVariants.{Issue}
use Rattle.plain_model.specs.declared.facts.Facts.{Facts}
use Rattle.plain_model.specs.declared.facts.NoRoom.{NoRoom}
use Rattle.hsm_types.specs.Keyed.{same_key, find_key, set_at}
use Rattle.plain_model.specs.Effects.{effect_of}
use Rattle.plain_model.specs.Plain.{reply_on}
use Rattle.plain_model.specs.Accesses.{is_access, need_of, kind_of, reach, needs, told_span, event_message}
use Rattle.plain_model.specs.Ledger.{Meant, Fixed, Means, next_token, meant, objection, aborted, gone, ledger_replied}
use Rattle.plain_model.specs.Blocks.{touched}
use Rattle.plain_model.specs.State.{FileState, Held, Flags, no_flags, State, names_of, next_key, file_at, bytes_of, used, affected_held, noted}

pub data Ruling : Type 0 where
  -- the right of that token excludes the access, which waits without a token
  Blocks : Token → Ruling
  -- an event of that kind is posted, and the access parks on its token
  Posts : Kind → Ruling
  -- more blocks are needed than are free
  Lacks : ℕ → ℕ → Ruling

-- what a rule says, where one applies; else (rule 7) the access is done
abbrev pub Verdict : Type 0
Verdict = Option Ruling

-- ---- the facts

-- the access touches a region of the file with its flag
abbrev pub touches_as : Option Kind → FileState → Call → Bool
touches_as None f call = false
touches_as (Some kind) f call = touches f.kept.regions (reach (length f.body) call) kind

abbrev pub short_of : ℕ → ℕ → Option NoRoom
short_of need free = if nat_lt free need then Some (record { need = need; free = free }) else None

-- it touches more blocks of the file with that key than are free
abbrev pub shortage : Superblock → Held → FileKey → Call → Option NoRoom
shortage s h k call = short_of (length (touched (effect_of call) (length (bytes_of k h.files)))) (s.geometry.blocks - used h.files)

-- what is known of a call on the file with that key
abbrev pub facts_of : Superblock → Held → FileKey → Call → Facts
facts_of s h k call = record {
  live = is_some (find_key (λ f. f.key) k h.files);
  touches = touches_as (kind_of call) (file_at k h.files) call;
  needs = needs (file_at k h.files).kept.stubs (length (file_at k h.files).body) call;
  short = shortage s h k call;
}

-- some session takes events of that kind
abbrev pub is_taken : Kind → SessionTable → Bool
is_taken kind t = is_some (taker kind t)

-- ---- the rules

abbrev pub posts : Bool → Option Kind → Verdict
posts false kind = None
posts true kind = option_map Posts kind

-- 3: a token's right on the file excludes it, and the lowest such token blocks it
abbrev pub conflicting : Rights → FileKey → Call → Verdict
conflicting rights k call = option_map Blocks (conflict k (need_of call) no_token rights)

-- 4: no event of it was continued yet, and it touches a region with its flag
abbrev pub touching : Flags → Facts → Call → Verdict
touching fl facts call = posts (not fl.cleared && facts.touches) (kind_of call)

-- 5: an event of it was continued, and it needs a segment whose bytes are still away
abbrev pub needing : Flags → Facts → Call → Verdict
needing fl facts call = posts (fl.cleared && facts.needs) (kind_of call)

-- an event asks for space once, where a session takes such
abbrev pub without_room : Bool → Option NoRoom → Verdict
without_room asks None = None
without_room asks (Some room) = if asks then Some (Posts kind.NoSpace) else Some (Lacks room.need room.free)

-- 6: it is short of space
abbrev pub lacking : Flags → Facts → SessionTable → Verdict
lacking fl facts t = without_room (not fl.spaced && is_taken kind.NoSpace t) facts.short

-- in the order of judgement, of an access with these flags to the file with that key, of which these facts are known
abbrev pub rulings : Flags → Facts → Rights → SessionTable → FileKey → Call → List Verdict
rulings fl facts rights t k call = conflicting rights k call ∷ touching fl facts call ∷ needing fl facts call ∷ lacking fl facts t ∷ []

abbrev pub verdict : Superblock → State → Flags → FileKey → Call → Verdict
verdict s st fl k call = first_refusal (rulings fl (facts_of s st.held k call) st.rights st.sessions k call)

-- ---- the reply, and what is left

-- the key of the file on which the call is done
abbrev pub key_done : Held → FileKey → Call → FileKey
key_done h k (Create name) = next_key h
key_done h k call = k

abbrev pub next_done : ℕ → Call → ℕ
next_done next (Create name) = next + 1
next_done next call = next

-- the reply to a call that is done, and what is held after it
abbrev pub done_reply : Held → FileKey → Call → Reply
done_reply h k call = reply_on (key_done h k call) (bytes_of (key_done h k call) h.files) call

abbrev pub done_held : Held → FileKey → Call → Held
done_held h k call = record { files = affected_held (effect_of call) (key_done h k call) h.files; next = next_done h.next call }

abbrev pub reply_by : State → FileKey → Call → Verdict → Reply
reply_by st k call (Some (Blocks t)) = Blocked t
reply_by st k call (Some (Posts kind)) = Parked (next_token st.ledger)
reply_by st k call (Some (Lacks need free)) = Refused (NoSpace need free)
reply_by st k call None = done_reply st.held k call

abbrev pub held_by_verdict : Held → FileKey → Call → Verdict → Held
held_by_verdict h k call (Some ruling) = h
held_by_verdict h k call None = done_held h k call

-- the stamp of the file with that key is this number
abbrev pub stamped : FileKey → ℕ → (FileKey → ℕ) → FileKey → ℕ
stamped k number stamps j = if same_key j k then number else stamps j

-- The stamps after the entry of that number: accesses renew the stamp of their file
abbrev pub stamps_by : ℕ → FileKey → Call → Verdict → (FileKey → ℕ) → FileKey → ℕ
stamps_by number k call (Some ruling) stamps = stamps
stamps_by number k call None stamps = if is_access call then stamped k number stamps else stamps

-- the message of an event that is posted
abbrev pub message_of : Superblock → State → FileKey → Call → Kind → Message
message_of s st k call kind = event_message kind (next_token st.ledger) (record { fsid = s.fsid; key = k }) (told_span call (shortage s st.held k call) kind)

abbrev pub sessions_by : Superblock → State → FileKey → Call → Verdict → SessionTable
sessions_by s st k call (Some (Posts kind)) = posted (message_of s st k call kind) st.sessions
sessions_by s st k call v = st.sessions

abbrev pub is_no_space : Kind → Bool
is_no_space kind.NoSpace = true
is_no_space kind = false

-- the flags beside what waits then
abbrev pub flags_by : Flags → Verdict → Flags
flags_by fl (Some (Blocks t)) = fl
flags_by fl (Some (Posts kind)) = record { cleared = true; spaced = fl.spaced || is_no_space kind }
flags_by fl v = no_flags

-- ---- an event of a caller

-- the flags with which its access is judged
abbrev pub flags_now : State → ℕ → Action → Flags
flags_now st c (Issue call) = no_flags
flags_now st c action = st.flags c

-- what the event comes to, and what ends the access by the names of the files and the response alone
abbrev pub meant_in : State → ℕ → Action → Meant
meant_in st c action = meant (names_of st.held.files) (st.ledger.pending c) action

abbrev pub objection_in : Superblock → State → ℕ → Action → Option CallRefusal
objection_in s st c action = objection s (names_of st.held.files) (st.ledger.pending c) action

abbrev pub reply_where : Superblock → State → Flags → Option CallRefusal → Meant → Reply
reply_where s st fl why (Fixed reply) = reply
reply_where s st fl (Some why) (Means k call) = Refused why
reply_where s st fl None (Means k call) = reply_by st k call (verdict s st fl k call)

-- the store's reply
abbrev pub reply_to : Superblock → State → ℕ → Action → Reply
reply_to s st c action = reply_where s st (flags_now st c action) (objection_in s st c action) (meant_in st c action)

-- what an access leaves of which the rules say so
abbrev pub left_by_verdict : Superblock → State → ℕ → Flags → FileKey → Call → Verdict → State
left_by_verdict s st c fl k call v = record {
  held = held_by_verdict st.held k call v;
  stamps = stamps_by (st.number + 1) k call v st.stamps;
  number = st.number + 1;
  sessions = sessions_by s st k call v;
  rights = st.rights;
  flags = set_at c (flags_by fl v) st.flags;
  ledger = ledger_replied st.ledger c (Means k call) (reply_by st k call v);
}

abbrev pub state_where : Superblock → State → ℕ → Flags → Option CallRefusal → Meant → State
state_where s st c fl why (Fixed reply) = record (noted st) { ledger = ledger_replied st.ledger c (Fixed reply) reply }
state_where s st c fl (Some why) (Means k call) = record (noted st) { flags = set_at c no_flags st.flags; ledger = ledger_replied st.ledger c (Means k call) (Refused why) }
state_where s st c fl None (Means k call) = left_by_verdict s st c fl k call (verdict s st fl k call)

-- the store after the event
abbrev pub state_after : Superblock → State → ℕ → Action → State
state_after s st c action = state_where s st c (flags_now st c action) (objection_in s st c action) (meant_in st c action)

-- ---- all seven rules in one list, as one who judges an access sees them

pub data Judgement : Type 0 where
  Ends : CallRefusal → Judgement
  Rules : Ruling → Judgement

-- the first that applies decides; where none does, the access is done
abbrev pub judgement : Flags → Option Response → Facts → Rights → SessionTable → FileKey → Call → Option Judgement
judgement fl answer facts rights t k call = first_refusal (option_map Ends (aborted answer) ∷ option_map Ends (gone facts.live) ∷ map (option_map Rules) (rulings fl facts rights t k call))
