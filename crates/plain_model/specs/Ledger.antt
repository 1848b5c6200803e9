-- What a user can see of waiting: which accesses wait, and which tokens are open. A world and a store keep the same ledger, changed by the same
-- functions.
use Rattle.std.specs.Prelude.{ℕ, ◌+◌, List, [], ◌∷◌, Bool, true, false, ◌==◌, if◌then◌else◌, Option, Some, None}
use Rattle.hsm_types.specs.Refusals.{first_refusal}
use Rattle.hsm_types.specs.declared.keys.FileKey.{FileKey}
use Rattle.hsm_types.specs.declared.keys.Token.{Token}
use Rattle.hsm_types.specs.declared.stores.Superblock.{Superblock}
use Rattle.hsm_types.specs.declared.calls.Call.{Call}
use Rattle.hsm_types.specs.declared.calls.CallRefusal.{CallRefusal}
use Rattle.hsm_types.specs.declared.calls.CallRefusal.TheVariants.{Missing, Aborted, Media as Faulted, Waiting, Idle}
use Rattle.hsm_types.specs.declared.calls.Reply.{Reply}
use Rattle.hsm_types.specs.declared.calls.Reply.TheVariants.{Done, Made, Data, Size, Parked, Blocked, Still, Refused}
use Rattle.hsm_types.specs.declared.dm.Response.{Response}
use Rattle.hsm_types.specs.declared.dm.Response.TheVariants.{Abort, Media}
use Rattle.hsm_types.specs.declared.dm.DmCall.{DmCall}
use Rattle.hsm_types.specs.declared.dm.DmCall.TheVariants.{Respond, CreateUserEvent}
use Rattle.hsm_types.specs.declared.dm.DmReply.{DmReply}
use Rattle.hsm_types.specs.declared.dm.DmReply.TheVariants as told
use Rattle.plain_model.specs.declared.entries.Action.{Action}
use Rattle.plain_model.specs.declared.entries.Action.TheVariants.{Issue}
use Rattle.hsm_types.specs.Keyed.{set_at}
use Rattle.plain_model.specs.Plain.{Listed, has_key, refusal_of, key_meant}

-- an access that waits: a call on the file with that key, the token for which it waits, if for one, and the response to that
pub record Access : Type 0 where
  pub key : FileKey
  pub call : Call
  pub token : Option Token
  pub answer : Option Response

pub record Ledger : Type 0 where
  -- of each caller the access that waits
  pub pending : ℕ → Option Access
  -- how many tokens were given
  pub top : ℕ
  -- given, and not answered
  pub «open» : ℕ → Bool

-- at an opening
abbrev pub no_ledger : Ledger
no_ledger = record { pending = λ c. None; top = 0; «open» = λ t. false }

-- the token that is given next
abbrev pub next_token : Ledger → Token
next_token L = record { 0 = L.top + 1 }

-- ---- what an event of a caller comes to

-- a reply that is fixed, or a call on the file with that key
pub data Meant : Type 0 where
  Fixed : Reply → Meant
  Means : FileKey → Call → Meant

-- beside an access that waits there is no other
abbrev pub issued : List Listed → Option Access → Call → Meant
issued files None call = Means (key_meant files call) call
issued files (Some a) call = Fixed (Refused Waiting)

-- with that token and that response an access goes on, unless the response is still to come
abbrev pub goes_on : Access → Option Token → Option Response → Meant
goes_on a (Some t) None = Fixed (Still t)
goes_on a token answer = Means a.key a.call

abbrev pub resumed : Option Access → Meant
resumed None = Fixed (Refused Idle)
resumed (Some a) = goes_on a a.token a.answer

-- of a caller of whom that access waits, or none. Its events are issues and resumes
abbrev pub meant : List Listed → Option Access → Action → Meant
meant files waits (Issue call) = issued files waits call
meant files waits action = resumed waits

-- ---- what ends an access before a store is asked

-- parking rule 1: the response is an abort, or tells a fault of a medium
abbrev pub aborted : Option Response → Option CallRefusal
aborted (Some (Abort error)) = Some (Aborted error)
aborted (Some (Media fault)) = Some (Faulted fault)
aborted answer = None

-- parking rule 2: the file is gone
abbrev pub gone : Bool → Option CallRefusal
gone live = if live then None else Some Missing

abbrev pub objection_again : List Listed → Option Access → Option CallRefusal
objection_again files None = None
objection_again files (Some a) = first_refusal (aborted a.answer ∷ gone (has_key a.key files) ∷ [])

-- of an issue what refuses the call on these names, of a resume rules 1 and 2
abbrev pub objection : Superblock → List Listed → Option Access → Action → Option CallRefusal
objection s files waits (Issue call) = refusal_of s files call
objection s files waits action = objection_again files waits

-- ---- what is left of the ledger

-- the reply says that the call was done
abbrev pub is_completion : Reply → Bool
is_completion Done = true
is_completion (Made k) = true
is_completion (Data bytes) = true
is_completion (Size n) = true
is_completion reply = false

-- what waits after a fixed reply: what waited before
abbrev pub kept : Reply → Option Access → Option Access
kept (Still t) waits = waits
kept (Refused Waiting) waits = waits
kept (Refused Idle) waits = waits
kept reply waits = None

-- what waits after the reply to an access: it itself, without a response, or nothing
abbrev pub left_waiting : FileKey → Call → Reply → Option Access
left_waiting k call (Parked t) = Some (record { key = k; call = call; token = Some t; answer = None })
left_waiting k call (Blocked t) = Some (record { key = k; call = call; token = None; answer = None })
left_waiting k call reply = None

abbrev pub waiting_after : Meant → Reply → Option Access → Option Access
waiting_after (Fixed fixed) reply waits = kept reply waits
waiting_after (Means k call) reply waits = left_waiting k call reply

abbrev pub top_by : ℕ → Reply → ℕ
top_by top (Parked t) = t.0
top_by top reply = top

abbrev pub open_by : (ℕ → Bool) → Reply → ℕ → Bool
open_by is_open (Parked t) = set_at t.0 true is_open
open_by is_open reply = is_open

-- the ledger after the reply to what an event of that caller came to
abbrev pub ledger_replied : Ledger → ℕ → Meant → Reply → Ledger
ledger_replied L c m reply = record {
  pending = set_at c (waiting_after m reply (L.pending c)) L.pending;
  top = top_by L.top reply;
  «open» = open_by L.open reply;
}

-- the access waits for this token
abbrev pub waits_for : Token → Option Token → Bool
waits_for t None = false
waits_for t (Some u) = t.0 == u.0

-- the response reaches the access that waits for its token
abbrev pub answered : Token → Response → Option Access → Option Access
answered t response None = None
answered t response (Some a) = if waits_for t a.token then Some (record a { answer = Some response }) else Some a

-- the ledger after a session was told this: a response that was taken closes its token, and a user's event opens the one that it is told
abbrev pub ledger_told : Ledger → DmCall → DmReply → Ledger
ledger_told L (Respond t response) told.Done = record L { pending = λ c. answered t response (L.pending c); «open» = set_at t.0 false L.open }
ledger_told L (CreateUserEvent body) (told.Token t) = record L { top = t.0; «open» = set_at t.0 true L.open }
ledger_told L call reply = L
