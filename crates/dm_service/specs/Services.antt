-- Calls of sessions that ask for sessions, dispositions, messages and tokens alone.
use Rattle.std.specs.Prelude.{◌≡◌, ℕ, List, [], ◌∷◌, Bool, true, false, not, ◌&&◌, if◌then◌else◌, is_some, Option, Some, None, Result, Ok, Err}
use Rattle.std.specs.Prelude.{MatchOption, MatchResult, IfOk, OnOk, OnErr}
use Rattle.hsm_types.specs.Limits.{first_limits}
use Rattle.hsm_types.specs.Messages.{is_lawful}
use Rattle.hsm_types.specs.Sessions.{SessionTable, lives, dead_session}
use Rattle.hsm_types.specs.declared.keys.Sid.{Sid}
use Rattle.hsm_types.specs.declared.stores.Superblock.{Superblock}
use Rattle.hsm_types.specs.declared.dm.Scope.{Scope}
use Rattle.hsm_types.specs.declared.dm.Scope.TheVariants.{Anyone, InSession, OnToken, OnFile, OnRight}
use Rattle.hsm_types.specs.declared.dm.DmCall.{DmCall}
use Rattle.hsm_types.specs.declared.dm.DmCall.TheVariants.{CreateSession, DestroySession, GetAllSessions, QuerySession, SetDisp, GetDisp, GetEvents}
use Rattle.hsm_types.specs.declared.dm.DmCall.TheVariants.{GetAllTokens, FindEventMsg, Respond, CreateUserEvent, SendMsg, RequestRight, ReleaseRight}
use Rattle.hsm_types.specs.declared.dm.DmCall.TheVariants.{QueryRight, UpgradeRight, DowngradeRight}
use Rattle.hsm_types.specs.declared.dm.DmRefusal.{DmRefusal}
use Rattle.hsm_types.specs.declared.dm.DmRefusal.TheVariants.{Memory}
use Rattle.hsm_types.specs.declared.dm.DmReply.{DmReply}
use Rattle.hsm_types.specs.declared.dm.DmReply.TheVariants as reply
use Rattle.plain_model.specs.State.{State, nothing_held, just_opened, noted}
use Rattle.plain_model.specs.Services.{service, bad_own_token, bad_given_token, dm_judged, dm_reply_where, dm_reply_to, dm_state_where, dm_state_after}
use Rattle.dm_service.specs.Tables.{Tables, is_open, seen}

-- ---- judging

-- a judgement says what refuses, if anything does
abbrev pub Judges : {T R : Type 0} → Result T R → Option R → Type 0
Judges result refusal = MatchResult result (λ _. refusal ≡ None) (λ why. refusal ≡ Some why)

-- so it does, but for want of memory where nothing refuses
abbrev pub JudgesOrLacks : {T : Type 0} → Result T DmRefusal → Option DmRefusal → Type 0
JudgesOrLacks result refusal = MatchResult result (λ _. refusal ≡ None) (λ why. MatchOption refusal (why ≡ Memory) (λ cause. why ≡ cause))

-- what refuses by the session and the token of a scope, in the order of judgement
abbrev pub session_refusals : SessionTable → Sid → Scope → List (Option DmRefusal)
session_refusals t sid Anyone = []
session_refusals t sid InSession = dead_session sid t ∷ []
session_refusals t sid (OnToken token) = dead_session sid t ∷ bad_own_token sid token t ∷ []
session_refusals t sid (OnFile token handle right) = dead_session sid t ∷ bad_given_token sid token t ∷ []
session_refusals t sid (OnRight token handle right) = dead_session sid t ∷ bad_own_token sid token t ∷ []

-- a call on a right is made with an open token
abbrev pub HasOpenToken : SessionTable → Scope → Type 0
HasOpenToken t (OnRight token handle right) = is_open t token.0 ≡ true
HasOpenToken t scope = Unit {0}

-- ---- which calls these are

-- those on sessions, dispositions and messages
abbrev pub asks_sessions : DmCall → Bool
asks_sessions (CreateSession old info) = true
asks_sessions DestroySession = true
asks_sessions GetAllSessions = true
asks_sessions (QuerySession target) = true
asks_sessions (SetDisp kinds) = true
asks_sessions GetDisp = true
asks_sessions (GetEvents max room) = true
asks_sessions GetAllTokens = true
asks_sessions (FindEventMsg token room) = true
asks_sessions (SendMsg target body) = true
asks_sessions call = false

-- and those that open and close tokens
abbrev pub asks_tables : DmCall → Bool
asks_tables (Respond token response) = true
asks_tables (CreateUserEvent body) = true
asks_tables call = asks_sessions call

-- those on rights
abbrev pub asks_rights : DmCall → Bool
asks_rights (RequestRight token handle right) = true
asks_rights (ReleaseRight token handle) = true
asks_rights (QueryRight token handle) = true
asks_rights (UpgradeRight token handle) = true
asks_rights (DowngradeRight token handle) = true
asks_rights call = false

-- they are the same in every store
abbrev pub any_superblock : Superblock
any_superblock = record { geometry = record { files = 0; blocks = 0; attributes = 0; stubs = 0; limits = first_limits }; fsid = 0 }

-- ---- how they are served

-- both replies, for who asked and for the history, are this one
abbrev pub AreBoth : {R : Type 0} → R → R × R → Type 0
AreBoth reply r = (r.0 ≡ reply) × (r.1 ≡ reply)

-- that it is done, or why not
abbrev pub done_or : {T : Type 0} → Result T DmRefusal → DmReply
done_or (Ok x) = reply.Done
done_or (Err why) = reply.Refused why

-- A call was served: it was answered, and made its change, as in a store with nothing but these tables. For want of memory, where nothing refuses, the
-- tables are left as they were.
pub record IsServedByTables {E : Type 0} (t : Tables) (sid : Sid) (call : DmCall) (result : Result (DmReply × DmReply) E) (u : Tables) : Type 0 where
  pub replies : IfOk result (λ r. AreBoth (dm_reply_to any_superblock (seen t) sid call) r)
  pub left : OnOk result (noted (seen u) ≡ dm_state_after any_superblock (seen t) sid call)
  pub memory : OnErr result (dm_judged any_superblock (seen t) sid call ≡ None)
  pub err : OnErr result (u ≡ t)

-- a store of which nothing is known but its sessions
abbrev pub with_sessions : SessionTable → State
with_sessions t = record (just_opened 0 nothing_held) { sessions = t }

-- So it is with sessions by themselves, where that is what refuses the call.
pub record IsTold {E : Type 0} (t : SessionTable) (sid : Sid) (call : DmCall) (why : Option DmRefusal) (result : Result (DmReply × DmReply) E) (u : SessionTable) : Type 0 where
  pub replies : IfOk result (λ r. AreBoth (dm_reply_where why any_superblock (with_sessions t) sid call) r)
  pub left : OnOk result (u ≡ (dm_state_where why any_superblock (with_sessions t) sid call).sessions)
  pub memory : OnErr result (why ≡ None)
  pub err : OnErr result (u ≡ t)

-- what refuses a call that its scope doesn't
abbrev pub own_refusal : SessionTable → Sid → DmCall → Option DmRefusal
own_refusal t sid call = (service any_superblock (with_sessions t) sid call).refusal

-- and what refuses it at all
abbrev pub whole_refusal : SessionTable → Sid → DmCall → Option DmRefusal
whole_refusal t sid call = dm_judged any_superblock (with_sessions t) sid call

-- ---- for how much there is room

-- a lawful response to a token that is outstanding to the session
abbrev pub is_due : SessionTable → Sid → DmCall → Bool
is_due t sid (Respond token response) = lives sid t && not (is_some (bad_own_token sid token t)) && is_lawful response
is_due t sid call = false

-- a call that wants memory for its entry alone
abbrev pub wants_entry_alone : DmCall → Bool
wants_entry_alone (ReleaseRight token handle) = true
wants_entry_alone (QueryRight token handle) = true
wants_entry_alone (DowngradeRight token handle) = true
wants_entry_alone call = false

-- for how many entries a call needs room beside those that are set apart: its own, which is among them for a response that is due, and the response to the
-- event that it may make
abbrev pub entries_for : SessionTable → Sid → DmCall → ℕ
entries_for t sid (CreateUserEvent body) = 2
entries_for t sid call = if is_due t sid call then 0 else 1
