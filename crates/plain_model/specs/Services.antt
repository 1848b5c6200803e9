-- What sessions ask of a store: what refuses their calls, in one order, and the exact answers.
use Rattle.std.specs.Prelude.{ℕ, ◌-◌, List, [], ◌∷◌, ◌++◌, length, sum_by, Bool, ◌==◌, ◌&&◌, if◌then◌else◌, Option, Some, None, is_some}
use Rattle.std.specs.Map.{keys_of}
use Rattle.hsm_types.specs.Refusals.{first_refusal}
use Rattle.hsm_types.specs.Calls.{scope_of}
use Rattle.hsm_types.specs.Messages.{packed, handed_out}
use Rattle.hsm_types.specs.Sessions.{SessionTable, info_of, kinds_of, queue_of, outstanding_of, tokens_of, outstanding_message, creation_refusal}
use Rattle.hsm_types.specs.Sessions.{dead_session, bad_token, destruction_refusal, none_fits, bad_response, event_refusal, sending_refusal, next_sid}
use Rattle.hsm_types.specs.Attributes.{value_of, bytes_of_attributes, setting_refusal, no_attribute, removal_refusal}
use Rattle.hsm_types.specs.Regions.{regions_refusal}
use Rattle.hsm_types.specs.Stubs.{uncovered, too_many_stubs}
use Rattle.hsm_types.specs.Kept.{Kept}
use Rattle.hsm_types.specs.Rights.{right_of, conflict, busy, too_low, bad_right}
use Rattle.hsm_types.specs.declared.keys.FileKey.{FileKey}
use Rattle.hsm_types.specs.declared.keys.Handle.{Handle}
use Rattle.hsm_types.specs.declared.keys.Sid.{Sid}
use Rattle.hsm_types.specs.declared.keys.Token.{Token}
use Rattle.hsm_types.specs.declared.stores.Superblock.{Superblock}
use Rattle.hsm_types.specs.declared.dm.Right.TheVariants.{Excl}
use Rattle.hsm_types.specs.declared.dm.Scope.{Scope}
use Rattle.hsm_types.specs.declared.dm.Scope.TheVariants.{Anyone, InSession, OnToken, OnFile, OnRight}
use Rattle.hsm_types.specs.declared.dm.DmCall.{DmCall}
use Rattle.hsm_types.specs.declared.dm.DmCall.TheVariants.{CreateSession, DestroySession, GetAllSessions, QuerySession, SetDisp, GetDisp, GetEvents}
use Rattle.hsm_types.specs.declared.dm.DmCall.TheVariants.{GetAllTokens, FindEventMsg, Respond, CreateUserEvent, SendMsg, RequestRight, ReleaseRight}
use Rattle.hsm_types.specs.declared.dm.DmCall.TheVariants.{QueryRight, UpgradeRight, DowngradeRight, GetFileAttr, SetRegion, GetRegion, SetDmAttr}
use Rattle.hsm_types.specs.declared.dm.DmCall.TheVariants.{GetDmAttr, RemoveDmAttr, GetAllDmAttr, ReadInvis, WriteInvis, PunchHole, ProbeHole}
use Rattle.hsm_types.specs.declared.dm.DmCall.TheVariants.{GetAllocInfo, Seal, Restore, PathToHandle, GetSpace, GetTable}
use Rattle.hsm_types.specs.declared.dm.DmReply.{DmReply}
use Rattle.hsm_types.specs.declared.dm.DmReply.TheVariants as reply
use Rattle.hsm_types.specs.declared.dm.DmRefusal.{DmRefusal}
use Rattle.hsm_types.specs.declared.dm.DmRefusal.TheVariants.{NoToken, NoObject}
use Rattle.hsm_types.specs.declared.messages.Message.{Message}
use Rattle.hsm_types.specs.Keyed.{find_key}
use Rattle.plain_model.specs.Ledger.{next_token, ledger_told}
use Rattle.plain_model.specs.Effects.{change_of}
use Rattle.plain_model.specs.Plain.{Listed, named, key_or_none, read_at}
use Rattle.plain_model.specs.Segments.{probe_start, probe_end, nothing_to_punch, reading_refusal, writing_refusal, punch_refusal, seal_refusal}
use Rattle.plain_model.specs.Segments.{restore_refusal, segments_told, table_of}
use Rattle.plain_model.specs.State.{FileState, names_of, file_at, used_by, used, State, noted, changed}

-- ---- what refuses by the scope of a call

-- 0 stands for no token, which is outstanding to nobody
abbrev pub bad_own_token : Sid → Token → SessionTable → Option DmRefusal
bad_own_token sid token t = if token.0 == 0 then Some NoToken else bad_token sid token t

-- where a call may go without one
abbrev pub bad_given_token : Sid → Token → SessionTable → Option DmRefusal
bad_given_token sid token t = if token.0 == 0 then None else bad_token sid token t

-- the handle is that of a file of this store
abbrev pub is_live : Superblock → List FileState → Handle → Bool
is_live s files h = (h.fsid == s.fsid) && is_some (find_key (λ f. f.key) h.key files)

abbrev pub bad_handle : Superblock → List FileState → Handle → Option DmRefusal
bad_handle s files h = if is_live s files h then None else Some NoObject

-- in the order of judgement
abbrev pub scope_refusals : Superblock → State → Sid → Scope → List (Option DmRefusal)
scope_refusals s st sid Anyone = []
scope_refusals s st sid InSession = dead_session sid st.sessions ∷ []
scope_refusals s st sid (OnToken token) = dead_session sid st.sessions ∷ bad_own_token sid token st.sessions ∷ []
scope_refusals s st sid (OnFile token handle right) = dead_session sid st.sessions ∷ bad_given_token sid token st.sessions ∷ bad_handle s st.held.files handle ∷ bad_right token handle.key right st.rights ∷ []
scope_refusals s st sid (OnRight token handle right) = dead_session sid st.sessions ∷ bad_own_token sid token st.sessions ∷ bad_handle s st.held.files handle ∷ too_low right (right_of token handle.key st.rights) ∷ []

-- ---- what a call asks for by itself

abbrev pub kept_of : FileKey → List FileState → Kept
kept_of k files = (file_at k files).kept

-- what the attributes of all files count
abbrev pub attribute_total : List FileState → ℕ
attribute_total files = sum_by (λ f. bytes_of_attributes f.kept.attributes) files

-- what those of all files but one count
abbrev pub other_attributes : FileKey → List FileState → ℕ
other_attributes k files = attribute_total files - bytes_of_attributes (kept_of k files).attributes

-- how many stub entries all files have
abbrev pub stub_total : List FileState → ℕ
stub_total files = sum_by (λ f. length f.kept.stubs) files

-- all files but one
abbrev pub other_stubs : FileKey → List FileState → ℕ
other_stubs k files = stub_total files - length (kept_of k files).stubs

abbrev pub no_such_name : Option Listed → Option DmRefusal
no_such_name found = if is_some found then None else Some NoObject

abbrev pub bytes_or_none : Option (List ℕ) → List ℕ
bytes_or_none None = []
bytes_or_none (Some bytes) = bytes

-- messages that are handed out: their buffer, and their tokens
abbrev pub handed : List Message → DmReply
handed messages = reply.Packed (packed messages) (tokens_of messages)

abbrev pub message_or_none : Option Message → List Message
message_or_none None = []
message_or_none (Some m) = m ∷ []

pub record Service : Type 0 where
  -- what refuses the call, where its scope doesn't
  pub refusal : Option DmRefusal
  -- the reply where nothing refuses
  pub reply : DmReply

-- of each call of that session. What it changes is said by change_of
abbrev pub service : Superblock → State → Sid → DmCall → Service
service s st sid (CreateSession old info) = record { refusal = creation_refusal old info st.sessions; reply = reply.Session (next_sid st.sessions) }
service s st sid DestroySession = record { refusal = destruction_refusal sid st.sessions; reply = reply.Done }
service s st sid GetAllSessions = record { refusal = None; reply = reply.Sids (keys_of st.sessions.live) }
service s st sid (QuerySession target) = record { refusal = dead_session target st.sessions; reply = reply.Info (bytes_or_none (info_of target st.sessions)) }
service s st sid (SetDisp kinds) = record { refusal = None; reply = reply.Done }
service s st sid GetDisp = record { refusal = None; reply = reply.Kinds (kinds_of sid st.sessions) }
service s st sid (GetEvents max room) = let queue = queue_of sid st.sessions in record { refusal = none_fits room queue; reply = handed (handed_out max room queue) }
service s st sid GetAllTokens = record { refusal = None; reply = reply.Tokens (tokens_of (outstanding_of sid st.sessions)) }
service s st sid (FindEventMsg token room) = let found = message_or_none (outstanding_message token st.sessions) in record { refusal = none_fits room found; reply = handed found }
service s st sid (Respond token response) = record { refusal = bad_response response; reply = reply.Done }
service s st sid (CreateUserEvent body) = record { refusal = event_refusal body st.sessions; reply = reply.Token (next_token st.ledger) }
service s st sid (SendMsg target body) = record { refusal = sending_refusal target body st.sessions; reply = reply.Done }
service s st sid (RequestRight token handle right) = record { refusal = busy (conflict handle.key right token st.rights); reply = reply.Done }
service s st sid (ReleaseRight token handle) = record { refusal = None; reply = reply.Done }
service s st sid (QueryRight token handle) = record { refusal = None; reply = reply.Right (right_of token handle.key st.rights) }
service s st sid (UpgradeRight token handle) = record { refusal = busy (conflict handle.key Excl token st.rights); reply = reply.Done }
service s st sid (DowngradeRight token handle) = record { refusal = None; reply = reply.Done }
service s st sid (GetFileAttr token handle) = let f = file_at handle.key st.held.files in record { refusal = None; reply = reply.Attr (length f.body) (st.stamps handle.key) (used_by f) }
service s st sid (SetRegion token handle regions) = record { refusal = first_refusal (regions_refusal s.geometry.limits regions ∷ uncovered regions (kept_of handle.key st.held.files).stubs ∷ []); reply = reply.Done }
service s st sid (GetRegion token handle) = record { refusal = None; reply = reply.Regions (kept_of handle.key st.held.files).regions }
service s st sid (SetDmAttr token handle name value) = record {
  refusal = setting_refusal name value (other_attributes handle.key st.held.files) s.geometry.attributes (kept_of handle.key st.held.files).attributes;
  reply = reply.Done;
}
service s st sid (GetDmAttr token handle name) = let attributes = (kept_of handle.key st.held.files).attributes in record { refusal = no_attribute name attributes; reply = reply.Data (bytes_or_none (value_of name attributes)) }
service s st sid (RemoveDmAttr token handle name) = record { refusal = removal_refusal name (kept_of handle.key st.held.files).attributes; reply = reply.Done }
service s st sid (GetAllDmAttr token handle) = record { refusal = None; reply = reply.Names (keys_of (kept_of handle.key st.held.files).attributes) }
service s st sid (ReadInvis token handle offset len) = let f = file_at handle.key st.held.files in record { refusal = reading_refusal f offset len; reply = reply.Data (read_at offset len f.body) }
service s st sid (WriteInvis token handle offset body) = record { refusal = writing_refusal s st.held (file_at handle.key st.held.files) offset body; reply = reply.Done }
service s st sid (PunchHole token handle offset len) = record { refusal = punch_refusal s.geometry.limits (file_at handle.key st.held.files) offset len; reply = reply.Done }
service s st sid (ProbeHole token handle offset len) = let size = length (file_at handle.key st.held.files).body in record {
  refusal = nothing_to_punch offset len size;
  reply = reply.Range (probe_start offset) (probe_end offset len size - probe_start offset);
}
service s st sid (GetAllocInfo token handle) = record { refusal = None; reply = reply.Alloc (segments_told (file_at handle.key st.held.files)) }
service s st sid (Seal token handle segment entry) = record {
  refusal = first_refusal (seal_refusal (file_at handle.key st.held.files) segment entry ∷ too_many_stubs segment (other_stubs handle.key st.held.files) s.geometry.stubs (kept_of handle.key st.held.files).stubs ∷ []);
  reply = reply.Done;
}
service s st sid (Restore token handle segment bytes) = record { refusal = restore_refusal s st.held (file_at handle.key st.held.files) segment bytes; reply = reply.Done }
service s st sid (PathToHandle name) = let found = named name (names_of st.held.files) in record { refusal = no_such_name found; reply = reply.Handle (record { fsid = s.fsid; key = key_or_none found }) }
service s st sid GetSpace = record { refusal = None; reply = reply.Space (used st.held.files) s.geometry.blocks }
service s st sid GetTable = record { refusal = None; reply = reply.Table (table_of s st.stamps st.held) }

-- what refuses a session's call, in the order of judgement
abbrev pub dm_judged : Superblock → State → Sid → DmCall → Option DmRefusal
dm_judged s st sid call = first_refusal (scope_refusals s st sid (scope_of call) ++ (service s st sid call).refusal ∷ [])

-- ---- the answers

abbrev pub dm_reply_where : Option DmRefusal → Superblock → State → Sid → DmCall → DmReply
dm_reply_where (Some why) s st sid call = reply.Refused why
dm_reply_where None s st sid call = (service s st sid call).reply

abbrev pub dm_state_where : Option DmRefusal → Superblock → State → Sid → DmCall → State
dm_state_where (Some why) s st sid call = noted st
dm_state_where None s st sid call = record (noted (changed (change_of sid call) st)) { ledger = ledger_told st.ledger call (service s st sid call).reply }

-- the store's reply to a session's call
abbrev pub dm_reply_to : Superblock → State → Sid → DmCall → DmReply
dm_reply_to s st sid call = dm_reply_where (dm_judged s st sid call) s st sid call

-- the store after the call
abbrev pub dm_state_after : Superblock → State → Sid → DmCall → State
dm_state_after s st sid call = dm_state_where (dm_judged s st sid call) s st sid call
