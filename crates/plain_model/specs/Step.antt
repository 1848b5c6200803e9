-- Which event may come in a world, and the world that it leaves.
use Rattle.std.specs.Prelude.{ℕ, ◌≡◌, ◌+◌, ◌*◌, ◌<◌, ◌≤◌, ◌⊎◌, List, length, if◌then◌else◌, Option, is_some, IsTrue, MatchOption}
use Rattle.hsm_types.specs.Answers.{reply_kind, answer_kind}
use Rattle.hsm_types.specs.Limits.{segment_bytes}
use Rattle.hsm_types.specs.Messages.{is_lawful}
use Rattle.hsm_types.specs.Stubs.{print_of, entry_print}
use Rattle.hsm_types.specs.declared.keys.FileKey.{FileKey}
use Rattle.hsm_types.specs.declared.keys.Sid.{Sid}
use Rattle.hsm_types.specs.declared.stores.Superblock.{Superblock}
use Rattle.hsm_types.specs.declared.calls.Call.{Call}
use Rattle.hsm_types.specs.declared.calls.Call.TheVariants.{Create}
use Rattle.hsm_types.specs.declared.calls.CallRefusal.{CallRefusal}
use Rattle.hsm_types.specs.declared.calls.CallRefusal.TheVariants.{NoSpace}
use Rattle.hsm_types.specs.declared.calls.Reply.{Reply}
use Rattle.hsm_types.specs.declared.calls.Reply.TheVariants.{Done, Made, Parked, Blocked, Refused}
use Rattle.hsm_types.specs.declared.dm.DmCall.{DmCall}
use Rattle.hsm_types.specs.declared.dm.DmCall.TheVariants.{Respond, CreateUserEvent, GetFileAttr, ReadInvis, WriteInvis, Seal, Restore, PathToHandle}
use Rattle.hsm_types.specs.declared.dm.DmReply.{DmReply}
use Rattle.hsm_types.specs.declared.dm.DmReply.TheVariants as told
use Rattle.plain_model.specs.declared.entries.Entry.{Entry}
use Rattle.plain_model.specs.declared.entries.Actor.{Actor}
use Rattle.plain_model.specs.declared.entries.Actor.TheVariants.{Caller, Session, Store}
use Rattle.plain_model.specs.declared.entries.Action.{Action}
use Rattle.plain_model.specs.declared.entries.Action.TheVariants.{Issue, Resume, Dm, Commit}
use Rattle.plain_model.specs.declared.entries.Answer.{Answer}
use Rattle.plain_model.specs.declared.entries.Answer.TheVariants.{Call as Replied, Dm as Told}
use Rattle.hsm_types.specs.Keyed.{find_key}
use Rattle.plain_model.specs.Effects.{Change, Nothing, OfFile, OfSessions, OfRights, Closes, change_of}
use Rattle.plain_model.specs.Plain.{File, listing, named, key_or_none, body_of, free_inode, greatest, key_by, read_at, segment, affected, act}
use Rattle.plain_model.specs.Accesses.{is_access, can_block, wants_space}
use Rattle.plain_model.specs.Ledger.{Meant, Fixed, Means, Ledger, no_ledger, next_token, meant, objection, is_completion, ledger_replied, ledger_told}
use Rattle.plain_model.specs.Faults.{is_fault, IsFault}

-- the plain map, the greatest generation that was ever given, and what users see of waiting
pub record World : Type 0 where
  pub files : List File
  pub last : ℕ
  pub ledger : Ledger

-- the world before the first event
abbrev pub start : List File → World
start P = record { files = P; last = greatest (listing P); ledger = no_ledger }

-- ---- callers

-- a create gives the lowest free inode, and a generation above each one before
abbrev pub IsNewKey : World → Call → FileKey → Type 0
IsNewKey W (Create name) k = (k.ino ≡ free_inode 1 (listing W.files)) × (W.last < k.igen)
IsNewKey W call k = Unit {0}

-- the call on the file with that key is done as on a plain map
abbrev pub Completes : World → FileKey → Call → Reply → Type 0
Completes W k call reply = IsNewKey W call (key_by k reply) × (reply ≡ (act W.files (key_by k reply) call).0)

-- what may come of a call that nothing objects to: it parks on the next token, an open token blocks it, too few blocks are free, or it is done
abbrev pub IsOutcome : World → FileKey → Call → Reply → Type 0
IsOutcome W k call (Parked t) = IsTrue (is_access call) × (t ≡ next_token W.ledger)
IsOutcome W k call (Blocked t) = IsTrue (can_block call) × IsTrue (W.ledger.open t.0)
IsOutcome W k call (Refused (NoSpace need free)) = IsTrue (wants_space call) × (free < need)
IsOutcome W k call reply = Completes W k call reply

-- an event that came to this may get this reply: the fixed one, the refusal where there is an objection, else an outcome
abbrev pub MayReply : World → Option CallRefusal → Meant → Reply → Type 0
MayReply W why (Fixed fixed) reply = reply ≡ fixed
MayReply W why (Means k call) reply = MatchOption why (IsOutcome W k call reply) (λ y. reply ≡ Refused y)

-- what a caller's event comes to, and what ends the access before a store is asked
abbrev pub meant_for : World → ℕ → Action → Meant
meant_for W c action = meant (listing W.files) (W.ledger.pending c) action

abbrev pub objection_for : Superblock → World → ℕ → Action → Option CallRefusal
objection_for s W c action = objection s (listing W.files) (W.ledger.pending c) action

abbrev pub files_replied : List File → Meant → Reply → List File
files_replied P (Fixed fixed) reply = P
files_replied P (Means k call) reply = if is_completion reply then (act P (key_by k reply) call).1 else P

abbrev pub last_by : ℕ → Meant → Reply → ℕ
last_by last (Means k call) (Made j) = j.igen
last_by last m reply = last

-- the world after the reply
abbrev pub replied : World → ℕ → Meant → Reply → World
replied W c m reply = record { files = files_replied W.files m reply; last = last_by W.last m reply; ledger = ledger_replied W.ledger c m reply }

-- ---- sessions

abbrev pub IsFileOf : World → FileKey → Type 0
IsFileOf W k = IsTrue (is_some (find_key (λ f. f.key) k W.files))

abbrev pub IsSegmentOf : World → FileKey → ℕ → Type 0
IsSegmentOf W k j = IsFileOf W k × (segment_bytes * j < length (body_of k W.files))

-- A session's call may get this reply: a refusal, or the answer of its kind. A response is lawful and its token is open, and a user's event has the
-- next token; the size, the key and the bytes that are told are those of the plain map, and bytes are written within a file. A segment is sealed, and
-- comes back, only by the fingerprint of its bytes
abbrev pub MayTell : Superblock → World → DmCall → DmReply → Type 0
MayTell s W call (told.Refused why) = Unit {0}
MayTell s W (Respond t response) told.Done = IsTrue (W.ledger.open t.0) × IsTrue (is_lawful response)
MayTell s W (CreateUserEvent body) (told.Token t) = t ≡ next_token W.ledger
MayTell s W (GetFileAttr token handle) (told.Attr size stamp blocks) = IsFileOf W handle.key × (size ≡ length (body_of handle.key W.files))
MayTell s W (ReadInvis token handle offset len) (told.Data bytes) = IsFileOf W handle.key × (bytes ≡ read_at offset len (body_of handle.key W.files))
MayTell s W (WriteInvis token handle offset bytes) told.Done = IsFileOf W handle.key × (offset + length bytes ≤ length (body_of handle.key W.files))
MayTell s W (Seal token handle j entry) told.Done = IsSegmentOf W handle.key j × (entry_print entry ≡ print_of (segment j (body_of handle.key W.files)))
MayTell s W (Restore token handle j bytes) told.Done = IsSegmentOf W handle.key j × (print_of bytes ≡ print_of (segment j (body_of handle.key W.files)))
MayTell s W (PathToHandle name) (told.Handle handle) = IsTrue (is_some (named name (listing W.files))) × (handle ≡ record { fsid = s.fsid; key = key_or_none (named name (listing W.files)) })
MayTell s W call reply = reply_kind reply ≡ answer_kind call

-- what the plain map knows of a change
abbrev pub changed_plain : Change → List File → List File
changed_plain Nothing P = P
changed_plain (OfFile k effect) P = affected effect k P
changed_plain (OfSessions to) P = P
changed_plain (OfRights to) P = P
changed_plain (Closes sid token) P = P

abbrev pub files_told : List File → Sid → DmCall → DmReply → List File
files_told P sid call (told.Refused why) = P
files_told P sid call reply = changed_plain (change_of sid call) P

-- the world after a session was told this
abbrev pub world_told : World → Sid → DmCall → DmReply → World
world_told W sid call reply = record W { files = files_told W.files sid call reply; ledger = ledger_told W.ledger call reply }

-- ---- any event

-- the answer is of the actor's and the action's kind, and may come
abbrev pub MayAnswer : Superblock → World → Actor → Action → Answer → Type 0
MayAnswer s W (Caller c) (Issue call) (Replied reply) = MayReply W (objection_for s W c (Issue call)) (meant_for W c (Issue call)) reply
MayAnswer s W (Caller c) Resume (Replied reply) = MayReply W (objection_for s W c Resume) (meant_for W c Resume) reply
MayAnswer s W (Session sid) (Dm call) (Told reply) = MayTell s W call reply
MayAnswer s W Store Commit (Replied reply) = reply ≡ Done
MayAnswer s W actor action answer = ⊥

-- from W the actor's action may get this answer
abbrev pub MayGive : Superblock → World → Actor → Action → Answer → Type 0
MayGive s W actor action answer = IsFault actor action answer ⊎ MayAnswer s W actor action answer

-- the world that it leaves, where it is for no fault
abbrev pub given : World → Actor → Action → Answer → World
given W (Caller c) (Issue call) (Replied reply) = replied W c (meant_for W c (Issue call)) reply
given W (Caller c) Resume (Replied reply) = replied W c (meant_for W c Resume) reply
given W (Session sid) (Dm call) (Told reply) = world_told W sid call reply
given W actor action answer = W

abbrev pub Allows : Superblock → World → Entry → Type 0
Allows s W e = MayGive s W e.actor e.action e.answer

-- the world after the entry. A fault changes nothing
abbrev pub after : World → Entry → World
after W e = if is_fault e.answer then W else given W e.actor e.action e.answer
