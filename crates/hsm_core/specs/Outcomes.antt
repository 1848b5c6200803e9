-- What comes of an access by what was said of it, and how a caller's event is answered.
use Rattle.std.specs.Prelude.{ℕ, ◌≡◌, ◌≢◌, ◌+◌, ◌≤◌, Bool, true, false, not, ◌&&◌, List, Option, Some, None, is_none, IfSome, Result, IfOk, OnOk, OnErr, IsOk}
use Rattle.disk_model.specs.Moments.{Tells}
use Rattle.disk_model.specs.declared.device.Disk as disk
use Rattle.hsm_types.specs.Limits.{last_error}
use Rattle.hsm_types.specs.declared.keys.FileKey.{FileKey}
use Rattle.hsm_types.specs.declared.calls.Call.{Call}
use Rattle.hsm_types.specs.declared.calls.CallRefusal.{CallRefusal}
use Rattle.hsm_types.specs.declared.calls.CallRefusal.TheVariants as why
use Rattle.hsm_types.specs.declared.calls.Reply.{Reply}
use Rattle.hsm_types.specs.declared.calls.Reply.TheVariants.{Refused}
use Rattle.hsm_types.specs.declared.dm.Kind.{Kind}
use Rattle.hsm_types.specs.declared.dm.Kind.TheVariants.{Truncate, User}
use Rattle.hsm_types.specs.declared.dm.Response.{Response}
use Rattle.hsm_types.specs.declared.dm.Response.TheVariants.{Continue, Abort, Media}
use Rattle.plain_model.specs.declared.entries.Action.{Action}
use Rattle.plain_model.specs.declared.facts.NoRoom.{NoRoom}
use Rattle.plain_model.specs.Accesses.{told_span}
use Rattle.plain_model.specs.Ledger.{aborted}
use Rattle.plain_model.specs.Seen.{IsOfSeen}
use Rattle.plain_model.specs.State.{Held}
use Rattle.plain_model.specs.Verdict.{done_reply, done_held, stamps_by, reply_to, state_after}
use Rattle.access_park.specs.declared.access.Access.{Access}
use Rattle.dm_service.specs.declared.verdict.Verdict.{Verdict}
use Rattle.dm_service.specs.declared.verdict.Verdict.TheVariants.{Answered, Block, Post, NoSpace, Complete}
use Rattle.dm_service.specs.Services.{AreBoth}
use Rattle.dm_service.specs.Tables.{Tables}
use Rattle.snapshot_text.specs.declared.refusal.MetaRefusal.{MetaRefusal}
use Rattle.file_store.specs.Stores.{Store as FileStore, superblock_of}
use Rattle.file_store.specs.Changes.{Ends}
use Rattle.hsm_core.specs.Stamps.{stamp_in}
use Rattle.hsm_core.specs.Store.{state_with}

-- it has not waited
abbrev pub is_fresh : Access → Bool
is_fresh a = not a.cleared && not a.spaced && is_none a.token && is_none a.answer

-- the response to an access is an abort, which may tell a fault of a medium
abbrev pub is_abort : Option Response → Bool
is_abort (Some (Abort error)) = true
is_abort (Some (Media fault)) = true
is_abort answer = false

abbrev pub is_aborted : Option Access → Bool
is_aborted None = false
is_aborted (Some a) = is_abort a.answer

-- where an access that waits was aborted, it is so of what that tells
abbrev pub IfAborted : Option Access → (CallRefusal → Type 0) → Type 0
IfAborted waits P = IfSome waits (λ a. IfSome (aborted a.answer) P)

-- an abort by an error that a caller can be told, or by a fault
abbrev pub IsAbort : Response → Type 0
IsAbort Continue = ⊥
IsAbort (Abort error) = error ≤ last_error
IsAbort (Media fault) = Unit {0}

-- An event of that kind may be posted for the call
abbrev pub MayAsk : Call → Kind → Type 0
MayAsk call kind = (kind ≢ User) × ((short : Option NoRoom) → kind ≡ Truncate → (told_span call short kind).len ≡ 0)

-- ---- by what was said

-- an abort ends an access by its error, or by its fault
abbrev pub ended_by : Response → CallRefusal
ended_by Continue = why.Missing
ended_by (Abort error) = why.Aborted error
ended_by (Media fault) = why.Media fault

-- the reply to an access that ends
abbrev pub ended_reply : Held → FileKey → Call → Verdict → Reply
ended_reply h k call Complete = done_reply h k call
ended_reply h k call (NoSpace need free) = Refused (why.NoSpace need free)
ended_reply h k call (Answered response) = Refused (ended_by response)
ended_reply h k call said = Refused why.Missing

-- it ends, and doesn't wait
abbrev pub ends : Verdict → Bool
ends (Post kind) = false
ends (Block t) = false
ends said = true

abbrev pub held_said : Held → FileKey → Call → Verdict → Held
held_said h k call Complete = done_held h k call
held_said h k call said = h

abbrev pub stamps_said : ℕ → FileKey → Call → Verdict → (FileKey → ℕ) → FileKey → ℕ
stamps_said number k call Complete stamps = stamps_by number k call None stamps
stamps_said number k call said stamps = stamps

-- The access has ended as was said of it, under that number. The replies are those over what is seen of the files.
pub record IsFinished {D : Type 0} (g : disk.Ghosts D) (old : FileStore D) (n : ℕ) (before : List (FileKey × ℕ)) (k : FileKey) (call : Call) (said : Verdict) (result : Result (Reply × Reply) MetaRefusal) (new : FileStore D) (after : List (FileKey × ℕ)) : Type 0 where
  pub replies : IfOk result (λ r. IsOfSeen (Tells g new.disk) old.held (λ seen. AreBoth (ended_reply seen k call said) r))
  pub held : OnOk result (new.held ≡ held_said old.held k call said)
  pub stamps : OnOk result (stamp_in after ≡ stamps_said (n + 1) k call said (stamp_in before))
  pub unstamped : OnErr result (after ≡ before)
  pub answered : said ≢ Complete → IsOk result
  pub ended : Ends g old n None result new

-- The event of that caller was answered, under that number: both replies are the store's over what is seen of the files, and the state is the one that it
-- leaves. What isn't answered leaves stamps and tables.
pub record IsReplied {D : Type 0} (g : disk.Ghosts D) (old : FileStore D) (n : ℕ) (stamps : List (FileKey × ℕ)) (t : Tables) (c : ℕ) (action : Action) (result : Result (Reply × Reply) MetaRefusal) (new : FileStore D) (stamps' : List (FileKey × ℕ)) (u : Tables) : Type 0 where
  pub replies : IfOk result (λ r. IsOfSeen (Tells g new.disk) old.held (λ seen. AreBoth (reply_to (superblock_of old) (state_with seen stamps t n) c action) r))
  pub left : OnOk result (state_with new.held stamps' u (n + 1) ≡ state_after (superblock_of old) (state_with old.held stamps t n) c action)
  pub unstamped : OnErr result (stamps' ≡ stamps)
  pub err : OnErr result (u ≡ t)
  pub ends : Ends g old n None result new
