-- How a store answers an event, and what it keeps of it.
use Rattle.std.specs.Prelude.{ℕ, ◌≡◌, ◌⊎◌, true, false, [], ◌∷◌, ◌++◌}
use Rattle.disk_model.specs.declared.device.Disk as disk
use Rattle.disk_model.specs.Calls.{RoseByOne}
use Rattle.disk_model.specs.Moments.{LeavesOnly, Tells}
use Rattle.hsm_types.specs.declared.calls.Call.{Call}
use Rattle.hsm_types.specs.declared.calls.CallRefusal.TheVariants.{Memory}
use Rattle.hsm_types.specs.declared.calls.Reply.{Reply}
use Rattle.hsm_types.specs.declared.calls.Reply.TheVariants.{Refused}
use Rattle.hsm_types.specs.declared.dm.DmCall.{DmCall}
use Rattle.hsm_types.specs.declared.dm.DmRefusal.TheVariants as dm
use Rattle.hsm_types.specs.declared.dm.DmReply.{DmReply}
use Rattle.hsm_types.specs.declared.dm.DmReply.TheVariants as told
use Rattle.hsm_types.specs.declared.keys.Sid.{Sid}
use Rattle.plain_model.specs.declared.entries.Entry.{Entry}
use Rattle.plain_model.specs.declared.entries.Actor.{Actor}
use Rattle.plain_model.specs.declared.entries.Actor.TheVariants.{Caller, Session, Store as TheStore}
use Rattle.plain_model.specs.declared.entries.Action.{Action}
use Rattle.plain_model.specs.declared.entries.Action.TheVariants.{Issue, Resume, Dm, Commit}
use Rattle.plain_model.specs.declared.entries.Answer.{Answer}
use Rattle.plain_model.specs.declared.entries.Answer.TheVariants.{Call as Replied, Dm as Told}
use Rattle.plain_model.specs.Faults.{fault_of}
use Rattle.plain_model.specs.Exact.{answer_to, left_own, left_answered, IsOwnSeen}
use Rattle.plain_model.specs.State.{State}
use Rattle.plain_model.specs.Synced.{is_sync, synced}
use Rattle.file_store.specs.Stores.{superblock_of, Proceeds}
use Rattle.hsm_core.specs.Store.{Store, last_number, state_of}
use Rattle.hsm_core.specs.Crashes.{IsPrefix, IsSynced}

abbrev pub entry_of : Actor → Action → Answer → Entry
entry_of actor action answer = record { actor = actor; action = action; answer = answer }

-- the answer for want of memory
abbrev pub memory_of : Action → Answer
memory_of (Dm call) = Told (told.Refused dm.Memory)
memory_of action = Replied (Refused Memory)

-- the store's own answer to the event, and the state that it leaves
abbrev pub own_answer : {D : Type 0} → Store D → Actor → Action → Answer
own_answer s actor action = answer_to (superblock_of s.opened) (state_of s) actor action

abbrev pub own_state : {D : Type 0} → Store D → Actor → Action → State
own_state s actor action = left_own (superblock_of s.opened) (state_of s) actor action

-- The store was working. A crash in the event leaves what was durable before, or what was held before under the number of the last entry before it:
-- so what the first entries from before the event have left, all those that were synced among them.
pub record Goes {D : Type 0} (g : disk.Ghosts D) (old new : Store D) : Type 0 where
  pub opened : new.opened ≡ old.opened
  pub working : old.files.failed ≡ false
  pub proceeds : Proceeds g old.files (last_number old) new.files
  pub within : LeavesOnly g old.files.disk new.files.disk (IsPrefix old.opened old.history (synced old.history))

-- a call of the disk had failed before: nothing changes, whatever the room in the history
pub record IsClosed {D : Type 0} (old : Store D) (action : Action) (given : Answer) (new : Store D) : Type 0 where
  pub failed : old.files.failed ≡ true
  pub answer : given ≡ fault_of action
  pub same : new ≡ record old { spare = new.spare }

-- there was no memory, and no call of the disk failed: nothing is kept of the event, and all but the room in the history is as before
pub record LacksMemory {D : Type 0} (g : disk.Ghosts D) (old : Store D) (action : Action) (given : Answer) (new : Store D) : Type 0 where
  pub goes : Goes g old new
  pub answer : given ≡ memory_of action
  pub history : new.history ≡ old.history
  pub stamps : new.stamps ≡ old.stamps
  pub tables : new.tables ≡ old.tables
  pub state : state_of new ≡ state_of old
  pub still : new.files.failed ≡ false
  pub quiet : g.fault_count new.files.disk ≡ g.fault_count old.files.disk

-- just one call of the disk failed in the event: no stamp is changed, and no message, no token and no access that waits
pub record HasFailed {D : Type 0} (g : disk.Ghosts D) (old : Store D) (actor : Actor) (action : Action) (given : Answer) (new : Store D) : Type 0 where
  pub goes : Goes g old new
  pub answer : given ≡ fault_of action
  pub history : new.history ≡ old.history ++ entry_of actor action (fault_of action) ∷ []
  pub stamps : new.stamps ≡ old.stamps
  pub tables : new.tables ≡ old.tables
  pub failed : new.files.failed ≡ true
  pub once : RoseByOne (g.fault_count old.files.disk) (g.fault_count new.files.disk)

-- The event was answered by the store itself, and no call of the disk failed. The answer is its own over what is seen of its files: exact but for bytes, and
-- for whether these refuse a seal, and in these too where the disk tells what it holds. What it leaves goes by the answer that was given.
pub record IsDone {D : Type 0} (g : disk.Ghosts D) (old : Store D) (actor : Actor) (action : Action) (given : Answer) (new : Store D) : Type 0 where
  pub goes : Goes g old new
  pub answer : IsOwnSeen (Tells g new.files.disk) (superblock_of old.opened) (state_of old) actor action given
  pub history : new.history ≡ old.history ++ entry_of actor action given ∷ []
  pub leaves : state_of new ≡ left_answered (superblock_of old.opened) (state_of old) actor action given
  pub still : new.files.failed ≡ false
  pub quiet : g.fault_count new.files.disk ≡ g.fault_count old.files.disk
  -- a sync or a commit has made all durable, under the number of the last entry before it
  pub synced : is_sync (entry_of actor action given) ≡ true → IsSynced g (last_number old) old.files new.files

-- one of the four
abbrev pub IsAnswer : {D : Type 0} → disk.Ghosts D → Store D → Actor → Action → Answer → Store D → Type 0
IsAnswer g old actor action given new = IsClosed old action given new ⊎ LacksMemory g old action given new ⊎ HasFailed g old actor action given new ⊎ IsDone g old actor action given new

-- the call of that caller was answered
abbrev pub IsAnswered : {D : Type 0} → disk.Ghosts D → Store D → ℕ → Call → Reply → Store D → Type 0
IsAnswered g old caller call reply new = IsAnswer g old (Caller caller) (Issue call) (Replied reply) new

-- so was the caller who asked for the answer to its access that waits
abbrev pub IsResumed : {D : Type 0} → disk.Ghosts D → Store D → ℕ → Reply → Store D → Type 0
IsResumed g old caller reply new = IsAnswer g old (Caller caller) Resume (Replied reply) new

-- so was the call of that session
abbrev pub IsTold : {D : Type 0} → disk.Ghosts D → Store D → Sid → DmCall → DmReply → Store D → Type 0
IsTold g old sid call reply new = IsAnswer g old (Session sid) (Dm call) (Told reply) new

-- and a commit
abbrev pub IsCommitted : {D : Type 0} → disk.Ghosts D → Store D → Reply → Store D → Type 0
IsCommitted g old reply new = IsAnswer g old TheStore Commit (Replied reply) new
