-- Answers for a fault of the disk, and where in a history they stand.
use Rattle.std.specs.Prelude.{◌≡◌, List, [], Bool, true, false}
use Rattle.std.specs.List.{list_any}
use Rattle.hsm_types.specs.declared.calls.CallRefusal.TheVariants.{Disk}
use Rattle.hsm_types.specs.declared.calls.Reply.TheVariants.{Refused}
use Rattle.hsm_types.specs.declared.dm.DmRefusal.TheVariants as dm
use Rattle.hsm_types.specs.declared.dm.DmReply.TheVariants as told
use Rattle.plain_model.specs.declared.entries.Entry.{Entry}
use Rattle.plain_model.specs.declared.entries.Actor.{Actor}
use Rattle.plain_model.specs.declared.entries.Actor.TheVariants.{Caller, Session, Store}
use Rattle.plain_model.specs.declared.entries.Action.{Action}
use Rattle.plain_model.specs.declared.entries.Action.TheVariants.{Issue, Resume, Dm, Commit}
use Rattle.plain_model.specs.declared.entries.Answer.{Answer}
use Rattle.plain_model.specs.declared.entries.Answer.TheVariants.{Call as Replied, Dm as Told}

-- a call of the disk failed in the event
abbrev pub is_fault : Answer → Bool
is_fault (Replied (Refused Disk)) = true
is_fault (Told (told.Refused dm.Disk)) = true
is_fault answer = false

-- the answer that says so
abbrev pub fault_of : Action → Answer
fault_of (Dm call) = Told (told.Refused dm.Disk)
fault_of action = Replied (Refused Disk)

-- callers issue calls and resume, sessions make their calls, and the store commits
abbrev pub Acts : Actor → Action → Type 0
Acts (Caller c) (Issue call) = Unit {0}
Acts (Caller c) Resume = Unit {0}
Acts (Session sid) (Dm call) = Unit {0}
Acts Store Commit = Unit {0}
Acts actor action = ⊥

-- The answer of the event is for a fault. In each event a call of the disk may fail
abbrev pub IsFault : Actor → Action → Answer → Type 0
IsFault actor action answer = Acts actor action × (answer ≡ fault_of action)

-- an entry that is answered so is the last one
abbrev pub FaultIsLast : Entry → List Entry → Type 0
FaultIsLast e rest = is_fault e.answer ≡ true → rest ≡ []

-- an entry of the history is answered so
abbrev pub has_fault : List Entry → Bool
has_fault es = list_any (λ e. is_fault e.answer) es
