-- All that was done with a store and its daemons, in order. The history of entries is a part of it.
use Rattle.std.specs.Prelude.{◌≡◌, ◌≢◌, ◌+◌, ◌<◌, List, Option, None, Some, Ok, Err}
use Rattle.std.specs.List.{filter_map}
use Rattle.disk_model.specs.Calls.{Rose}
use Rattle.hsm_types.specs.Stubs.{print_of, entry_place, entry_print}
use Rattle.hsm_types.specs.declared.calls.CallRefusal.TheVariants as refused
use Rattle.hsm_types.specs.declared.calls.Reply.TheVariants as replied
use Rattle.hsm_types.specs.declared.daemons.Act.{Act}
use Rattle.hsm_types.specs.declared.daemons.Act.TheVariants as act
use Rattle.hsm_types.specs.declared.daemons.Daemon.{Daemon}
use Rattle.hsm_types.specs.declared.daemons.Heard.{Heard}
use Rattle.hsm_types.specs.declared.daemons.Heard.TheVariants as heard
use Rattle.hsm_types.specs.declared.dm.DmCall.{DmCall}
use Rattle.hsm_types.specs.declared.dm.DmCall.TheVariants.{Respond}
use Rattle.hsm_types.specs.declared.dm.DmRefusal.TheVariants as why
use Rattle.hsm_types.specs.declared.dm.DmReply.TheVariants.{Refused}
use Rattle.hsm_types.specs.declared.dm.Response.TheVariants.{Media}
use Rattle.hsm_types.specs.declared.keys.Sid.{Sid}
use Rattle.hsm_types.specs.declared.media.CopyRefusal.TheVariants as copying
use Rattle.hsm_types.specs.declared.media.Fault.{Fault}
use Rattle.hsm_types.specs.declared.media.Fault.TheVariants.{Failed, Damaged}
use Rattle.hsm_types.specs.declared.media.FetchRefusal.TheVariants as fetching
use Rattle.hsm_types.specs.declared.stubs.StubEntry.{StubEntry}
use Rattle.plain_model.specs.declared.entries.Action.{Action}
use Rattle.plain_model.specs.declared.entries.Action.TheVariants as action
use Rattle.plain_model.specs.declared.entries.Actor.{Actor}
use Rattle.plain_model.specs.declared.entries.Actor.TheVariants.{Session}
use Rattle.plain_model.specs.declared.entries.Answer.{Answer}
use Rattle.plain_model.specs.declared.entries.Answer.TheVariants as answer
use Rattle.plain_model.specs.declared.entries.Entry.{Entry}

abbrev pub entry_of : Actor → Action → Answer → Entry
entry_of actor asked told = record { actor = actor; action = asked; answer = told }

-- An act is two deeds, given and heard, since others may come between. A call is made where its answer is heard.
pub data Deed : Type 0 where
  -- an event of a line, or of a caller who goes on
  Enters : Entry → Deed
  -- the daemon is started; where it runs it goes on
  Starts : Daemon → Deed
  -- it is ended; where it doesn't run nothing is
  Kills : Daemon → Deed
  -- migration may begin one pass by `high` from here on
  Refreshes : Deed
  -- the daemon gives the act
  Gives : Daemon → Act → Deed
  -- it is to hear this of the act
  Hears : Daemon → Act → Heard → Deed
  -- its call was answered with a fault of the disk, of which it hears nothing
  Breaks : Daemon → Sid → DmCall → Deed
  -- what it was to hear, or still awaits, is lost, as memory ran out or the store was closed before: it hears nothing
  Loses : Daemon → Deed

-- ---- the history

-- a call that was answered is an entry, and neither a copy nor a fetch nor a rest is
abbrev pub call_told : Act → Heard → Option Entry
call_told (act.Dm sid call) (heard.Dm reply) = Some (entry_of (Session sid) (action.Dm call) (answer.Dm reply))
call_told asked told = None

abbrev pub entry_in : Deed → Option Entry
entry_in (Enters e) = Some e
entry_in (Hears daemon asked told) = call_told asked told
entry_in (Breaks daemon sid call) = Some (entry_of (Session sid) (action.Dm call) (answer.Dm (Refused why.Disk)))
entry_in deed = None

abbrev pub entries_of : List Deed → List Entry
entries_of deeds = filter_map entry_in deeds

-- ---- what may be heard

-- the fault is one of the object that the entry names, and is one: a count that rose, or a fingerprint that is another one than is wanted
abbrev pub IsOf : StubEntry → Fault → Type 0
IsOf entry (Failed volume object before after) = (volume ≡ (entry_place entry).volume) × (object ≡ (entry_place entry).object) × Rose before after
IsOf entry (Damaged volume object want got) = (volume ≡ (entry_place entry).volume) × (object ≡ (entry_place entry).object) × (want ≡ entry_print entry) × (want ≢ got)

-- What may be heard of an act, whatever stores and drives hold. Of a call it is an answer with which the run goes on; of a copy an entry of the bytes on
-- that volume, or a refusal with its cause; of a fetch bytes with the entry's fingerprint, or a refusal that speaks of its object; of a rest it is nothing.
-- Want of memory is never heard.
abbrev pub Fits : Act → Heard → Type 0
Fits (act.Dm sid call) (heard.Dm reply) = (reply ≢ Refused why.Disk) × (reply ≢ Refused why.Memory)
Fits (act.Copy volume handle segment bytes) (heard.Copied (Ok entry)) = ((entry_place entry).volume ≡ volume) × (entry_print entry ≡ print_of bytes)
Fits (act.Copy volume handle segment bytes) (heard.Copied (Err (copying.Failed before after))) = Rose before after
Fits (act.Copy volume handle segment bytes) (heard.Copied (Err (copying.Full used len capacity))) = capacity < used + len
Fits (act.Copy volume handle segment bytes) (heard.Copied (Err (copying.Damaged want got))) = (want ≡ print_of bytes) × (want ≢ got)
Fits (act.Copy volume handle segment bytes) (heard.Copied (Err copying.Memory)) = ⊥
Fits (act.Copy volume handle segment bytes) (heard.Copied (Err refusal)) = Unit {0}
Fits (act.Fetch entry) (heard.Fetched (Ok bytes)) = print_of bytes ≡ entry_print entry
Fits (act.Fetch entry) (heard.Fetched (Err (fetching.Media fault))) = IsOf entry fault
Fits (act.Fetch entry) (heard.Fetched (Err (fetching.NoObject volume object))) = (volume ≡ (entry_place entry).volume) × (object ≡ (entry_place entry).object)
Fits (act.Fetch entry) (heard.Fetched (Err fetching.Memory)) = ⊥
Fits act.Idle heard.Nothing = Unit {0}
Fits asked told = ⊥

-- ---- behind what a run goes on

-- Behind such an answer a run goes on: it is no fault of the disk, and no want of memory.
abbrev pub StopsNothing : Answer → Type 0
StopsNothing (answer.Call (replied.Refused refused.Disk)) = ⊥
StopsNothing (answer.Call (replied.Refused refused.Memory)) = ⊥
StopsNothing (answer.Dm (Refused why.Disk)) = ⊥
StopsNothing (answer.Dm (Refused why.Memory)) = ⊥
StopsNothing told = Unit {0}

-- ---- what lines may do

-- no response with a fault of a medium
abbrev pub NamesNoFault : Action → Type 0
NamesNoFault (action.Dm (Respond t (Media cause))) = ⊥
NamesNoFault asked = Unit {0}

-- only a daemon answers an event for a fault of a medium
abbrev pub IsRight : Deed → Type 0
IsRight (Enters e) = NamesNoFault e.action
IsRight deed = Unit {0}
