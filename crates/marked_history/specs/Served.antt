-- What the entries of a history tell its daemons, and which calls a daemon may make by that.
use Rattle.std.specs.Prelude.{◌≡◌, ◌⊎◌, List, [], ◌∷◌, true, Option, None, Some}
use Rattle.hsm_types.specs.Limits.{buffer_bytes}
use Rattle.hsm_types.specs.Messages.{no_token}
use Rattle.hsm_types.specs.Stubs.{print_of, entry_place, entry_print}
use Rattle.hsm_types.specs.declared.daemons.Daemon.{Daemon}
use Rattle.hsm_types.specs.declared.daemons.Daemon.TheVariants.{Recall, Migrate}
use Rattle.hsm_types.specs.declared.dm.DmCall.{DmCall}
use Rattle.hsm_types.specs.declared.dm.DmCall.TheVariants as call
use Rattle.hsm_types.specs.declared.dm.Response.{Response}
use Rattle.hsm_types.specs.declared.dm.Response.TheVariants.{Continue, Abort, Media}
use Rattle.hsm_types.specs.declared.dm.Right.TheVariants.{Excl}
use Rattle.hsm_types.specs.declared.keys.Handle.{Handle}
use Rattle.hsm_types.specs.declared.keys.Sid.{Sid}
use Rattle.hsm_types.specs.declared.keys.Token.{Token}
use Rattle.hsm_types.specs.declared.media.Fault.{Fault}
use Rattle.hsm_types.specs.declared.media.Fault.TheVariants.{Failed, Damaged}
use Rattle.hsm_types.specs.declared.stubs.StubEntry.{StubEntry}
use Rattle.plain_model.specs.declared.entries.Action.{Action}
use Rattle.plain_model.specs.declared.entries.Action.TheVariants.{Dm}
use Rattle.hsm_policy.specs.Settings.{Numbers}
use Rattle.daemon_session.specs.declared.events.Event.{Event}
use Rattle.daemon_session.specs.declared.events.Kept.{Kept}
use Rattle.daemon_session.specs.Seats.{Seat, first_id, IsSeated, MayGoOn}
use Rattle.recall_daemon.specs.Known as recall
use Rattle.recall_daemon.specs.declared.away.Away.{Away}
use Rattle.migrate_daemon.specs.Known as migrate
use Rattle.migrate_daemon.specs.Machine.{CameBeforePass, NoneServed, answer_of}
use Rattle.migrate_daemon.specs.Passes.{whole_file}
use Rattle.marked_history.specs.Marks.{Mark, AnsweredCall, answered_call_in}

-- ---- what is told

-- what either daemon knows by the answers that it was told
pub record Shown : Type 0 where
  pub recall : recall.Known
  pub migrate : migrate.Known

abbrev pub nothing_shown : Shown
nothing_shown = record { recall = recall.nothing_known; migrate = migrate.nothing_known true }

abbrev pub with_exchange : Numbers → Daemon → AnsweredCall → Shown → Shown
with_exchange limits Recall x k = record k { recall = recall.hears (recall.asks k.recall x.call) x.call x.reply }
with_exchange limits Migrate x k = record k { migrate = migrate.hears limits (migrate.asks k.migrate x.call) x.call x.reply }

abbrev pub with_entry : Numbers → Option Daemon → Option AnsweredCall → Shown → Shown
with_entry limits (Some daemon) (Some x) k = with_exchange limits daemon x k
with_entry limits by x k = k

abbrev pub learned : Numbers → Shown → Mark → Shown
learned limits k m = with_entry limits m.by (answered_call_in m.entry) k

abbrev pub shown : Numbers → Shown → List Mark → Shown
shown limits k [] = k
shown limits k (m ∷ marks) = shown limits (learned limits k m) marks

-- ---- which calls a daemon may make

-- the calls on the way to a session
abbrev pub MayCome : Daemon → Seat → Sid → DmCall → Type 0
MayCome daemon seat sid call.GetAllSessions = sid ≡ first_id
MayCome daemon seat sid other = MayGoOn daemon seat sid other

-- the fault is one of the object that the entry names
abbrev pub IsOf : StubEntry → Fault → Type 0
IsOf entry (Failed volume object before after) = (volume ≡ (entry_place entry).volume) × (object ≡ (entry_place entry).object)
IsOf entry (Damaged volume object want got) = (volume ≡ (entry_place entry).volume) × (object ≡ (entry_place entry).object) × (want ≡ entry_print entry)

-- A fault answers for a needed segment of the last segments that it was told. So does an object that isn't there.
abbrev pub IsReasonTold : List Kept → recall.Hand → Response → Type 0
IsReasonTold kept hand Continue = (hand.gone ≡ true) ⊎ recall.IsReady kept hand
IsReasonTold kept hand (Abort error) = ((error ≡ 2) × ((a : Away) × recall.IsNeeded kept hand a)) ⊎ ((error ≡ 28) × (hand.short ≡ true))
IsReasonTold kept hand (Media cause) = (a : Away) × recall.IsNeeded kept hand a × IsOf a.entry cause

-- it was told of that event, on that file
abbrev pub IsTold : List Kept → Token → Handle → Type 0
IsTold kept t h = (e : Event) × recall.IsKept e kept × (e.token ≡ t) × (e.handle ≡ h)

abbrev pub RecallMay : recall.Known → Sid → DmCall → Type 0
RecallMay k sid (call.GetEvents most room) = IsSeated k.seat sid × (most ≡ 0) × (room ≡ buffer_bytes)
RecallMay k sid (call.RequestRight t h right) = IsSeated k.seat sid × (right ≡ Excl) × IsTold k.seat.kept t h
RecallMay k sid (call.GetFileAttr t h) = IsSeated k.seat sid × ((hand : recall.Hand) × recall.Holds k t h hand)
RecallMay k sid (call.GetAllocInfo t h) = IsSeated k.seat sid × ((hand : recall.Hand) × recall.Holds k t h hand)
RecallMay k sid (call.Restore t h segment bytes) = IsSeated k.seat sid × ((hand : recall.Hand) × (a : Away) × recall.Holds k t h hand × recall.IsNeeded k.seat.kept hand a × (a.segment ≡ segment) × (print_of bytes ≡ entry_print a.entry))
RecallMay k sid (call.Respond t response) = IsSeated k.seat sid × ((hand : recall.Hand) × (k.hand ≡ Some hand) × (hand.token ≡ t) × IsReasonTold k.seat.kept hand response)
RecallMay k sid other = MayCome Recall k.seat sid other

-- It answers an event after a pass that began when it had the event's message, by what that pass has punched, and begins no other before.
abbrev pub MigrateMay : migrate.Known → Sid → DmCall → Type 0
MigrateMay k sid call.GetSpace = IsSeated k.seat sid
MigrateMay k sid call.GetTable = IsSeated k.seat sid × NoneServed k.seat.kept
MigrateMay k sid (call.GetEvents most room) = IsSeated k.seat sid × (most ≡ 0) × (room ≡ buffer_bytes)
MigrateMay k sid (call.GetRegion t h) = IsSeated k.seat sid × (t ≡ no_token)
MigrateMay k sid (call.SetRegion t h regions) = IsSeated k.seat sid × (t ≡ no_token) × (regions ≡ whole_file)
MigrateMay k sid (call.ReadInvis t h offset len) = IsSeated k.seat sid × (t ≡ no_token)
MigrateMay k sid (call.Seal t h segment entry) = IsSeated k.seat sid × (t ≡ no_token)
MigrateMay k sid (call.PunchHole t h offset len) = IsSeated k.seat sid × (t ≡ no_token)
MigrateMay k sid (call.Respond t response) = IsSeated k.seat sid × CameBeforePass k.seat.kept t × (response ≡ answer_of k.punched)
MigrateMay k sid other = MayCome Migrate k.seat sid other

abbrev pub MayCall : Daemon → Shown → Sid → DmCall → Type 0
MayCall Recall k sid asked = RecallMay k.recall sid asked
MayCall Migrate k sid asked = MigrateMay k.migrate sid asked

-- ---- a history that is served

-- no response with a fault of a medium
abbrev pub NamesNoFault : Action → Type 0
NamesNoFault (Dm (call.Respond t (Media cause))) = ⊥
NamesNoFault action = Unit {0}

abbrev pub MayExchange : Daemon → Shown → Option AnsweredCall → Type 0
MayExchange daemon k (Some x) = MayCall daemon k x.sid x.call
MayExchange daemon k None = ⊥

-- A daemon's entry is a call that it may make, and no other entry answers an event for a fault of a medium.
abbrev pub IsServedBy : Option Daemon → Shown → Mark → Type 0
IsServedBy (Some daemon) k m = MayExchange daemon k (answered_call_in m.entry)
IsServedBy None k m = NamesNoFault m.entry.action

abbrev pub ServedFrom : Numbers → Shown → List Mark → Type 0
ServedFrom limits k [] = Unit {0}
ServedFrom limits k (m ∷ marks) = IsServedBy m.by k m × ServedFrom limits (learned limits k m) marks

-- each by what the entries before it have told
abbrev pub Served : Numbers → List Mark → Type 0
Served limits marks = ServedFrom limits nothing_shown marks
