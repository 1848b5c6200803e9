-- The parts of the machine, what they show of what it knows, and what holds between them.
use Rattle.std.specs.Prelude.{◌≡◌, ℕ, List, Option, Some, None}
use Rattle.hsm_types.specs.Limits.{buffer_bytes}
use Rattle.hsm_types.specs.declared.daemons.Act.{Act}
use Rattle.hsm_types.specs.declared.daemons.Act.TheVariants.{Dm, Fetch, Idle}
use Rattle.hsm_types.specs.declared.daemons.Heard.{Heard}
use Rattle.hsm_types.specs.declared.daemons.Heard.TheVariants as heard
use Rattle.hsm_types.specs.declared.dm.DmCall.TheVariants.{CreateSession, GetAllSessions, QuerySession, SetDisp, GetAllTokens, FindEventMsg}
use Rattle.hsm_types.specs.declared.dm.DmCall.TheVariants.{GetEvents, Respond, RequestRight, GetFileAttr, GetAllocInfo, Restore}
use Rattle.hsm_types.specs.declared.dm.Response.{Response}
use Rattle.hsm_types.specs.declared.dm.Right.TheVariants.{Excl}
use Rattle.hsm_types.specs.declared.keys.Sid.{Sid}
use Rattle.hsm_types.specs.declared.keys.Token.{Token}
use Rattle.hsm_types.specs.declared.daemons.Daemon.TheVariants.{Recall}
use Rattle.daemon_session.specs.declared.events.Event.{Event}
use Rattle.daemon_session.specs.Seats.{Seat, no_seat, IsSeated}
use Rattle.daemon_session.specs.Members.{Membership}
use Rattle.recall_daemon.specs.Known.{Known, Hand, taken, with_hand, failed, put_off, knows_by, asks_by, MayGive, ArePutOff, IsKept, Needs}
use Rattle.recall_daemon.specs.Machine.{Machine}
use Rattle.recall_daemon.specs.declared.away.Away.{Away}
use Rattle.recall_daemon.specs.declared.serving.Serving.{Serving}
use Rattle.recall_daemon.specs.declared.serving.Serving.TheVariants.{Outside, Entering, Resting, Asking, Requesting, Measuring, Mapping, Fetching}
use Rattle.recall_daemon.specs.declared.serving.Serving.TheVariants.{Restoring, Responding}
use Rattle.recall_daemon.specs.declared.worker.Worker.{Worker}

-- ---- what they show

-- the event in hand, once its size is known, and then its segments
abbrev pub measured : Event → ℕ → Hand
measured e size = record (taken e.token e.handle) { size = Some size }

abbrev pub mapped : Event → ℕ → List Away → Hand
mapped e size away = record (measured e size) { away = Some away }

abbrev pub hand_in : Serving → List Away → Option Hand
hand_in (Requesting sid e) away = Some (taken e.token e.handle)
hand_in (Measuring sid e) away = Some (taken e.token e.handle)
hand_in (Mapping sid e size) away = Some (measured e size)
hand_in (Fetching sid e size a) away = Some (mapped e size away)
hand_in (Restoring sid e size a) away = Some (mapped e size away)
hand_in serving away = None

abbrev pub known_of : Worker → Known
known_of w = with_hand (hand_in w.serving w.away.items) w.member.seat

abbrev pub machine_of : Worker → Machine
machine_of w = record { known = known_of w; asked = w.asked.value }

-- a call on an event failed: it was refused, or not answered
abbrev pub failed_by : Token → Heard → Known → Known
failed_by t (heard.Dm answer) k = failed t answer k
failed_by t told k = put_off t k

-- ---- what holds between them

-- A call on its way to a session. One that asks for a session has forgotten all.
abbrev pub IsEntry : Seat → Act → Type 0
IsEntry s (Dm sid GetAllSessions) = Unit {0}
IsEntry s (Dm sid (QuerySession target)) = Unit {0}
IsEntry s (Dm sid (CreateSession old info)) = s ≡ no_seat
IsEntry s (Dm sid (SetDisp kinds)) = Unit {0}
IsEntry s (Dm sid GetAllTokens) = Unit {0}
IsEntry s (Dm sid (FindEventMsg t room)) = Unit {0}
IsEntry s act = ⊥

-- it has a session, and serves an event that it keeps by that call
pub record IsServing (m : Membership) (sid : Sid) (e : Event) : Type 0 where
  pub seated : IsSeated m.seat sid
  pub is_kept : IsKept e m.seat.kept

-- what it waits for is what it asked
abbrev pub Waits : Serving → Membership → List Away → Act → Type 0
Waits Outside m away asked = (m.seat.sid ≡ None) × (asked ≡ Idle)
Waits Entering m away asked = IsEntry m.seat asked × (asked ≡ m.asked)
Waits (Resting sid) m away asked = IsSeated m.seat sid × (asked ≡ Idle)
Waits (Asking sid) m away asked = IsSeated m.seat sid × ArePutOff m.seat.kept × (asked ≡ Dm sid (GetEvents 0 buffer_bytes))
Waits (Requesting sid e) m away asked = IsServing m sid e × (asked ≡ Dm sid (RequestRight e.token e.handle Excl))
Waits (Measuring sid e) m away asked = IsServing m sid e × (asked ≡ Dm sid (GetFileAttr e.token e.handle))
Waits (Mapping sid e size) m away asked = IsServing m sid e × (asked ≡ Dm sid (GetAllocInfo e.token e.handle))
Waits (Fetching sid e size a) m away asked = IsServing m sid e × Needs e size away a × (asked ≡ Fetch a.entry)
Waits (Restoring sid e size a) m away asked = IsServing m sid e × ((bytes : List ℕ) × (asked ≡ Dm sid (Restore e.token e.handle a.segment bytes)))
Waits (Responding sid e) m away asked = IsSeated m.seat sid × ((response : Response) × (asked ≡ Dm sid (Respond e.token response)))

pub record IsWorker (w : Worker) : Type 0 where
  pub daemon : w.member.daemon ≡ Recall
  pub waits : Waits w.serving w.member w.away.items w.asked.value

-- it has the event in hand
abbrev pub HasInHand : Worker → Event → Type 0
HasInHand w e = (hand : Hand) × (hand_in w.serving w.away.items ≡ Some hand) × (hand.token ≡ e.token)

-- it takes nothing of the answer that it waits for
abbrev pub TakesNothing : Serving → Type 0
TakesNothing Entering = ⊥
TakesNothing (Fetching sid e size a) = ⊥
TakesNothing serving = Unit {0}

-- ---- what it gives

-- an act that it may give, from what it knows once it has heard the answer to what it asked
pub record Gives (k : Known) (asked : Act) (told : Heard) (act : Act) (new : Worker) : Type 0 where
  pub worker : IsWorker new
  pub known : known_of new ≡ asks_by k act
  pub asks : new.asked.value ≡ act
  pub may : MayGive k asked told act

-- the same, of a worker that has heard it
abbrev pub Works : Worker → Heard → Act → Worker → Type 0
Works old told act new = Gives (knows_by (known_of old) old.asked.value told) old.asked.value told act new
