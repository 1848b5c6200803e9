-- What the recall daemon knows, and what it may do by that. What it knows is a fold over its acts and the answers to them. Over the entries of a history,
-- which tell its calls and their answers, the same fold gives the same but for which events are put off: rests and calls with no answer leave no entry.
use Rattle.std.specs.Prelude.{◌≡◌, ℕ, ◌+◌, ◌≤◌, ◌^◌, ◌⊎◌, min, List, [], filter, Bool, true, false, not, ◌==◌, nat_lt, if◌then◌else◌, Option, Some}
use Rattle.std.specs.Prelude.{None, Ok, Err, Contains, IsSome}
use Rattle.std.specs.List.{All, filter_map, enumerate_from}
use Rattle.std.specs.Option.{option_map}
use Rattle.hsm_types.specs.Limits.{buffer_bytes}
use Rattle.hsm_types.specs.Segments.{segments_met, segment_around}
use Rattle.hsm_types.specs.declared.daemons.Act.{Act}
use Rattle.hsm_types.specs.declared.daemons.Act.TheVariants.{Dm, Copy, Fetch, Idle}
use Rattle.hsm_types.specs.declared.daemons.Heard.{Heard}
use Rattle.hsm_types.specs.declared.daemons.Heard.TheVariants as heard
use Rattle.hsm_types.specs.declared.dm.DmCall.{DmCall}
use Rattle.hsm_types.specs.declared.dm.DmCall.TheVariants.{CreateSession, GetAllSessions, GetEvents, Respond, RequestRight, GetFileAttr, GetAllocInfo, Restore}
use Rattle.hsm_types.specs.declared.dm.DmReply.{DmReply}
use Rattle.hsm_types.specs.declared.dm.DmReply.TheVariants as reply
use Rattle.hsm_types.specs.declared.dm.DmRefusal.{DmRefusal}
use Rattle.hsm_types.specs.declared.dm.DmRefusal.TheVariants as why
use Rattle.hsm_types.specs.declared.dm.Kind.{Kind}
use Rattle.hsm_types.specs.declared.dm.Kind.TheVariants.{Read, Write, Truncate}
use Rattle.hsm_types.specs.declared.dm.Response.{Response}
use Rattle.hsm_types.specs.declared.dm.Response.TheVariants.{Continue, Abort, Media}
use Rattle.hsm_types.specs.declared.dm.Right.TheVariants.{Excl}
use Rattle.hsm_types.specs.declared.keys.Handle.{Handle}
use Rattle.hsm_types.specs.declared.keys.Sid.{Sid}
use Rattle.hsm_types.specs.declared.keys.Token.{Token}
use Rattle.hsm_types.specs.declared.media.FetchRefusal.{FetchRefusal}
use Rattle.hsm_types.specs.declared.media.FetchRefusal.TheVariants as fetching
use Rattle.hsm_types.specs.declared.stubs.Segment.{Segment}
use Rattle.hsm_types.specs.declared.stubs.Segment.TheVariants.{Resident, Sealed, Offline}
use Rattle.hsm_types.specs.declared.stubs.StubEntry.{StubEntry}
use Rattle.hsm_types.specs.declared.daemons.Daemon.TheVariants.{Recall}
use Rattle.daemon_session.specs.declared.events.Event.{Event}
use Rattle.daemon_session.specs.declared.events.Kept.{Kept}
use Rattle.daemon_session.specs.Seats.{Seat, no_seat, forgot, marked_at, all_marked, seat_hears, IsSeated, MayEnter}
use Rattle.daemon_session.specs.Members.{IsRefusedOne}
use Rattle.recall_daemon.specs.declared.away.Away.{Away}

-- ---- which segments an access needs

-- of an access of that kind on a file of that size, by the two numbers of its message
abbrev pub needed_as : Kind → ℕ → ℕ → ℕ → List ℕ
needed_as Read offset len size = segments_met offset (min (offset + len) size)
needed_as Write offset len size = segments_met (min offset size) (offset + len)
needed_as Truncate to len size = if to == size then [] else segment_around (min to size)
needed_as kind offset len size = []

abbrev pub needed_by : Event → ℕ → List ℕ
needed_by e size = needed_as e.kind e.offset e.length size

-- the segment of that number, where its bytes are away. A number has 32 bits
abbrev pub away_at : ℕ × Segment → Option Away
away_at (j, Offline entry) = if nat_lt j (2 ^ 32) then Some (record { segment = j; entry = entry }) else None
away_at (j, Resident blocks) = None
away_at (j, Sealed blocks entry) = None

abbrev pub away_in : List Segment → List Away
away_in segments = filter_map away_at (enumerate_from 0 segments)

-- ---- what it knows

-- The event that it serves: the size of the file, and which of its segments are away by the last answer that told all of them and the restores since.
-- Whether the file was found gone, and whether a restore found no space.
pub record Hand : Type 0 where
  pub token : Token
  pub handle : Handle
  pub size : Option ℕ
  pub away : Option (List Away)
  pub gone : Bool
  pub short : Bool

-- An event that is put off to the next round is marked.
pub record Known : Type 0 where
  pub seat : Seat
  pub hand : Option Hand

abbrev pub with_hand : Option Hand → Seat → Known
with_hand hand s = record { seat = s; hand = hand }

abbrev pub nothing_known : Known
nothing_known = with_hand None no_seat

abbrev pub taken : Token → Handle → Hand
taken t h = record { token = t; handle = h; size = None; away = None; gone = false; short = false }

abbrev pub handling : (Hand → Hand) → Known → Known
handling f k = record k { hand = option_map f k.hand }

abbrev pub with_kept : List Kept → Known → Known
with_kept kept k = record { seat = record (k.seat) { kept = kept }; hand = None }

abbrev pub put_off : Token → Known → Known
put_off t k = with_kept (marked_at t k.seat.kept) k

abbrev pub dropped : Token → Known → Known
dropped t k = with_kept (forgot t k.seat.kept) k

-- ---- its calls, and what it hears

abbrev pub asks : Known → DmCall → Known
asks k GetAllSessions = nothing_known
asks k (CreateSession old info) = nothing_known
asks k (RequestRight t h right) = record { seat = k.seat; hand = Some (taken t h) }
asks k (Respond t response) = record { seat = k.seat; hand = None }
asks k call = k

abbrev pub back_in : ℕ → Option (List Away) → Option (List Away)
back_in j away = option_map (λ (l : List Away). filter (λ (a : Away). not (a.segment == j)) l) away

-- what a refusal says of the event
abbrev pub refused : Token → DmRefusal → Known → Known
refused t why.NoObject k = handling (λ (h : Hand). record h { gone = true }) k
refused t why.NoToken k = dropped t k
refused t (why.NotYours owner) k = dropped t k
refused t why.NoSession k = k
refused t other k = put_off t k

-- a call on the event that wasn't done
abbrev pub failed : Token → DmReply → Known → Known
failed t (reply.Refused w) k = refused t w k
failed t answer k = put_off t k

-- and of a restore
abbrev pub unrestored : Token → DmRefusal → Known → Known
unrestored t (why.NoSpace need free) k = handling (λ (hand : Hand). record hand { short = true }) k
unrestored t w k = refused t w k

-- and of a response, which tells nothing of the file
abbrev pub unanswered : Token → DmRefusal → Known → Known
unanswered t why.NoToken k = dropped t k
unanswered t (why.NotYours owner) k = dropped t k
unanswered t why.NoSession k = k
unanswered t other k = put_off t k

abbrev pub hears : Known → DmCall → DmReply → Known
hears k (RequestRight t h right) reply.Done = k
hears k (RequestRight t h right) answer = failed t answer k
hears k (GetFileAttr t h) (reply.Attr size stamp blocks) = handling (λ (hand : Hand). record hand { size = Some size }) k
hears k (GetFileAttr t h) answer = failed t answer k
hears k (GetAllocInfo t h) (reply.Alloc segments) = handling (λ (hand : Hand). record hand { away = Some (away_in segments) }) k
hears k (GetAllocInfo t h) answer = failed t answer k
hears k (Restore t h j bytes) reply.Done = handling (λ (hand : Hand). record hand { away = back_in j hand.away }) k
hears k (Restore t h j bytes) (reply.Refused w) = unrestored t w k
hears k (Restore t h j bytes) answer = put_off t k
hears k (Respond t response) reply.Done = dropped t k
hears k (Respond t response) (reply.Refused w) = unanswered t w k
hears k (Respond t response) answer = put_off t k
hears k call answer = record { seat = seat_hears Recall k.seat call answer; hand = k.hand }

-- a call to which no answer came
abbrev pub misses : Known → DmCall → Known
misses k (RequestRight t h right) = put_off t k
misses k (GetFileAttr t h) = put_off t k
misses k (GetAllocInfo t h) = put_off t k
misses k (Restore t h j bytes) = put_off t k
misses k (Respond t response) = put_off t k
misses k call = k

abbrev pub knows_by : Known → Act → Heard → Known
knows_by k (Dm sid call) (heard.Dm answer) = hears k call answer
knows_by k (Dm sid call) told = misses k call
knows_by k act told = k

-- a rest begins a new round, in which nothing is put off
abbrev pub asks_by : Known → Act → Known
asks_by k (Dm sid call) = asks k call
asks_by k Idle = record k { seat = record (k.seat) { kept = all_marked false k.seat.kept } }
asks_by k act = k

-- ---- what it may do

-- it keeps the event, put off or not
abbrev pub IsKept : Event → List Kept → Type 0
IsKept e kept = (mark : Bool) × Contains kept (record { event = e; marked = mark })

-- the event in hand, as it was told of it
pub record IsInHand (kept : List Kept) (h : Hand) (e : Event) : Type 0 where
  pub is_kept : IsKept e kept
  pub token : e.token ≡ h.token
  pub handle : e.handle ≡ h.handle

-- the segment is away, and the access needs it
abbrev pub Needs : Event → ℕ → List Away → Away → Type 0
Needs e size away a = Contains away a × Contains (needed_by e size) a.segment

abbrev pub NoneNeeded : Event → ℕ → List Away → Type 0
NoneNeeded e size away = (a : Away) → Needs e size away a → ⊥

pub record IsNeeded (kept : List Kept) (h : Hand) (a : Away) : Type 0 where
  pub event : Event
  pub size : ℕ
  pub away : List Away
  pub in_hand : IsInHand kept h event
  pub sized : h.size ≡ Some size
  pub told : h.away ≡ Some away
  pub needs : Needs event size away a

-- no segment that the access needs is away
pub record IsReady (kept : List Kept) (h : Hand) : Type 0 where
  pub event : Event
  pub size : ℕ
  pub away : List Away
  pub in_hand : IsInHand kept h event
  pub sized : h.size ≡ Some size
  pub told : h.away ≡ Some away
  pub none : NoneNeeded event size away

-- the answer to a fetch by the entry of a segment that the access needs
abbrev pub IsFetched : List Kept → Hand → Act → Heard → FetchRefusal → Type 0
IsFetched kept h asked told w = (a : Away) × (asked ≡ Fetch a.entry) × (told ≡ heard.Fetched (Err w)) × IsNeeded kept h a

abbrev pub IsLost : List Kept → Hand → Act → Heard → Type 0
IsLost kept h asked told = (volume : ℕ) × (object : ℕ) × IsFetched kept h asked told (fetching.NoObject volume object)

abbrev pub IsReason : List Kept → Hand → Act → Heard → Response → Type 0
IsReason kept h asked told Continue = (h.gone ≡ true) ⊎ IsReady kept h
IsReason kept h asked told (Abort error) = ((error ≡ 2) × IsLost kept h asked told) ⊎ ((error ≡ 28) × (h.short ≡ true))
IsReason kept h asked told (Media cause) = IsFetched kept h asked told (fetching.Media cause)

-- the event in hand
abbrev pub Holds : Known → Token → Handle → Hand → Type 0
Holds k t h hand = (k.hand ≡ Some hand) × (hand.token ≡ t) × (hand.handle ≡ h)

abbrev pub MayRespond : Known → Act → Heard → Token → Response → Type 0
MayRespond k asked told t response = (hand : Hand) × (k.hand ≡ Some hand) × (hand.token ≡ t) × IsReason k.seat.kept hand asked told response

-- of the events that are not put off the one with the lowest token
pub record IsFirst (kept : List Kept) (e : Event) : Type 0 where
  pub is_kept : Contains kept (record { event = e; marked = false })
  pub first : All (λ (o : Kept). o.marked ≡ false → e.token.0 ≤ o.event.token.0) kept

abbrev pub IsNext : List Kept → Token → Handle → Type 0
IsNext kept t h = (e : Event) × IsFirst kept e × (e.token ≡ t) × (e.handle ≡ h)

abbrev pub ArePutOff : List Kept → Type 0
ArePutOff kept = All (λ (k : Kept). k.marked ≡ true) kept

-- it asked for events, and there is none more
abbrev pub HasAll : Act → Heard → Type 0
HasAll asked told = (sid : Sid) × (asked ≡ Dm sid (GetEvents 0 buffer_bytes)) × (told ≡ heard.Dm (reply.Refused why.Again))

abbrev pub HasRight : Act → Heard → Sid → Token → Handle → Type 0
HasRight asked told sid t h = (asked ≡ Dm sid (RequestRight t h Excl)) × (told ≡ heard.Dm reply.Done)

abbrev pub MayCall : Known → Act → Heard → Sid → DmCall → Type 0
MayCall k asked told sid (GetEvents most room) = IsSeated k.seat sid × (most ≡ 0) × (room ≡ buffer_bytes) × (k.hand ≡ None) × ArePutOff k.seat.kept × (HasAll asked told → ⊥)
MayCall k asked told sid (RequestRight t h right) = IsSeated k.seat sid × (right ≡ Excl) × (k.hand ≡ None) × IsNext k.seat.kept t h
MayCall k asked told sid (GetFileAttr t h) = IsSeated k.seat sid × HasRight asked told sid t h × ((hand : Hand) × Holds k t h hand)
MayCall k asked told sid (GetAllocInfo t h) = IsSeated k.seat sid × (asked ≡ Dm sid (GetFileAttr t h)) × ((hand : Hand) × Holds k t h hand × IsSome hand.size)
MayCall k asked told sid (Restore t h j bytes) = IsSeated k.seat sid × ((hand : Hand) × (a : Away) × Holds k t h hand × IsNeeded k.seat.kept hand a × (a.segment ≡ j) × (asked ≡ Fetch a.entry) × (told ≡ heard.Fetched (Ok bytes)))
MayCall k asked told sid (Respond t response) = IsSeated k.seat sid × MayRespond k asked told t response
MayCall k asked told sid call = MayEnter Recall k.seat asked told sid call

-- what tells nothing of a fetch: it is made again
abbrev pub TellsNothing : Heard → Type 0
TellsNothing (heard.Fetched (Ok bytes)) = ⊥
TellsNothing (heard.Fetched (Err fetching.Memory)) = Unit {0}
TellsNothing (heard.Fetched (Err w)) = ⊥
TellsNothing told = Unit {0}

-- A fetch that told something isn't made again.
abbrev pub IsCalm : Act → Heard → Type 0
IsCalm (Fetch entry) told = TellsNothing told
IsCalm act told = Unit {0}

abbrev pub MayFetch : Known → Act → Heard → StubEntry → Type 0
MayFetch k asked told entry = IsCalm asked told × ((hand : Hand) × (a : Away) × (k.hand ≡ Some hand) × (hand.gone ≡ false) × (hand.short ≡ false) × IsNeeded k.seat.kept hand a × (a.entry ≡ entry))

-- it has all events and put each off, or it was refused a session
abbrev pub MayRest : Known → Act → Heard → Type 0
MayRest k asked told = (HasAll asked told × ArePutOff k.seat.kept) ⊎ IsRefusedOne asked told

-- what it may give, from what it knows once it has heard the answer to what it asked
abbrev pub MayGive : Known → Act → Heard → Act → Type 0
MayGive k asked told (Dm sid call) = MayCall k asked told sid call
MayGive k asked told (Copy volume handle segment bytes) = ⊥
MayGive k asked told (Fetch entry) = MayFetch k asked told entry
MayGive k asked told Idle = MayRest k asked told
