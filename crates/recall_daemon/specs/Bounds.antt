-- How many acts the machine makes at most before it asks for events, where no file has more than so many segments that are away.
use Rattle.std.specs.Prelude.{◌≡◌, ℕ, ◌+◌, ◌-◌, ◌*◌, ◌<◌, ◌≤◌, ◌⊎◌, zero, suc, false, List, filter, length, not, Option, Some, None, Contains}
use Rattle.hsm_types.specs.declared.daemons.Act.{Act}
use Rattle.hsm_types.specs.declared.daemons.Act.TheVariants.{Dm, Fetch, Idle}
use Rattle.hsm_types.specs.declared.daemons.Heard.{Heard}
use Rattle.hsm_types.specs.declared.daemons.Heard.TheVariants as heard
use Rattle.hsm_types.specs.declared.dm.DmCall.TheVariants.{CreateSession, GetAllSessions, QuerySession, SetDisp, GetAllTokens, FindEventMsg}
use Rattle.hsm_types.specs.declared.dm.DmCall.TheVariants.{GetEvents, Respond, RequestRight, GetFileAttr, GetAllocInfo, Restore}
use Rattle.hsm_types.specs.declared.dm.DmReply.TheVariants as reply
use Rattle.hsm_types.specs.declared.keys.Sid.{Sid}
use Rattle.hsm_types.specs.declared.keys.Token.{Token}
use Rattle.daemon_session.specs.declared.events.Event.{Event}
use Rattle.daemon_session.specs.declared.events.Kept.{Kept}
use Rattle.daemon_session.specs.Seats.{Seat, IsSeated, Refuses}
use Rattle.recall_daemon.specs.Known.{Known, Hand, nothing_known, away_in, TellsNothing}
use Rattle.recall_daemon.specs.Machine.{Machine, StepsOn}
use Rattle.recall_daemon.specs.declared.away.Away.{Away}

-- ---- the acts that are left

-- the events that it keeps and has not put off
abbrev pub waiting : List Kept → List Kept
waiting kept = filter (λ (k : Kept). not k.marked) kept

abbrev pub number_of : Option (List Away) → ℕ
number_of (Some away) = length away
number_of None = 0

-- how many segments of the file in hand are known to be away
abbrev pub still_away : Option Hand → ℕ
still_away (Some hand) = number_of hand.away
still_away None = 0

-- An event takes the right, the size, the segments, a fetch and a restore for each that is away, and the response.
abbrev pub acts_of_one : ℕ → ℕ
acts_of_one most = 4 + 2 * most

-- how many of them are made, with this one
abbrev pub acts_made : ℕ → Option Hand → Act → ℕ
acts_made most hand (Dm sid (RequestRight t h right)) = 1
acts_made most hand (Dm sid (GetFileAttr t h)) = 2
acts_made most hand (Dm sid (GetAllocInfo t h)) = 3
acts_made most hand (Fetch entry) = 4 + 2 * (most - still_away hand)
acts_made most hand (Dm sid (Restore t h j bytes)) = 5 + 2 * (most - still_away hand)
acts_made most hand (Dm sid (Respond t response)) = acts_of_one most
acts_made most hand act = 0

-- how many it makes at most, behind the one that it asked, before it asks for events
abbrev pub acts_left : ℕ → Machine → ℕ
acts_left most m = length (waiting m.known.seat.kept) * acts_of_one most - acts_made most m.known.hand m.asked

-- ---- where it is at work

abbrev pub IsWaiting : Token → List Kept → Type 0
IsWaiting t kept = (e : Event) × Contains kept (record { event = e; marked = false }) × (e.token ≡ t)

-- the event in hand, before the segments of its file are known
pub record IsBegun (k : Known) (t : Token) : Type 0 where
  pub hand : Hand
  pub is : k.hand ≡ Some hand
  pub token : hand.token ≡ t
  pub away : hand.away ≡ None

-- the event in hand, while that segment is brought back
pub record IsBringing (most : ℕ) (k : Known) (t : Token) (a : Away) : Type 0 where
  pub hand : Hand
  pub away : List Away
  pub is : k.hand ≡ Some hand
  pub token : hand.token ≡ t
  pub told : hand.away ≡ Some away
  pub few : length away ≤ most
  pub one : Contains away a

-- The act is on an event that waits, the one in hand; or there is none in hand.
abbrev pub IsOnEvent : ℕ → Known → Act → Type 0
IsOnEvent most k (Dm sid (RequestRight t h right)) = IsWaiting t k.seat.kept × IsBegun k t
IsOnEvent most k (Dm sid (GetFileAttr t h)) = IsWaiting t k.seat.kept × IsBegun k t
IsOnEvent most k (Dm sid (GetAllocInfo t h)) = IsWaiting t k.seat.kept × IsBegun k t
IsOnEvent most k (Fetch entry) = (t : Token) × (a : Away) × IsWaiting t k.seat.kept × IsBringing most k t a
IsOnEvent most k (Dm sid (Restore t h j bytes)) = (a : Away) × (a.segment ≡ j) × IsWaiting t k.seat.kept × IsBringing most k t a
IsOnEvent most k (Dm sid (Respond t response)) = IsWaiting t k.seat.kept × (k.hand ≡ None)
IsOnEvent most k (Dm sid (GetEvents max room)) = k.hand ≡ None
IsOnEvent most k Idle = k.hand ≡ None
IsOnEvent most k act = ⊥

-- it has a session, and asks after no others
pub record IsSettled (s : Seat) : Type 0 where
  pub sid : Sid
  pub seated : IsSeated s sid
  pub others : s.others ≡ None
  pub found : s.found ≡ None

pub record IsAtWork (most : ℕ) (m : Machine) : Type 0 where
  pub settled : IsSettled m.known.seat
  pub on_event : IsOnEvent most m.known m.asked

-- it made no session, and has no event in hand
pub record IsOutside (k : Known) : Type 0 where
  pub hand : k.hand ≡ None
  pub sid : k.seat.sid ≡ None

-- it made a session, which isn't ready, and has no event in hand
pub record IsComing (k : Known) : Type 0 where
  pub hand : k.hand ≡ None
  pub others : k.seat.others ≡ None
  pub found : k.seat.found ≡ None
  pub unseated : (sid : Sid) → IsSeated k.seat sid → ⊥

abbrev pub IsOnWay : Known → Act → Type 0
IsOnWay k (Dm sid GetAllSessions) = IsOutside k
IsOnWay k (Dm sid (QuerySession target)) = IsOutside k
IsOnWay k (Dm sid (CreateSession old info)) = k ≡ nothing_known
IsOnWay k (Dm sid (SetDisp kinds)) = IsComing k
IsOnWay k (Dm sid GetAllTokens) = IsComing k
IsOnWay k (Dm sid (FindEventMsg t room)) = IsComing k
IsOnWay k Idle = IsOutside k
IsOnWay k act = ⊥

-- as it is from its start on
abbrev pub IsSound : ℕ → Machine → Type 0
IsSound most m = IsAtWork most m ⊎ IsOnWay m.known m.asked

-- ---- a round

-- it tells of few segments that are away
abbrev pub TellsOfFew : ℕ → Heard → Type 0
TellsOfFew most (heard.Dm (reply.Alloc segments)) = length (away_in segments) ≤ most
TellsOfFew most told = Unit {0}

-- What it hears of the act moves it on: its session lives, of a fetch it hears what came of it, and it hears of no more events.
abbrev pub MovesOn : Act → Heard → Type 0
MovesOn (Dm sid (GetEvents max room)) (heard.Dm (reply.Packed bytes tokens)) = ⊥
MovesOn (Dm sid call) told = Refuses (Dm sid call) told → ⊥
MovesOn (Fetch entry) told = TellsNothing told → ⊥
MovesOn act told = Unit {0}

-- the acts that end its work on the events that it keeps
abbrev pub IsLast : Act → Type 0
IsLast (Dm sid (GetEvents max room)) = Unit {0}
IsLast Idle = Unit {0}
IsLast act = ⊥

-- It stays at work. Where it moves on, less is left, unless it asks for events or rests.
pub record Nears (most : ℕ) (old : Machine) (told : Heard) (act : Act) (new : Machine) : Type 0 where
  pub at_work : IsAtWork most new
  pub less : MovesOn old.asked told → (IsLast act → ⊥) → acts_left most new < acts_left most old

-- it gives so many acts behind each other, and moves on by each answer; by none of the acts it asks for events or rests
abbrev pub Goes : ℕ → ℕ → Machine → Type 0
Goes most zero m = Unit {0}
Goes most (suc n) m = (told : Heard) × (act : Act) × (new : Machine) × TellsOfFew most told × MovesOn m.asked told × StepsOn m told act new × (IsLast act → ⊥) × Goes most n new
