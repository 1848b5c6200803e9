-- What a daemon knows of its session: a fold over its calls and the answers to them. Over the entries of a history the same fold gives the same but for
-- which of its events are marked.
use Rattle.std.specs.Prelude.{◌≡◌, ℕ, ◌⊎◌, List, [], ◌∷◌, ◌++◌, map, filter, drop, Bool, true, false, not, ◌==◌, if◌then◌else◌, Option, Some, None}
use Rattle.std.specs.Option.{option_map}
use Rattle.std.specs.Str.{bytes_eq}
use Rattle.hsm_types.specs.Limits.{buffer_bytes}
use Rattle.hsm_types.specs.declared.daemons.Act.{Act}
use Rattle.hsm_types.specs.declared.daemons.Act.TheVariants.{Dm, Idle}
use Rattle.hsm_types.specs.declared.daemons.Heard.{Heard}
use Rattle.hsm_types.specs.declared.daemons.Heard.TheVariants as heard
use Rattle.hsm_types.specs.declared.dm.DmCall.{DmCall}
use Rattle.hsm_types.specs.declared.dm.DmCall.TheVariants.{CreateSession, GetAllSessions, QuerySession, SetDisp, GetEvents, GetAllTokens, FindEventMsg, Respond}
use Rattle.hsm_types.specs.declared.dm.DmReply.{DmReply}
use Rattle.hsm_types.specs.declared.dm.DmReply.TheVariants as reply
use Rattle.hsm_types.specs.declared.dm.DmRefusal.TheVariants.{NoSession, NoToken, NotYours, TooMany}
use Rattle.hsm_types.specs.declared.keys.Sid.{Sid}
use Rattle.hsm_types.specs.declared.keys.Token.{Token}
use Rattle.hsm_types.specs.declared.daemons.Daemon.{Daemon}
use Rattle.daemon_session.specs.declared.events.Kept.{Kept}
use Rattle.hsm_types.specs.Daemons.{information, kinds_of}
use Rattle.daemon_session.specs.Tellings.{events_in}

pub record Seat : Type 0 where
  -- the session that it made or assumed last
  pub sid : Option Sid
  -- of the ids that it was told, those that it has not asked after yet, but for the one that it found
  pub others : Option (List Sid)
  -- the one that is known by its information
  pub found : Option Sid
  -- its kinds are set
  pub set : Bool
  -- of the tokens that were outstanding to a session that it assumed, those whose messages it has not found again
  pub unfound : Option (List Token)
  -- the events of its kinds that it was told of and that are not answered
  pub kept : List Kept

abbrev pub no_seat : Seat
no_seat = record { sid = None; others = None; found = None; set = false; unfound = None; kept = [] }

abbrev pub first_id : Sid
first_id = record { 0 = 0 }

-- of a session that takes no other's place no token is outstanding
abbrev pub new_seat : Sid → Sid → Seat
new_seat old sid = record { sid = Some sid; others = None; found = None; set = false; unfound = if old.0 == 0 then Some [] else None; kept = [] }

-- ---- its events

abbrev pub has_kept_token : Token → Kept → Bool
has_kept_token t k = k.event.token.0 == t.0

abbrev pub forgot : Token → List Kept → List Kept
forgot t kept = filter (λ k. not (has_kept_token t k)) kept

abbrev pub marked_at : Token → List Kept → List Kept
marked_at t kept = map (λ (k : Kept). if has_kept_token t k then record k { marked = true } else k) kept

abbrev pub all_marked : Bool → List Kept → List Kept
all_marked m kept = map (λ (k : Kept). record k { marked = m }) kept

-- ---- its calls, and what it hears

-- A daemon that asks for the sessions begins anew, and one that asks for a session has none.
abbrev pub seat_asks : Seat → DmCall → Seat
seat_asks s GetAllSessions = no_seat
seat_asks s (CreateSession old info) = no_seat
seat_asks s call = s

abbrev pub told_info : Daemon → Sid → List ℕ → Seat → Seat
told_info d target info s = if bytes_eq info (information d) then record s { found = Some target } else record s { others = option_map (λ (ids : List Sid). drop 1 ids) s.others }

abbrev pub found_one : Seat → Seat
found_one s = record s { unfound = option_map (λ (tokens : List Token). drop 1 tokens) s.unfound }

abbrev pub seat_hears : Daemon → Seat → DmCall → DmReply → Seat
seat_hears d s GetAllSessions (reply.Sids ids) = record s { others = Some ids; found = None }
seat_hears d s (QuerySession target) (reply.Info info) = told_info d target info s
seat_hears d s (CreateSession old info) (reply.Session sid) = new_seat old sid
seat_hears d s (SetDisp kinds) reply.Done = record s { set = true }
seat_hears d s GetAllTokens (reply.Tokens tokens) = record s { unfound = Some tokens }
seat_hears d s (FindEventMsg t room) (reply.Packed bytes tokens) = record (found_one s) { kept = s.kept ++ events_in d bytes }
seat_hears d s (FindEventMsg t room) (reply.Refused NoToken) = found_one s
seat_hears d s (FindEventMsg t room) (reply.Refused (NotYours owner)) = found_one s
seat_hears d s (GetEvents max room) (reply.Packed bytes tokens) = record s { kept = s.kept ++ events_in d bytes }
seat_hears d s (Respond t response) reply.Done = record s { kept = forgot t s.kept }
seat_hears d s (Respond t response) (reply.Refused NoToken) = record s { kept = forgot t s.kept }
seat_hears d s (Respond t response) (reply.Refused (NotYours owner)) = record s { kept = forgot t s.kept }
seat_hears d s call answer = s

abbrev pub seat_asks_by : Seat → Act → Seat
seat_asks_by s (Dm sid call) = seat_asks s call
seat_asks_by s act = s

abbrev pub seat_hears_by : Daemon → Seat → Act → Heard → Seat
seat_hears_by d s (Dm sid call) (heard.Dm answer) = seat_hears d s call answer
seat_hears_by d s act told = s

-- ---- which calls it makes on its way to a session

-- it has a session in which its kinds are set, and all its messages
pub record IsSeated (s : Seat) (sid : Sid) : Type 0 where
  pub session : s.sid ≡ Some sid
  pub set : s.set ≡ true
  pub found : s.unfound ≡ Some []

-- the call was refused, as its session is gone
abbrev pub Refuses : Act → Heard → Type 0
Refuses (Dm sid call) h = h ≡ heard.Dm (reply.Refused NoSession)
Refuses act h = ⊥

-- the answers that lead on from the calls that need no session
abbrev pub LeadsOn : Act → Heard → Type 0
LeadsOn (Dm sid GetAllSessions) (heard.Dm (reply.Sids ids)) = Unit {0}
LeadsOn (Dm sid (QuerySession target)) (heard.Dm (reply.Info info)) = Unit {0}
LeadsOn (Dm sid (CreateSession old info)) (heard.Dm (reply.Session made)) = Unit {0}
LeadsOn (Dm sid (CreateSession old info)) (heard.Dm (reply.Refused (TooMany count))) = Unit {0}
LeadsOn act told = ⊥

abbrev pub NeedsNone : Act → Type 0
NeedsNone (Dm sid GetAllSessions) = Unit {0}
NeedsNone (Dm sid (QuerySession target)) = Unit {0}
NeedsNone (Dm sid (CreateSession old info)) = Unit {0}
NeedsNone act = ⊥

-- It begins as at its start where it has no session and rests, where a call is refused for its session, and where it is told nothing of use of sessions.
abbrev pub MayBegin : Seat → Act → Heard → Type 0
MayBegin s asked told = ((s.sid ≡ None) × (asked ≡ Idle)) ⊎ (Refuses asked told ⊎ (NeedsNone asked × (LeadsOn asked told → ⊥)))

-- The ids are asked after in order. A session is made beside the others where each of them was told to be another's, and else in the place of the one
-- that is known by the information.
abbrev pub MayMake : Seat → Sid → Type 0
MayMake s old = ((old.0 ≡ 0) × (s.others ≡ Some []) × (s.found ≡ None)) ⊎ (s.found ≡ Some old)

-- the calls by which it goes on to a session
abbrev pub MayGoOn : Daemon → Seat → Sid → DmCall → Type 0
MayGoOn d s sid (QuerySession target) = (sid ≡ first_id) × (s.found ≡ None) × ((rest : List Sid) × (s.others ≡ Some (target ∷ rest)))
MayGoOn d s sid (CreateSession old info) = (sid ≡ first_id) × (info ≡ information d) × MayMake s old
MayGoOn d s sid (SetDisp kinds) = (s.sid ≡ Some sid) × (s.set ≡ false) × (kinds ≡ kinds_of d)
MayGoOn d s sid GetAllTokens = (s.sid ≡ Some sid) × (s.set ≡ true) × (s.unfound ≡ None)
MayGoOn d s sid (FindEventMsg t room) = (s.sid ≡ Some sid) × (s.set ≡ true) × (room ≡ buffer_bytes) × ((rest : List Token) × (s.unfound ≡ Some (t ∷ rest)))
MayGoOn d s sid call = ⊥

-- where a call is refused for its session, it begins
abbrev pub MayEnter : Daemon → Seat → Act → Heard → Sid → DmCall → Type 0
MayEnter d s asked told sid GetAllSessions = (sid ≡ first_id) × MayBegin s asked told
MayEnter d s asked told sid call = (Refuses asked told → ⊥) × MayGoOn d s sid call
