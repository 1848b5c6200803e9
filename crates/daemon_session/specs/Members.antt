-- A daemon on its way to a session, as contracts see it.
use Rattle.std.specs.Prelude.{◌≡◌, ℕ, List, [], ◌∷◌, drop, Bool, true, false, Option, Some, None, if◌then◌else◌}
use Rattle.hsm_types.specs.Limits.{buffer_bytes}
use Rattle.hsm_types.specs.declared.daemons.Act.{Act}
use Rattle.hsm_types.specs.declared.daemons.Act.TheVariants.{Dm, Idle}
use Rattle.hsm_types.specs.declared.daemons.Heard.{Heard}
use Rattle.hsm_types.specs.declared.daemons.Heard.TheVariants as heard
use Rattle.hsm_types.specs.declared.dm.DmCall.TheVariants.{CreateSession, GetAllSessions, QuerySession, SetDisp, GetAllTokens, FindEventMsg}
use Rattle.hsm_types.specs.declared.dm.DmReply.TheVariants as reply
use Rattle.hsm_types.specs.declared.dm.DmRefusal.TheVariants.{TooMany}
use Rattle.hsm_types.specs.declared.keys.Sid.{Sid}
use Rattle.hsm_types.specs.declared.keys.Token.{Token}
use Rattle.hsm_types.specs.declared.daemons.Daemon.{Daemon}
use Rattle.daemon_session.specs.declared.entering.Entering.{Entering}
use Rattle.daemon_session.specs.declared.entering.Entering.TheVariants.{Outside, Listing, Querying, Making, Setting, Recollecting, Finding, Seated}
use Rattle.daemon_session.specs.declared.events.Kept.{Kept}
use Rattle.daemon_session.specs.declared.members.Step.{Step}
use Rattle.daemon_session.specs.declared.members.Step.TheVariants as step
use Rattle.hsm_types.specs.Daemons.{information, kinds_of}
use Rattle.daemon_session.specs.Seats.{Seat, no_seat, first_id, IsSeated, MayEnter, seat_asks_by, seat_hears_by}

-- what it knows, and the act whose answer it waits for on its way: Idle where it waits for none
pub record Membership : Type 0 where
  pub daemon : Daemon
  pub seat : Seat
  pub asked : Act

-- it has no session and waits for nothing
abbrev pub outside : Daemon → Membership
outside d = record { daemon = d; seat = no_seat; asked = Idle }

-- it begins as at its start
abbrev pub begun : Daemon → Membership
begun d = record { daemon = d; seat = no_seat; asked = Dm first_id GetAllSessions }

abbrev pub with_kept : List Kept → Membership → Membership
with_kept kept m = record m { seat = record (m.seat) { kept = kept } }

abbrev pub sid_in : Entering → Option Sid
sid_in (Setting sid assumed) = Some sid
sid_in (Recollecting sid) = Some sid
sid_in (Finding sid token tokens at) = Some sid
sid_in (Seated sid) = Some sid
sid_in entering = None

abbrev pub others_in : Entering → Option (List Sid)
others_in (Querying target ids at) = Some (target ∷ drop at ids)
others_in entering = None

abbrev pub is_set_in : Entering → Bool
is_set_in (Recollecting sid) = true
is_set_in (Finding sid token tokens at) = true
is_set_in (Seated sid) = true
is_set_in entering = false

abbrev pub unfound_in : Entering → Option (List Token)
unfound_in (Setting sid assumed) = if assumed then None else Some []
unfound_in (Finding sid token tokens at) = Some (token ∷ drop at tokens)
unfound_in (Seated sid) = Some []
unfound_in entering = None

abbrev pub seat_in : Entering → List Kept → Seat
seat_in entering kept = record { sid = sid_in entering; others = others_in entering; found = None; set = is_set_in entering; unfound = unfound_in entering; kept = kept }

abbrev pub asked_in : Daemon → Entering → Act
asked_in d Outside = Idle
asked_in d Listing = Dm first_id GetAllSessions
asked_in d (Querying target ids at) = Dm first_id (QuerySession target)
asked_in d (Making old) = Dm first_id (CreateSession old (information d))
asked_in d (Setting sid assumed) = Dm sid (SetDisp (kinds_of d))
asked_in d (Recollecting sid) = Dm sid GetAllTokens
asked_in d (Finding sid token tokens at) = Dm sid (FindEventMsg token buffer_bytes)
asked_in d (Seated sid) = Idle

abbrev pub act_of : Step → Act
act_of (step.Asks act) = act
act_of (step.Seated sid) = Idle
act_of step.Refused = Idle

-- it was refused a session, as too many live
abbrev pub IsRefusedOne : Act → Heard → Type 0
IsRefusedOne asked told = (old : Sid) × (info : List ℕ) × (count : ℕ) × (asked ≡ Dm first_id (CreateSession old info)) × (told ≡ heard.Dm (reply.Refused (TooMany count)))

abbrev pub MayStep : Daemon → Seat → Act → Heard → Step → Type 0
MayStep d s asked told (step.Asks (Dm sid call)) = MayEnter d s asked told sid call
MayStep d s asked told (step.Asks act) = ⊥
MayStep d s asked told (step.Seated sid) = IsSeated s sid
MayStep d s asked told step.Refused = IsRefusedOne asked told

-- it has heard the answer to what it asked, and takes the next step
pub record Enters (old : Membership) (told : Heard) (next : Step) (new : Membership) : Type 0 where
  pub daemon : new.daemon ≡ old.daemon
  pub seat : new.seat ≡ seat_asks_by (seat_hears_by old.daemon old.seat old.asked told) (act_of next)
  pub asked : new.asked ≡ act_of next
  pub may : MayStep old.daemon (seat_hears_by old.daemon old.seat old.asked told) old.asked told next

-- it waits for an answer
abbrev pub IsOnWay : Act → Type 0
IsOnWay (Dm sid call) = Unit {0}
IsOnWay act = ⊥
