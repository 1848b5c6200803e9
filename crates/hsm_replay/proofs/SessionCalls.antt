-- Which calls a daemon makes on its way to a session, and at its start.
use Rattle.std.proofs.Common.{◌≡◌, ⊎_elim, List, [], ◌∷◌, Some, None, refl}
use Rattle.hsm_types.specs.declared.daemons.Act.{Act}
use Rattle.hsm_types.specs.declared.daemons.Act.TheVariants.{Dm}
use Rattle.hsm_types.specs.declared.daemons.Daemon.{Daemon}
use Rattle.hsm_types.specs.declared.daemons.Heard.{Heard}
use Rattle.hsm_types.specs.declared.dm.DmCall.{DmCall}
use Rattle.hsm_types.specs.declared.dm.DmCall.TheVariants.{CreateSession, GetAllSessions, QuerySession, SetDisp, GetAllTokens, FindEventMsg}
use Rattle.hsm_types.specs.declared.keys.Sid.{Sid}
use Rattle.daemon_session.specs.Seats.{Seat, no_seat, first_id, IsSeated, MayMake, MayEnter}
use Rattle.marked_history.specs.Served.{MayCome}

-- no call of a session
abbrev pub IsNoCall : Act → Type 0
IsNoCall (Dm sid call) = ⊥
IsNoCall act = Unit {0}

pub may_come : (d : Daemon) (s : Seat) (asked : Act) (told : Heard) (sid : Sid) (call : DmCall) → MayEnter d s asked told sid call → MayCome d s sid call
may_come d s asked told sid GetAllSessions may = may.0
may_come d s asked told sid call may = may.1

-- ---- at its start

no_sid : (s : Seat) (sid : Sid) → s ≡ no_seat → s.sid ≡ Some sid → ⊥
no_sid s sid none is = let both = rw none at is in cc

pub unseated : (s : Seat) (sid : Sid) → s ≡ no_seat → IsSeated s sid → ⊥
unseated s sid none seated = no_sid s sid none seated.session

no_others : (s : Seat) (ids : List Sid) → s ≡ no_seat → s.others ≡ Some ids → ⊥
no_others s ids none is = let both = rw none at is in cc

no_make : (s : Seat) (old : Sid) → s ≡ no_seat → MayMake s old → ⊥
no_make s old none makes = ⊎_elim
    (λ (beside : (old.0 ≡ 0) × (s.others ≡ Some []) × (s.found ≡ None)). no_others s [] none beside.1)
    (λ (found : s.found ≡ Some old). let both = rw none at found in cc) makes

abbrev pub IsBegin : Sid → DmCall → Type 0
IsBegin sid call = (call ≡ GetAllSessions) × (sid ≡ first_id)

-- it asks for the sessions
pub only_begins : (d : Daemon) (s : Seat) (asked : Act) (told : Heard) (sid : Sid) (call : DmCall) → s ≡ no_seat → MayEnter d s asked told sid call → IsBegin sid call
only_begins d s asked told sid GetAllSessions none may = (refl, may.0)
only_begins d s asked told sid (QuerySession target) none may = let rest = may.1.2 in absurd (no_others s (target ∷ rest.0) none rest.1)
only_begins d s asked told sid (CreateSession old info) none may = absurd (no_make s old none may.1.2)
only_begins d s asked told sid (SetDisp kinds) none may = absurd (no_sid s sid none may.1.0)
only_begins d s asked told sid GetAllTokens none may = absurd (no_sid s sid none may.1.0)
only_begins d s asked told sid (FindEventMsg t room) none may = absurd (no_sid s sid none may.1.0)
only_begins d s asked told sid call none may = absurd may.1
