-- The states on the way to a session, and how one goes on to the next.
use Rattle.std.specs.Prelude.{◌≡◌, List, [], ◌∷◌, Option, Some, None}
use Rattle.hsm_types.specs.Limits.{buffer_bytes}
use Rattle.hsm_types.specs.declared.daemons.Act.TheVariants.{Dm}
use Rattle.hsm_types.specs.declared.dm.DmCall.TheVariants.{QuerySession, FindEventMsg}
use Rattle.hsm_types.specs.declared.keys.Sid.{Sid}
use Rattle.hsm_types.specs.declared.keys.Token.{Token}
use Rattle.hsm_types.specs.declared.daemons.Daemon.{Daemon}
use Rattle.daemon_session.specs.declared.entering.Entering.{Entering}
use Rattle.daemon_session.specs.declared.entering.Entering.TheVariants.{Querying, Making, Finding, Seated}
use Rattle.daemon_session.specs.declared.events.Kept.{Kept}
use Rattle.daemon_session.specs.declared.members.Step.{Step}
use Rattle.daemon_session.specs.declared.members.Step.TheVariants as step
use Rattle.daemon_session.specs.Members.{Membership, seat_in, asked_in}
use Rattle.daemon_session.specs.Seats.{first_id}

abbrev pub member_in : Daemon → Entering → List Kept → Membership
member_in d entering kept = record { daemon = d; seat = seat_in entering kept; asked = asked_in d entering }

-- it asks after that session, and after those of the list next
abbrev pub IsQuerying : Sid → List Sid → Membership → Type 0
IsQuerying target rest m = m ≡ member_in m.daemon (Querying target rest 0) m.seat.kept

-- it asks for the message of that token, and for those of the list next
abbrev pub IsFinding : Sid → Token → List Token → Membership → Type 0
IsFinding sid token rest m = m ≡ member_in m.daemon (Finding sid token rest 0) m.seat.kept

-- it asks after the next session, where there is one
abbrev pub QueriesNext : List Sid → Membership → Option Sid → Membership → Type 0
QueriesNext rest old (Some id) new = (more : List Sid) × (rest ≡ id ∷ more) × IsQuerying id more new × (new.daemon ≡ old.daemon) × (new.seat.kept ≡ old.seat.kept)
QueriesNext rest old None new = (rest ≡ []) × (new ≡ old)

-- it asks for the next message, where there is one, and else has the session
abbrev pub FindsNext : Sid → List Token → Membership → Step → Membership → Type 0
FindsNext sid [] old next new = (next ≡ step.Seated sid) × (new ≡ member_in old.daemon (Seated sid) old.seat.kept)
FindsNext sid (token ∷ more) old next new = (next ≡ step.Asks (Dm sid (FindEventMsg token buffer_bytes))) × (new ≡ member_in old.daemon (Finding sid token more 0) old.seat.kept)

-- it asks for a session, and keeps no events
abbrev pub Makes : Sid → Membership → Step → Membership → Type 0
Makes old_sid old next new = (next ≡ step.Asks (asked_in old.daemon (Making old_sid))) × (new ≡ member_in old.daemon (Making old_sid) [])

-- it asks after the first session, or for a new one where there is none
abbrev pub Queries : List Sid → Membership → Step → Membership → Type 0
Queries [] old next new = Makes first_id old next new
Queries (target ∷ more) old next new = (next ≡ step.Asks (Dm first_id (QuerySession target))) × (new ≡ member_in old.daemon (Querying target more 0) old.seat.kept)
