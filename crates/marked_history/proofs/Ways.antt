-- What a daemon knows on its way to a session, by the answers that it was told.
use Rattle.std.proofs.Common.{◌≡◌, ℕ, Bool, true, false, List, drop, Option, None, Some, refl}
use Rattle.std.specs.Prelude.{if◌then◌else◌}
use Rattle.std.specs.Option.{option_map}
use Rattle.std.specs.Str.{bytes_eq}
use Rattle.hsm_types.specs.Daemons.{information}
use Rattle.hsm_types.specs.declared.daemons.Daemon.{Daemon}
use Rattle.hsm_types.specs.declared.dm.DmCall.{DmCall}
use Rattle.hsm_types.specs.declared.dm.DmCall.TheVariants as call
use Rattle.hsm_types.specs.declared.dm.DmRefusal.TheVariants as why
use Rattle.hsm_types.specs.declared.dm.DmReply.{DmReply}
use Rattle.hsm_types.specs.declared.dm.DmReply.TheVariants as reply
use Rattle.hsm_types.specs.declared.keys.Sid.{Sid}
use Rattle.daemon_session.specs.Seats.{Seat, seat_asks, seat_hears, told_info}

-- ---- what a daemon knows of the sessions of others

pub record Way : Type 0 where
  pub others : Option (List Sid)
  pub found : Option Sid

abbrev pub way_of : Seat → Way
way_of seat = record { others = seat.others; found = seat.found }

abbrev pub no_way : Way
no_way = record { others = None; found = None }

abbrev pub way_told : Bool → Sid → Way → Way
way_told own target w = if own then record w { found = Some target } else record w { others = option_map (λ (ids : List Sid). drop 1 ids) w.others }

abbrev pub way_next : Daemon → Way → DmCall → DmReply → Way
way_next d w call.GetAllSessions (reply.Sids ids) = record { others = Some ids; found = None }
way_next d w call.GetAllSessions a = no_way
way_next d w (call.CreateSession old info) a = no_way
way_next d w (call.QuerySession target) (reply.Info info) = way_told (bytes_eq info (information d)) target w
way_next d w c a = w

module _ (d : Daemon) (seat : Seat) where
  abbrev SeatNext : DmCall → DmReply → Type 0
  SeatNext c a = way_of (seat_hears d (seat_asks seat c) c a) ≡ way_next d (way_of seat) c a

  info_next : (target : Sid) (info : List ℕ) → way_of (told_info d target info seat) ≡ way_told (bytes_eq info (information d)) target (way_of seat)
  info_next target info = elim (bytes_eq info (information d)) as (λ (b : Bool). way_of (if b then record seat { found = Some target } else record seat { others = option_map (λ (ids : List Sid). drop 1 ids) seat.others }) ≡ way_told b target (way_of seat)) [ true ↦ refl | false ↦ refl ]

  all_next : (a : DmReply) → SeatNext call.GetAllSessions a
  all_next (reply.Sids ids) = refl
  all_next a = refl

  created_next : (old : Sid) (info : List ℕ) (a : DmReply) → SeatNext (call.CreateSession old info) a
  created_next old info (reply.Session sid) = refl
  created_next old info a = refl

  queried_next : (target : Sid) (a : DmReply) → SeatNext (call.QuerySession target) a
  queried_next target (reply.Info info) = info_next target info
  queried_next target a = refl

  pub seat_next : (c : DmCall) (a : DmReply) → SeatNext c a
  seat_next call.GetAllSessions a = all_next a
  seat_next (call.CreateSession old info) a = created_next old info a
  seat_next (call.QuerySession target) a = queried_next target a
  seat_next (call.SetDisp kinds) reply.Done = refl
  seat_next call.GetAllTokens (reply.Tokens tokens) = refl
  seat_next (call.FindEventMsg t room) (reply.Packed bytes tokens) = refl
  seat_next (call.FindEventMsg t room) (reply.Refused why.NoToken) = refl
  seat_next (call.FindEventMsg t room) (reply.Refused (why.NotYours owner)) = refl
  seat_next (call.GetEvents most room) (reply.Packed bytes tokens) = refl
  seat_next (call.Respond t response) reply.Done = refl
  seat_next (call.Respond t response) (reply.Refused why.NoToken) = refl
  seat_next (call.Respond t response) (reply.Refused (why.NotYours owner)) = refl
  seat_next c a = refl
