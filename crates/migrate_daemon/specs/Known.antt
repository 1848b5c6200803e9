-- What the migration daemon knows: a fold over its acts and the answers to them. Over the entries of a history the same fold gives the same but for the
-- space and `fresh`: a rest leaves no entry, and nor does what allows one pass more.
use Rattle.std.specs.Prelude.{Bool, true, false, not, ◌&&◌, Option, Some, None}
use Rattle.hsm_types.specs.declared.daemons.Act.{Act}
use Rattle.hsm_types.specs.declared.daemons.Act.TheVariants.{Dm, Idle}
use Rattle.hsm_types.specs.declared.daemons.Heard.{Heard}
use Rattle.hsm_types.specs.declared.daemons.Heard.TheVariants as heard
use Rattle.hsm_types.specs.declared.dm.DmCall.{DmCall}
use Rattle.hsm_types.specs.declared.dm.DmCall.TheVariants.{CreateSession, GetAllSessions, GetSpace, GetTable, PunchHole}
use Rattle.hsm_types.specs.declared.dm.DmReply.{DmReply}
use Rattle.hsm_types.specs.declared.dm.DmReply.TheVariants as reply
use Rattle.hsm_policy.specs.Settings.{Numbers}
use Rattle.hsm_types.specs.declared.daemons.Daemon.TheVariants.{Migrate}
use Rattle.daemon_session.specs.Seats.{Seat, no_seat, all_marked, seat_asks, seat_hears}
use Rattle.migrate_daemon.specs.declared.shares.Space.{Space}
use Rattle.migrate_daemon.specs.Shares.{is_above}

-- An event whose message was there before the pass began is marked.
pub record Known : Type 0 where
  pub seat : Seat
  -- by the last answer of this round
  pub space : Option Space
  -- whether a pass by `high` may still begin
  pub fresh : Bool
  -- whether the last pass has put a segment offline
  pub punched : Bool

abbrev pub nothing_known : Bool → Known
nothing_known fresh = record { seat = no_seat; space = None; fresh = fresh; punched = false }

-- a pass by `high` is due
abbrev pub is_due : Numbers → Known → Bool
is_due limits k = k.fresh && is_above limits.high k.space

abbrev pub asks : Known → DmCall → Known
asks k GetAllSessions = nothing_known k.fresh
asks k (CreateSession old info) = nothing_known k.fresh
asks k call = record k { seat = seat_asks k.seat call }

-- With a table a pass begins, for each event that it keeps. Where one by `high` was due, it is this one.
abbrev pub hears : Numbers → Known → DmCall → DmReply → Known
hears limits k GetSpace (reply.Space used total) = record k { space = Some (record { used = used; total = total }) }
hears limits k GetTable (reply.Table table) = record { seat = record (k.seat) { kept = all_marked true k.seat.kept }; space = None; fresh = k.fresh && not (is_due limits k); punched = false }
hears limits k (PunchHole t h offset len) reply.Done = record k { punched = true }
hears limits k call answer = record k { seat = seat_hears Migrate k.seat call answer }

abbrev pub knows_by : Numbers → Known → Act → Heard → Known
knows_by limits k (Dm sid call) (heard.Dm answer) = hears limits k call answer
knows_by limits k act told = k

-- a rest begins a new round
abbrev pub asks_by : Known → Act → Known
asks_by k (Dm sid call) = asks k call
asks_by k Idle = record k { space = None }
asks_by k act = k
