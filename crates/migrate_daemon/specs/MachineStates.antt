-- What the daemon knows and goes by, and the act that it waits for on its way to a session.
use Rattle.std.specs.Prelude.{List, true, false, not, ◌&&◌, None}
use Rattle.hsm_types.specs.declared.daemons.Act.{Act}
use Rattle.hsm_types.specs.declared.daemons.Act.TheVariants.{Dm}
use Rattle.hsm_types.specs.declared.dm.DmCall.TheVariants.{GetAllSessions}
use Rattle.hsm_policy.specs.Settings.{Numbers}
use Rattle.hsm_types.specs.declared.daemons.Daemon.TheVariants.{Migrate}
use Rattle.daemon_session.specs.declared.events.Kept.{Kept}
use Rattle.daemon_session.specs.Members.{Membership}
use Rattle.daemon_session.specs.Seats.{first_id, all_marked}
use Rattle.migrate_daemon.specs.Known.{Known, nothing_known, is_due}

pub record Standing : Type 0 where
  pub limits : Numbers
  pub known : Known
  pub way : Act

abbrev pub with_known : Known → Standing → Standing
with_known known s = record s { known = known }

abbrev pub with_kept : List Kept → Standing → Standing
with_kept kept s = record s { known = record (s.known) { seat = record (s.known.seat) { kept = kept } } }

abbrev pub membership : Standing → Membership
membership s = record { daemon = Migrate; seat = s.known.seat; asked = s.way }

-- it begins as at its start
abbrev pub begun : Standing → Standing
begun s = record { limits = s.limits; known = nothing_known s.known.fresh; way = Dm first_id GetAllSessions }

-- a pass begins, for each event that it keeps
abbrev pub taking_up : Standing → Standing
taking_up s = with_known (record { seat = record (s.known.seat) { kept = all_marked true s.known.seat.kept }; space = None; fresh = s.known.fresh && not (is_due s.limits s.known); punched = false }) s

abbrev pub resting : Standing → Standing
resting s = with_known (record (s.known) { space = None }) s
