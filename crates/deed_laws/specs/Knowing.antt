-- What daemons know behind deeds: a fold over what each did and heard, which is exact along each of its lives.
use Rattle.std.specs.Prelude.{List, true, Option, None, Some}
use Rattle.std.specs.Option.{option_map, unwrap_or}
use Rattle.hsm_types.specs.declared.daemons.Daemon.{Daemon}
use Rattle.hsm_types.specs.declared.daemons.Daemon.TheVariants.{Recall, Migrate}
use Rattle.hsm_types.specs.declared.daemons.Heard.TheVariants.{Nothing}
use Rattle.hsm_policy.specs.Settings.{Numbers}
use Rattle.daemon_session.specs.Seats.{Seat, no_seat}
use Rattle.recall_daemon.specs.Known as recall
use Rattle.migrate_daemon.specs.Known as migrate
use Rattle.deeds.specs.Deeds.{Deed}
use Rattle.deeds.specs.Lives.{life}
use Rattle.deeds.specs.KnownByMoves.{Knowing, Standing, stands}

-- ---- what each knows

-- a pass is no matter of recall
abbrev pub recall_knows : Knowing recall.Known
recall_knows = record { first = recall.nothing_known; again = λ (k : recall.Known). k; hears = recall.knows_by; asks = recall.asks_by }

-- by the settings of its run
pub record Counted : Type 0 where
  pub limits : Numbers
  pub known : migrate.Known

abbrev pub migrate_knows : Numbers → Knowing Counted
migrate_knows limits = record {
  first = record { limits = limits; known = migrate.nothing_known true };
  again = λ (c : Counted). record c { known = record (c.known) { space = None; fresh = true } };
  hears = λ c asked told. record c { known = migrate.knows_by c.limits c.known asked told };
  asks = λ c act. record c { known = migrate.asks_by c.known act };
}

-- ---- behind deeds

-- with what it has heard last
abbrev pub known_now : {K : Type 0} → Knowing K → Standing K → K
known_now k s = k.hears s.known s.asked (unwrap_or s.hears Nothing)

abbrev pub recall_known : List Deed → Option recall.Known
recall_known deeds = option_map (known_now recall_knows) (stands recall_knows (life Recall deeds) None)

abbrev pub migrate_known : Numbers → List Deed → Option Counted
migrate_known limits deeds = option_map (known_now (migrate_knows limits)) (stands (migrate_knows limits) (life Migrate deeds) None)

-- ---- their seats

abbrev pub seat_or_none : Option Seat → Seat
seat_or_none None = no_seat
seat_or_none (Some seat) = seat

-- what the daemon knows of its session behind the deeds. One that doesn't run knows of none
abbrev pub seat_behind : Numbers → Daemon → List Deed → Seat
seat_behind limits Recall deeds = seat_or_none (option_map (λ (k : recall.Known). k.seat) (recall_known deeds))
seat_behind limits Migrate deeds = seat_or_none (option_map (λ (c : Counted). c.known.seat) (migrate_known limits deeds))
