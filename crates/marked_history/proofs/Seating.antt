-- The seat of either daemon behind each of its calls.
use Rattle.std.proofs.Common.{true, refl}
use Rattle.hsm_types.specs.declared.daemons.Daemon.{Daemon}
use Rattle.hsm_types.specs.declared.daemons.Daemon.TheVariants.{Recall, Migrate}
use Rattle.hsm_types.specs.declared.dm.DmCall.{DmCall}
use Rattle.hsm_types.specs.declared.dm.DmCall.TheVariants as call
use Rattle.hsm_types.specs.declared.dm.DmReply.{DmReply}
use Rattle.hsm_types.specs.declared.dm.DmReply.TheVariants as reply
use Rattle.hsm_policy.specs.Settings.{Numbers}
use Rattle.daemon_session.specs.declared.events.Kept.{Kept}
use Rattle.daemon_session.specs.Seats.{Seat, seat_asks, seat_hears}
use Rattle.recall_daemon.proofs.Outcomes.{Keeps, seat_so}
use Rattle.migrate_daemon.specs.Known as migrate
use Rattle.marked_history.specs.Marks.{AnsweredCall}
use Rattle.marked_history.specs.Served.{Shown, with_exchange}
use Rattle.marked_history.specs.Tokens.{seat_of}

-- so it is of migration's, where it is of the seat that the answer alone leaves
pub migrate_so : (P : Seat → Type 0) (limits : Numbers) (k : migrate.Known) (c : DmCall) (a : DmReply) → Keeps P c a (seat_hears Migrate (seat_asks k.seat c) c a) → P (migrate.hears limits (migrate.asks k c) c a).seat
migrate_so P limits k call.GetSpace (reply.Space used total) keeps = keeps.is
migrate_so P limits k call.GetTable (reply.Table table) keeps = keeps.marks (λ (x : Kept). record x { marked = true }) (λ x. refl)
migrate_so P limits k (call.PunchHole t h offset len) reply.Done keeps = keeps.is
migrate_so P limits k call.GetAllSessions a keeps = keeps.is
migrate_so P limits k (call.CreateSession old info) a keeps = keeps.is
migrate_so P limits k c a keeps = keeps.is

-- and of either daemon's
pub seat_by : (P : Seat → Type 0) (limits : Numbers) (d : Daemon) (k : Shown) (x : AnsweredCall) → Keeps P x.call x.reply (seat_hears d (seat_asks (seat_of d k) x.call) x.call x.reply) → P (seat_of d (with_exchange limits d x k))
seat_by P limits Recall k x keeps = seat_so P k.recall x.call x.reply keeps
seat_by P limits Migrate k x keeps = migrate_so P limits k.migrate x.call x.reply keeps
