-- Entries before a turn are of it too.
use Rattle.std.proofs.Common.{◌∙◌, ◌++◌, ◌∷◌, [], Bool, List, Option, Some, None, IfSome, inl, inr, sym, ap, append_assoc}
use Rattle.std.proofs.lemmas.List.Elements.{Contains-append_right}
use Rattle.hsm_types.specs.Rights.{Rights}
use Rattle.hsm_types.specs.declared.daemons.Daemon.{Daemon}
use Rattle.hsm_types.specs.declared.daemons.Daemon.TheVariants.{Recall, Migrate}
use Rattle.plain_model.specs.declared.entries.Entry.{Entry}
use Rattle.daemon_session.specs.Seats.{Seat}
use Rattle.daemon_session.specs.declared.events.Kept.{Kept}
use Rattle.hsm_core.specs.Store.{state_of}
use Rattle.hsm_policy.specs.Settings.{Numbers}
use Rattle.hsm_system.specs.Running.{Recalling, Migrating}
use Rattle.hsm_replay.specs.Settled.{IsTurn, NoneDue, RecallEndedTurn, MigrateEndedTurn, IsTurnOf, IsStillRefused, AreStillRefused}
use Rattle.hsm_replay.specs.Systems.{Run}
use Rattle.hsm_replay.specs.Turns.{IsOver, LeavesHeldUp}
use Rattle.marked_history.proofs.Lists.{all_weaker}
use Rattle.marked_history.proofs.QuietEvents.{all_quiet_append}

module _ (first entries : List Entry) where
  turn_longer : (seat : Seat) → IsTurn seat entries → IsTurn seat (first ++ entries)
  turn_longer seat turn = (first ++ turn.0, turn.1, ap (λ (x : List Entry). first ++ x) turn.2 ∙ sym (append_assoc first turn.0 (turn.1 ∷ [])), turn.3)

  due_longer : (limits : Numbers) (fresh : Bool) → NoneDue limits entries fresh → NoneDue limits (first ++ entries) fresh
  due_longer limits fresh (inl used) = inl used
  due_longer limits fresh (inr told) = inr (told.0, (told.1.0, Contains-append_right first entries _ told.1.1), told.2)

  held_up_longer : (rights : Rights) (seat : Seat) → AreStillRefused entries rights seat → AreStillRefused (first ++ entries) rights seat
  held_up_longer rights seat = all_weaker (λ (k : Kept). IsStillRefused entries rights seat k.event.token) (λ (k : Kept). IsStillRefused (first ++ entries) rights seat k.event.token) seat.kept
      (λ k up. record { sid = up.sid; handle = up.handle; holder = up.holder; session = up.session; told = up.told; refused = Contains-append_right first entries _ up.refused; holds = up.holds })

  module _ {D M : Type 0} where
    turn_of_longer : (daemon : Daemon) (s : Run D M) → IsTurnOf daemon s entries → IsTurnOf daemon s (first ++ entries)
    turn_of_longer Recall s is = longer s.system.recall is
      where
        longer : (o : Option Recalling) → IfSome o (λ (r : Recalling). RecallEndedTurn entries r.machine) → IfSome o (λ (r : Recalling). RecallEndedTurn (first ++ entries) r.machine)
        longer None rests = tt
        longer (Some r) rests = record { rests = rests.rests; turn = turn_longer r.machine.known.seat rests.turn }
    turn_of_longer Migrate s is = longer s.system.migrate is
      where
        longer : (o : Option Migrating) → IfSome o (λ (m : Migrating). MigrateEndedTurn s.system.limits entries m.machine) → IfSome o (λ (m : Migrating). MigrateEndedTurn s.system.limits (first ++ entries) m.machine)
        longer None rests = tt
        longer (Some m) rests = record { rests = rests.rests; turn = turn_longer m.machine.known.seat rests.turn; none = rests.none; none_due = λ sid seated. due_longer s.system.limits m.machine.known.fresh (rests.none_due sid seated) }

    leaves_longer : (daemon : Daemon) (s : Run D M) → LeavesHeldUp daemon entries s → LeavesHeldUp daemon (first ++ entries) s
    leaves_longer Recall s is = longer s.system.recall is
      where
        longer : (o : Option Recalling) → IfSome o (λ (r : Recalling). AreStillRefused entries (state_of s.system.store).rights r.machine.known.seat) → IfSome o (λ (r : Recalling). AreStillRefused (first ++ entries) (state_of s.system.store).rights r.machine.known.seat)
        longer None up = tt
        longer (Some r) up = held_up_longer (state_of s.system.store).rights r.machine.known.seat up
    leaves_longer Migrate s is = tt

    pub over_longer : (daemon : Daemon) (s : Run D M) → IsOver daemon entries s → IsOver daemon (first ++ entries) s
    over_longer daemon s over = record {
      turn = turn_of_longer daemon s over.turn;
      held_up = λ quiet. leaves_longer daemon s (over.held_up (all_quiet_append first entries quiet).1);
    }
