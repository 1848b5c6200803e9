-- The event in hand, once its segments are known.
use Rattle.std.proofs.Common.{ℕ, List, refl}
use Rattle.daemon_session.specs.declared.events.Event.{Event}
use Rattle.daemon_session.specs.declared.events.Kept.{Kept}
use Rattle.recall_daemon.specs.Known.{IsKept, IsReady, IsNeeded, Needs, NoneNeeded}
use Rattle.recall_daemon.specs.Workers.{mapped}
use Rattle.recall_daemon.specs.declared.away.Away.{Away}

pub ready : (e : Event) (size : ℕ) (away : List Away) (kept : List Kept) → IsKept e kept → NoneNeeded e size away → IsReady kept (mapped e size away)
ready e size away kept is none = record {
  event = e;
  size = size;
  away = away;
  in_hand = record { is_kept = is; token = refl; handle = refl };
  sized = refl;
  told = refl;
  none = none;
}

pub needed : (e : Event) (size : ℕ) (away : List Away) (kept : List Kept) (a : Away) → IsKept e kept → Needs e size away a → IsNeeded kept (mapped e size away) a
needed e size away kept a is needs = record {
  event = e;
  size = size;
  away = away;
  in_hand = record { is_kept = is; token = refl; handle = refl };
  sized = refl;
  told = refl;
  needs = needs;
}
