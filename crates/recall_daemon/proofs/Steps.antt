-- Steps from one call on an event to the next.
use Rattle.std.proofs.Common.{◌≡◌, ℕ, List, Some, None, Ok, Err, Result, refl, true, inl, subst}
use Rattle.hsm_types.specs.declared.daemons.Act.{Act}
use Rattle.hsm_types.specs.declared.daemons.Act.TheVariants.{Dm, Fetch}
use Rattle.hsm_types.specs.declared.daemons.Heard.{Heard}
use Rattle.hsm_types.specs.declared.daemons.Heard.TheVariants as heard
use Rattle.hsm_types.specs.declared.dm.DmCall.{DmCall}
use Rattle.hsm_types.specs.declared.dm.DmCall.TheVariants.{GetEvents, GetFileAttr, GetAllocInfo, Restore}
use Rattle.hsm_types.specs.declared.dm.Response.{Response}
use Rattle.hsm_types.specs.declared.dm.Response.TheVariants.{Abort, Media}
use Rattle.hsm_types.specs.declared.keys.Sid.{Sid}
use Rattle.hsm_types.specs.declared.media.FetchRefusal.{FetchRefusal}
use Rattle.hsm_types.specs.declared.media.FetchRefusal.TheVariants as fetching
use Rattle.daemon_session.specs.declared.events.Event.{Event}
use Rattle.daemon_session.specs.declared.events.Kept.{Kept}
use Rattle.recall_daemon.specs.declared.away.Away.{Away}
use Rattle.recall_daemon.specs.declared.serving.Serving.TheVariants.{Requesting, Measuring, Mapping, Fetching, Restoring}
use Rattle.recall_daemon.specs.declared.worker.Worker.{Worker}
use Rattle.recall_daemon.specs.Known.{Hand, HasAll, TellsNothing, IsNeeded, IsReason}
use Rattle.recall_daemon.specs.Tellings.{tells_done, size_told, fetched_told, response_to}
use Rattle.recall_daemon.specs.Workers.{known_of, IsWorker, Works}
use Rattle.recall_daemon.proofs.Folds.{is_done, measured_done}
use Rattle.recall_daemon.proofs.Ready.{needed}

-- it waits for that now, with the same events
pub record Turns (old : Worker) (act : Act) (new : Worker) : Type 0 where
  pub asked : new.asked.value ≡ act
  pub member : new.member ≡ old.member
  pub away : new.away ≡ old.away

pub measures : (old : Worker) (told : Heard) (act : Act) (new : Worker) (sid : Sid) (e : Event) → IsWorker old → old.serving ≡ Requesting sid e → tells_done told ≡ true
    → act ≡ Dm sid (GetFileAttr e.token e.handle) → Turns old act new → new.serving ≡ Measuring sid e → Works old told act new
measures old told act new sid e works at done is turns serving =
    let w = rw at at works.waits in
    record {
      worker = record { daemon = rw turns.member works.daemon; waits = rw (serving, turns.member, turns.asked, is) (w.0, refl) };
      known = rw (serving, turns.member, is, w.1, is_done told done, at) refl;
      asks = turns.asked;
      may = rw (is, w.1, is_done told done, at) (w.0.seated, (refl, refl), (_, (refl, refl, refl)));
    }

pub maps : (old : Worker) (told : Heard) (act : Act) (new : Worker) (sid : Sid) (e : Event) (size : ℕ) → IsWorker old → old.serving ≡ Measuring sid e → size_told told ≡ Some size
    → act ≡ Dm sid (GetAllocInfo e.token e.handle) → Turns old act new → new.serving ≡ Mapping sid e size → Works old told act new
maps old told act new sid e size works at told_size is turns serving =
    let w = rw at at works.waits in
    record {
      worker = record { daemon = rw turns.member works.daemon; waits = rw (serving, turns.member, turns.asked, is) (w.0, refl) };
      known = rw (serving, turns.member, is, w.1, measured_done (known_of old) sid e.token e.handle told size told_size, at) refl;
      asks = turns.asked;
      may = rw (is, w.1, measured_done (known_of old) sid e.token e.handle told size told_size, at) (w.0.seated, refl, (_, (refl, refl, refl), refl));
    }

pub restores : (old : Worker) (told : Heard) (act : Act) (new : Worker) (sid : Sid) (e : Event) (size : ℕ) (a : Away) (bytes : List ℕ) → IsWorker old → old.serving ≡ Fetching sid e size a
    → told ≡ heard.Fetched (Ok bytes) → act ≡ Dm sid (Restore e.token e.handle a.segment bytes) → Turns old act new → new.serving ≡ Restoring sid e size a → Works old told act new
restores old told act new sid e size a bytes works at hears is turns serving =
    let w = rw at at works.waits in
    record {
      worker = record { daemon = rw turns.member works.daemon; waits = rw (serving, turns.member, turns.asked, is) (w.0, (bytes, refl)) };
      known = rw (serving, turns.member, turns.away, is, w.2, at) refl;
      asks = turns.asked;
      may = rw (is, w.2, hears, at) (w.0.seated, (_, a, (refl, refl, refl), needed e size old.away.items old.member.seat.kept a w.0.is_kept w.1, refl, refl, refl));
    }

-- the answer to another call tells nothing of events
abbrev pub IsOther : DmCall → Type 0
IsOther (GetEvents most room) = ⊥
IsOther call = Unit {0}

pub no_events : (sid : Sid) (call : DmCall) (told : Heard) → IsOther call → HasAll (Dm sid call) told → ⊥
no_events sid (GetEvents most room) told other has = other
no_events sid call told other has = let e = has.1 in cc

pub none_tells_nothing : (told : Heard) → fetched_told told ≡ None → TellsNothing told
none_tells_nothing (heard.Fetched fetched) is = cc
none_tells_nothing told is = tt

pub is_fetched : (told : Heard) (fetched : Result (List ℕ) FetchRefusal) → fetched_told told ≡ Some fetched → told ≡ heard.Fetched fetched
is_fetched (heard.Fetched there) fetched is = cc
is_fetched told fetched is = cc

pub want_tells_nothing : (told : Heard) (w : FetchRefusal) → told ≡ heard.Fetched (Err w) → response_to w ≡ None → TellsNothing told
want_tells_nothing told fetching.Memory is none = rw is tt
want_tells_nothing told (fetching.Media cause) is none = cc
want_tells_nothing told (fetching.NoObject volume object) is none = cc

pub reasons : (kept : List Kept) (hand : Hand) (a : Away) (asked : Act) (told : Heard) (w : FetchRefusal) (response : Response)
    → response_to w ≡ Some response → asked ≡ Fetch a.entry → told ≡ heard.Fetched (Err w) → IsNeeded kept hand a → IsReason kept hand asked told response
reasons kept hand a asked told fetching.Memory response to is hears needs = cc
reasons kept hand a asked told (fetching.Media cause) response to is hears needs = let same : Media cause ≡ response = cc in subst (λ r. IsReason kept hand asked told r) same (a, is, hears, needs)
reasons kept hand a asked told (fetching.NoObject volume object) response to is hears needs = let same : Abort 2 ≡ response = cc in subst (λ r. IsReason kept hand asked told r) same (inl (refl, (volume, object, (a, is, hears, needs))))
