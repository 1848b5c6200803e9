-- The way to a session, as the whole of what it knows.
use Rattle.std.proofs.Common.{◌≡◌, ℕ, List, Some, None, ◌⊎◌, ⊎_elim, refl, sym, subst, ◌∙◌}
use Rattle.std.specs.Prelude.{◌++◌}
use Rattle.hsm_types.specs.Limits.{buffer_bytes}
use Rattle.hsm_types.specs.declared.daemons.Act.{Act}
use Rattle.hsm_types.specs.declared.daemons.Act.TheVariants.{Dm, Idle}
use Rattle.hsm_types.specs.declared.daemons.Heard.{Heard}
use Rattle.hsm_types.specs.declared.daemons.Heard.TheVariants as heard
use Rattle.hsm_types.specs.declared.dm.DmCall.{DmCall}
use Rattle.hsm_types.specs.declared.dm.DmCall.TheVariants.{CreateSession, GetAllSessions, QuerySession, SetDisp, GetAllTokens, FindEventMsg, GetEvents}
use Rattle.hsm_types.specs.declared.dm.DmReply.TheVariants as reply
use Rattle.hsm_types.specs.declared.keys.Sid.{Sid}
use Rattle.hsm_types.specs.declared.daemons.Daemon.{Daemon}
use Rattle.hsm_types.specs.declared.daemons.Daemon.TheVariants.{Recall}
use Rattle.daemon_session.specs.declared.events.Event.{Event}
use Rattle.daemon_session.specs.declared.members.Step.TheVariants as step
use Rattle.daemon_session.specs.Tellings.{events_in}
use Rattle.daemon_session.specs.Members.{Membership, MayStep}
use Rattle.daemon_session.specs.Members as members
use Rattle.daemon_session.specs.Seats.{Seat, seat_asks_by, seat_hears_by, Refuses}
use Rattle.recall_daemon.specs.Known.{with_hand, knows_by, asks_by, MayGive, HasAll}
use Rattle.recall_daemon.specs.Tellings.{messages_told, TellsNoSession}
use Rattle.recall_daemon.specs.Workers.{IsEntry, Waits, IsWorker, Gives, Works}
use Rattle.recall_daemon.specs.declared.away.Away.{Away}
use Rattle.recall_daemon.specs.declared.serving.Serving.{Serving}
use Rattle.recall_daemon.specs.declared.serving.Serving.TheVariants.{Outside, Entering, Resting, Asking, Requesting, Measuring, Mapping, Fetching}
use Rattle.recall_daemon.specs.declared.serving.Serving.TheVariants.{Restoring, Responding}
use Rattle.recall_daemon.specs.declared.worker.Worker.{Worker}

-- the seat is all that the answer changes
pub entered : (s : Seat) (asked : Act) (told : Heard) → IsEntry s asked → knows_by (with_hand None s) asked told ≡ with_hand None (seat_hears_by Recall s asked told)
entered s (Dm sid GetAllSessions) (heard.Dm answer) entry = refl
entered s (Dm sid GetAllSessions) told entry = refl
entered s (Dm sid (QuerySession target)) (heard.Dm answer) entry = refl
entered s (Dm sid (QuerySession target)) told entry = refl
entered s (Dm sid (CreateSession old info)) (heard.Dm answer) entry = refl
entered s (Dm sid (CreateSession old info)) told entry = refl
entered s (Dm sid (SetDisp kinds)) (heard.Dm answer) entry = refl
entered s (Dm sid (SetDisp kinds)) told entry = refl
entered s (Dm sid GetAllTokens) (heard.Dm answer) entry = refl
entered s (Dm sid GetAllTokens) told entry = refl
entered s (Dm sid (FindEventMsg t room)) (heard.Dm answer) entry = refl
entered s (Dm sid (FindEventMsg t room)) told entry = refl
entered s asked told entry = absurd entry

-- a step on the way is one that the machine may take
pub record Enters (s : Seat) (asked : Act) (told : Heard) (act : Act) : Type 0 where
  pub entry : IsEntry (seat_asks_by s act) act
  pub asks : asks_by (with_hand None s) act ≡ with_hand None (seat_asks_by s act)
  pub may : MayGive (with_hand None s) asked told act

pub enters : (s : Seat) (asked : Act) (told : Heard) (act : Act) → MayStep Recall s asked told (step.Asks act) → Enters s asked told act
enters s asked told (Dm sid GetAllSessions) may = record { entry = tt; asks = refl; may = may }
enters s asked told (Dm sid (QuerySession target)) may = record { entry = tt; asks = refl; may = may }
enters s asked told (Dm sid (CreateSession old info)) may = record { entry = refl; asks = refl; may = may }
enters s asked told (Dm sid (SetDisp kinds)) may = record { entry = tt; asks = refl; may = may }
enters s asked told (Dm sid GetAllTokens) may = record { entry = tt; asks = refl; may = may }
enters s asked told (Dm sid (FindEventMsg t room)) may = record { entry = tt; asks = refl; may = may }
enters s asked told (Dm sid call) may = absurd may.1
enters s asked told act may = absurd may

pub entry_no_events : (s : Seat) (asked : Act) (told : Heard) → IsEntry s asked → HasAll asked told → ⊥
entry_no_events s asked told entry has = rw has.1 at entry

pub goes : (old : Worker) (told : Heard) (act : Act) (new : Worker) → IsWorker old → old.serving ≡ Entering → members.Enters old.member told (step.Asks act) new.member
    → new.serving ≡ Entering → new.asked.value ≡ act → Works old told act new
goes old told act new works at enters_by serving asked =
    let w = rw at at works.waits in
    let seat = rw (works.daemon, ← w.1) at enters_by.seat in
    let may = subst (λ (a : Act). MayStep Recall (seat_hears_by Recall old.member.seat a told) a told (step.Asks act)) (sym w.1) (subst (λ (d : Daemon). MayStep d (seat_hears_by d old.member.seat old.member.asked told) old.member.asked told (step.Asks act)) works.daemon enters_by.may) in
    let step = enters (seat_hears_by Recall old.member.seat old.asked.value told) old.asked.value told act may in
    rw (at, entered old.member.seat old.asked.value told w.0) (record {
      worker = record { daemon = enters_by.daemon ∙ works.daemon; waits = rw (serving, asked, seat) (step.entry, sym enters_by.asked) };
      known = rw (serving, seat) (sym step.asks);
      asks = asked;
      may = step.may;
    })

pub seats : (old : Worker) (told : Heard) (m : Membership) (sid : Sid) (act : Act) (new : Worker) → IsWorker old → old.serving ≡ Entering → members.Enters old.member told (step.Seated sid) m
    → Gives (with_hand None m.seat) old.asked.value told act new → Works old told act new
seats old told m sid act new works at enters_by gives =
    let w = rw at at works.waits in
    let seat = rw (works.daemon, ← w.1) at enters_by.seat in
    rw (at, entered old.member.seat old.asked.value told w.0) (rw seat at gives)

-- ---- events

pub kept_more : (s : Seat) (sid : Sid) (told : Heard) (bytes : List ℕ) → messages_told told ≡ Some bytes → knows_by (with_hand None s) (Dm sid (GetEvents 0 buffer_bytes)) told ≡ with_hand None (record s { kept = s.kept ++ events_in Recall bytes })
kept_more s sid (heard.Dm (reply.Packed there tokens)) bytes is = let same : there ≡ bytes = cc in rw same refl
kept_more s sid (heard.Dm answer) bytes is = cc
kept_more s sid told bytes is = cc

pub kept_none : (s : Seat) (sid : Sid) (told : Heard) → messages_told told ≡ None → knows_by (with_hand None s) (Dm sid (GetEvents 0 buffer_bytes)) told ≡ with_hand None s
kept_none s sid (heard.Dm (reply.Packed there tokens)) is = cc
kept_none s sid (heard.Dm answer) is = refl
kept_none s sid told is = refl

pub some_more : (asked : Act) (told : Heard) (bytes : List ℕ) → messages_told told ≡ Some bytes → HasAll asked told → ⊥
some_more asked told bytes is has = let none = rw has.2 at is in cc

-- ---- what the machine shows

pub rests_on : (old : Worker) (told : Heard) (sid : Sid) (act : Act) (new : Worker) → IsWorker old → old.serving ≡ Resting sid → Gives (with_hand None old.member.seat) Idle told act new → Works old told act new
rests_on old told sid act new works at gives = let w = rw at at works.waits in rw (w.1, at) gives

pub idle_no_events : (told : Heard) → HasAll Idle told → ⊥
idle_no_events told has = let e = has.1 in cc

-- ---- where it begins anew

-- it waits for no answer to a call
abbrev pub IsQuiet : Serving → Type 0
IsQuiet serving = (serving ≡ Outside) ⊎ (((sid : Sid) × (serving ≡ Resting sid)) ⊎ ((sid : Sid) × (e : Event) × (size : ℕ) × (a : Away) × (serving ≡ Fetching sid e size a)))

pub quiet : (w : Worker) (told : Heard) → IsWorker w → IsQuiet w.serving → Refuses w.asked.value told → ⊥
quiet w told works is refuses =
    ⊎_elim (λ (at : w.serving ≡ Outside). let waits = rw at at works.waits in rw waits.1 at refuses)
    (λ (later : ((sid : Sid) × (w.serving ≡ Resting sid)) ⊎ ((sid : Sid) × (e : Event) × (size : ℕ) × (a : Away) × (w.serving ≡ Fetching sid e size a))).
    ⊎_elim (λ (at : (sid : Sid) × (w.serving ≡ Resting sid)). let waits = rw at.1 at works.waits in rw waits.1 at refuses)
    (λ (at : (sid : Sid) × (e : Event) × (size : ℕ) × (a : Away) × (w.serving ≡ Fetching sid e size a)). let waits = rw at.4 at works.waits in rw waits.2 at refuses) later) is

-- it waits for the answer to a call
abbrev pub SaysGone : Act → Heard → Type 0
SaysGone asked told = (Refuses asked told → TellsNoSession told) × (TellsNoSession told → Refuses asked told)

of_call : (sid : Sid) (call : DmCall) (asked : Act) (told : Heard) → asked ≡ Dm sid call → SaysGone asked told
of_call sid call asked told is = (λ refuses. rw is at refuses, λ gone. rw is gone)

of_entry : (s : Seat) (asked : Act) (told : Heard) → IsEntry s asked → SaysGone asked told
of_entry s (Dm sid call) told entry = (λ refuses. refuses, λ gone. gone)
of_entry s asked told entry = absurd entry

pub says_gone : (serving : Serving) (m : Membership) (away : List Away) (asked : Act) (told : Heard) → Waits serving m away asked
    → (serving ≡ Outside → ⊥) → ((sid : Sid) → serving ≡ Resting sid → ⊥) → ((sid : Sid) (e : Event) (size : ℕ) (a : Away) → serving ≡ Fetching sid e size a → ⊥) → SaysGone asked told
says_gone Outside m away asked told waits outside resting fetching = absurd (outside refl)
says_gone Entering m away asked told waits outside resting fetching = of_entry m.seat asked told waits.0
says_gone (Resting sid) m away asked told waits outside resting fetching = absurd (resting sid refl)
says_gone (Asking sid) m away asked told waits outside resting fetching = of_call _ _ asked told waits.2
says_gone (Requesting sid e) m away asked told waits outside resting fetching = of_call _ _ asked told waits.1
says_gone (Measuring sid e) m away asked told waits outside resting fetching = of_call _ _ asked told waits.1
says_gone (Mapping sid e size) m away asked told waits outside resting fetching = of_call _ _ asked told waits.1
says_gone (Fetching sid e size a) m away asked told waits outside resting fetching = absurd (fetching sid e size a refl)
says_gone (Restoring sid e size a) m away asked told waits outside resting fetching = of_call _ _ asked told waits.1.1
says_gone (Responding sid e) m away asked told waits outside resting fetching = of_call _ _ asked told waits.1.1
