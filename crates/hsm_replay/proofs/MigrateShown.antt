-- What a history shows of the migration daemon, through each of its acts.
use Rattle.std.proofs.Common.{◌≡◌, ⊎_elim, ℕ, List, true, false, [], refl, sym, ap, ap₂, subst, inl, inr, ◌∙◌}
use Rattle.media_model.specs.declared.drive.Drive as drive
use Rattle.hsm_types.specs.declared.daemons.Act.{Act}
use Rattle.hsm_types.specs.declared.daemons.Act.TheVariants.{Dm, Copy, Fetch, Idle}
use Rattle.hsm_types.specs.declared.daemons.Daemon.TheVariants.{Migrate}
use Rattle.hsm_types.specs.declared.daemons.Heard.{Heard}
use Rattle.hsm_types.specs.declared.daemons.Heard.TheVariants as heard
use Rattle.hsm_types.specs.declared.dm.DmCall.{DmCall}
use Rattle.hsm_types.specs.declared.dm.DmCall.TheVariants.{CreateSession, GetAllSessions, GetEvents, Respond, GetSpace, GetTable, GetRegion}
use Rattle.hsm_types.specs.declared.dm.DmCall.TheVariants.{SetRegion, ReadInvis, Seal, PunchHole}
use Rattle.hsm_types.specs.declared.dm.DmReply.{DmReply}
use Rattle.hsm_types.specs.declared.dm.DmReply.TheVariants as reply
use Rattle.hsm_types.specs.declared.keys.Handle.{Handle}
use Rattle.hsm_types.specs.declared.keys.Sid.{Sid}
use Rattle.hsm_types.specs.declared.keys.Token.{Token}
use Rattle.hsm_types.specs.declared.stubs.StubEntry.{StubEntry}
use Rattle.hsm_policy.specs.Settings.{Numbers}
use Rattle.hsm_policy.specs.declared.picking.Picked.{Picked}
use Rattle.daemon_session.specs.Members.{IsRefusedOne}
use Rattle.daemon_session.specs.Seats.{Seat, no_seat, all_marked, seat_asks, seat_hears, IsSeated}
use Rattle.migrate_daemon.specs.Known.{Known, is_due, asks, hears, asks_by, knows_by}
use Rattle.migrate_daemon.specs.Machine.{Machine, StepsOn, CameBeforePass, NoneServed, WantsSpace, HasAll, answer_of, MaySeal, MayGive}
use Rattle.migrate_daemon.specs.Passes.{Pass, IsOver, copies}
use Rattle.hsm_system.specs.Running.{Migrating}
use Rattle.hsm_system.specs.declared.daemons.Next.TheVariants.{Hears}
use Rattle.hsm_replay.specs.Systems.{told_next}
use Rattle.hsm_replay.specs.Keeping.{IsShownAs, IsAtStart, MigrateKnows}
use Rattle.hsm_replay.specs.Sealed.{IsStored, HearsStored}
use Rattle.marked_history.specs.Served.{MayCome, MigrateMay}
use Rattle.hsm_replay.proofs.SessionCalls.{IsNoCall, IsBegin, may_come, unseated, only_begins}

-- ---- what is known

asks_same : (k l : Known) (call : DmCall) → IsShownAs k l → IsShownAs (asks k call) (asks l call)
asks_same k l GetAllSessions same = record { seat = refl; punched = refl }
asks_same k l (CreateSession old info) same = record { seat = refl; punched = refl }
asks_same k l call same = record { seat = ap (λ (s : Seat). seat_asks s call) same.seat; punched = same.punched }

abbrev begins_pass : Seat → Seat
begins_pass s = record s { kept = all_marked true s.kept }

pub hears_same : (limits others : Numbers) (k l : Known) (call : DmCall) (answer : DmReply) → IsShownAs k l → IsShownAs (hears limits k call answer) (hears others l call answer)
hears_same limits others k l GetSpace (reply.Space used total) same = record { seat = same.seat; punched = same.punched }
hears_same limits others k l GetTable (reply.Table table) same = record { seat = ap begins_pass same.seat; punched = refl }
hears_same limits others k l (PunchHole t h offset len) reply.Done same = record { seat = same.seat; punched = refl }
hears_same limits others k l call answer same = record { seat = ap (λ (s : Seat). seat_hears Migrate s call answer) same.seat; punched = same.punched }

-- one that asks for the sessions begins anew
begins : (k l : Known) (call : DmCall) → call ≡ GetAllSessions → IsShownAs (asks k call) (asks l call)
begins k l call is = subst (λ (c : DmCall). IsShownAs (asks k c) (asks l c)) (sym is) (record { seat = refl; punched = refl })

-- ---- which calls it may make

seated_as : (s shown : Seat) (sid : Sid) → s ≡ shown → IsSeated s sid → IsSeated shown sid
seated_as s shown sid same is = subst (λ (x : Seat). IsSeated x sid) same is

-- the session of the pass makes the call
of_pass : (s shown : Seat) (sid by : Sid) (call as_asked : DmCall) → s ≡ shown → IsSeated s by → Dm sid call ≡ Dm by as_asked → IsSeated shown sid
of_pass s shown sid by call as_asked same is asks = let one : by ≡ sid = cc in seated_as s shown sid same (subst (λ (x : Sid). IsSeated s x) one is)

come_as : (s shown : Seat) (sid : Sid) (call : DmCall) → s ≡ shown → MayCome Migrate s sid call → MayCome Migrate shown sid call
come_as s shown sid call same may = subst (λ (x : Seat). MayCome Migrate x sid call) same may

may_call : (limits : Numbers) (k l : Known) (old new : Pass) (asked : Act) (told : Heard) (sid : Sid) (call : DmCall) → IsShownAs k l → MayGive limits k old new asked told (Dm sid call) → MigrateMay l sid call
may_call limits k l old new asked told sid (GetRegion t h) same may = let is = may.2.0 in (of_pass k.seat l.seat sid new.sid _ _ same.seat may.1.seated is, cc)
may_call limits k l old new asked told sid (SetRegion t h regions) same may = let is = may.2.0 in (of_pass k.seat l.seat sid new.sid _ _ same.seat may.1.seated is, cc, cc)
may_call limits k l old new asked told sid (ReadInvis t h offset len) same may = let is = may.2.0 in (of_pass k.seat l.seat sid new.sid _ _ same.seat may.1.seated is, cc)
may_call limits k l old new asked told sid (Seal t h segment entry) same may = let is = may.2.0 in (of_pass k.seat l.seat sid new.sid _ _ same.seat may.1.seated is, cc)
may_call limits k l old new asked told sid (PunchHole t h offset len) same may = let is = may.2.0 in (of_pass k.seat l.seat sid new.sid _ _ same.seat may.1.seated is, cc)
may_call limits k l old new asked told sid GetSpace same may = seated_as k.seat l.seat sid same.seat may.0.seated
may_call limits k l old new asked told sid GetTable same may = (seated_as k.seat l.seat sid same.seat may.0.seated, subst (λ (s : Seat). NoneServed s.kept) same.seat may.0.answered)
may_call limits k l old new asked told sid (GetEvents most room) same may = (seated_as k.seat l.seat sid same.seat may.0.seated, may.1, may.2)
may_call limits k l old new asked told sid (Respond t response) same may =
    (seated_as k.seat l.seat sid same.seat may.0, subst (λ (s : Seat). CameBeforePass s.kept t) same.seat may.2, may.3 ∙ ap answer_of same.punched)
may_call limits k l old new asked told sid call same may = come_as k.seat l.seat sid call same.seat (may_come Migrate k.seat asked told sid call may)

-- ---- at its start

pub begins_at_once : (limits : Numbers) (k : Known) (old new : Pass) (asked : Act) (told : Heard) (sid : Sid) (call : DmCall) → k.seat ≡ no_seat → MayGive limits k old new asked told (Dm sid call) → IsBegin sid call
begins_at_once limits k old new asked told sid (GetRegion t h) none may = absurd (unseated k.seat new.sid none may.1.seated)
begins_at_once limits k old new asked told sid (SetRegion t h regions) none may = absurd (unseated k.seat new.sid none may.1.seated)
begins_at_once limits k old new asked told sid (ReadInvis t h offset len) none may = absurd (unseated k.seat new.sid none may.1.seated)
begins_at_once limits k old new asked told sid (Seal t h segment entry) none may = absurd (unseated k.seat new.sid none may.1.seated)
begins_at_once limits k old new asked told sid (PunchHole t h offset len) none may = absurd (unseated k.seat new.sid none may.1.seated)
begins_at_once limits k old new asked told sid GetSpace none may = absurd (unseated k.seat sid none may.0.seated)
begins_at_once limits k old new asked told sid GetTable none may = absurd (unseated k.seat sid none may.0.seated)
begins_at_once limits k old new asked told sid (GetEvents most room) none may = absurd (unseated k.seat sid none may.0.seated)
begins_at_once limits k old new asked told sid (Respond t response) none may = absurd (unseated k.seat sid none may.0)
begins_at_once limits k old new asked told sid call none may = only_begins Migrate k.seat asked told sid call none may

pub no_rest : (limits : Numbers) (k : Known) (old new : Pass) (asked : Act) (told : Heard) (act : Act) → IsNoCall act → asked ≡ Idle → k.seat ≡ no_seat → MayGive limits k old new asked told act → ⊥
no_rest limits k old new asked told (Dm sid call) no_call idle none may = absurd no_call
no_rest limits k old new asked told (Copy volume h segment bytes) no_call idle none may = unseated k.seat new.sid none may.1.seated
no_rest limits k old new asked told (Fetch entry) no_call idle none may = may
no_rest limits k old new asked told Idle no_call idle none may = ⊎_elim
    (λ (all : HasAll asked told × IsOver new × (k.seat.kept ≡ []) × (is_due limits k ≡ false) × (WantsSpace k → ⊥)). let has = all.0 in let wrong : ⊥ = rw idle at has in wrong)
    (λ (one : IsRefusedOne asked told). let is = one.3 in cc) may

pub starts : (limits : Numbers) (k : Known) (asked : Act) (told : Heard) → asked ≡ Idle → knows_by limits k asked told ≡ k
starts limits k asked told idle = subst (λ (a : Act). knows_by limits k a told ≡ k) (sym idle) refl

-- ---- an act that is no call

pub rests : (limits : Numbers) (k : Known) (act : Act) (told : Heard) → IsNoCall act → IsShownAs (knows_by limits (asks_by k act) act told) k
rests limits k (Dm sid call) told no_call = absurd no_call
rests limits k Idle told no_call = record { seat = refl; punched = refl }
rests limits k act told no_call = record { seat = refl; punched = refl }

pub as_shown : (k l shown : Known) → IsShownAs k l → IsShownAs l shown → IsShownAs k shown
as_shown k l shown first second = record { seat = first.seat ∙ second.seat; punched = first.punched ∙ second.punched }

-- ---- what it seals

sealed_as : {M : Type 0} (g : drive.Ghosts M) (drives : List M) (volumes : ℕ) (sid : Sid) (p : Picked) (entry : StubEntry) (asked : Act) (told : Heard) → HearsStored g drives asked told → MaySeal volumes sid p entry asked told → IsStored g drives entry
sealed_as g drives volumes sid p entry asked told hears (inl copied) =
    let copy = copied.0 in
    subst (λ (x : Heard). HearsStored g drives (copies p copy.0 copy.1.0) x) copied.1 (subst (λ (a : Act). HearsStored g drives a told) copy.1.1 hears)
sealed_as g drives volumes sid p entry asked told hears (inr again) = subst (λ (a : Act). HearsStored g drives a told) again.0 hears

-- ---- what the history shows

abbrev now : Migrating → Known
now m = knows_by m.machine.limits m.machine.known m.machine.asked (told_next m.next)

abbrev Starts : Migrating → Type 0
Starts m = IsAtStart m.machine.known.seat m.machine.asked (told_next m.next)

module _ (k : Known) (m : Migrating) (machine : Machine) (shows : MigrateKnows k m) where
  no_seat_yet : Starts m → (now m).seat ≡ no_seat
  no_seat_yet start = ap (λ (x : Known). x.seat) (starts m.machine.limits m.machine.known m.machine.asked (told_next m.next) start.1) ∙ start.0

  begins_only : (sid : Sid) (asked : DmCall) → Starts m → StepsOn m.machine (told_next m.next) (Dm sid asked) machine → IsBegin sid asked
  begins_only sid asked start goes = begins_at_once m.machine.limits (now m) m.machine.pass machine.pass m.machine.asked (told_next m.next) sid asked (no_seat_yet start) goes.may

  knows_now : (act : Act) (told : Heard) → StepsOn m.machine (told_next m.next) act machine → knows_by machine.limits machine.known machine.asked told ≡ knows_by machine.limits (asks_by (now m) act) act told
  knows_now act told goes = ap₂ (λ (x : Known) (a : Act). knows_by machine.limits x a told) goes.known goes.asked

  pub migrate_may : (sid : Sid) (asked : DmCall) → StepsOn m.machine (told_next m.next) (Dm sid asked) machine → MigrateMay k sid asked
  migrate_may sid asked goes = ⊎_elim
      (λ (start : Starts m). let only = begins_only sid asked start goes in subst (λ (c : DmCall). MigrateMay k sid c) (sym only.0) only.1)
      (λ (same : IsShownAs (now m) k). may_call m.machine.limits (now m) k m.machine.pass machine.pass m.machine.asked (told_next m.next) sid asked same goes.may)
      shows

  pub migrate_told : (limits : Numbers) (sid : Sid) (asked : DmCall) (answer : DmReply) → StepsOn m.machine (told_next m.next) (Dm sid asked) machine
      → IsShownAs (knows_by machine.limits machine.known machine.asked (heard.Dm answer)) (hears limits (asks k asked) asked answer)
  migrate_told limits sid asked answer goes =
      let as_asked : IsShownAs (asks (now m) asked) (asks k asked) = ⊎_elim (λ (start : Starts m). begins (now m) k asked (begins_only sid asked start goes).0) (λ (same : IsShownAs (now m) k). asks_same (now m) k asked same) shows in
      subst (λ (x : Known). IsShownAs x (hears limits (asks k asked) asked answer)) (sym (knows_now (Dm sid asked) (heard.Dm answer) goes))
      (hears_same machine.limits limits (asks (now m) asked) (asks k asked) asked answer as_asked)

  -- it seals with what it heard of its copy
  pub migrate_seals : {M : Type 0} (g : drive.Ghosts M) (drives : List M) → HearsStored g drives m.machine.asked (told_next m.next) → (sid : Sid) (t : Token) (h : Handle) (segment : ℕ) (entry : StubEntry) → StepsOn m.machine (told_next m.next) (Dm sid (Seal t h segment entry)) machine → IsStored g drives entry
  migrate_seals g drives hears sid t h segment entry goes = let may = goes.may.2 in sealed_as g drives m.machine.limits.volumes machine.pass.sid goes.may.0 entry m.machine.asked (told_next m.next) hears may.2

  pub migrate_rests : (act : Act) (told : Heard) → IsNoCall act → StepsOn m.machine (told_next m.next) act machine → MigrateKnows k (record { machine = machine; next = Hears told })
  migrate_rests act told no_call goes = ⊎_elim
      (λ (start : Starts m). absurd (no_rest m.machine.limits (now m) m.machine.pass machine.pass m.machine.asked (told_next m.next) act no_call start.1 (no_seat_yet start) goes.may))
      (λ (same : IsShownAs (now m) k). inr (subst (λ (x : Known). IsShownAs x k) (sym (knows_now act told goes)) (as_shown (knows_by machine.limits (asks_by (now m) act) act told) (now m) k (rests machine.limits (now m) act told no_call) same)))
      shows
