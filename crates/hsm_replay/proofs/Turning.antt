-- Turns of daemons.
use Rattle.std.proofs.Common.{◌≡◌, ◌∙◌, ◌∷◌, ◌++◌, ◌&&◌, [], Bool, true, false, List, Option, Some, None, IfSome, is_some, Result, Ok, Err, OnOk}
use Rattle.std.proofs.Common.{inl, inr, refl, sym, ap, subst, append-nil, append_assoc}
use Rattle.std.specs.List.{list_all}
use Rattle.std.specs.Prelude.{slice_set}
use Rattle.disk_model.specs.declared.device.Disk as disk
use Rattle.media_model.specs.declared.drive.Drive as drive
use Rattle.hsm_types.specs.Limits.{buffer_bytes}
use Rattle.hsm_types.specs.Stubs.{entry_place}
use Rattle.hsm_types.specs.declared.daemons.Act.{Act}
use Rattle.hsm_types.specs.declared.daemons.Act.TheVariants.{Dm, Copy, Fetch, Idle}
use Rattle.hsm_types.specs.declared.daemons.Daemon.{Daemon}
use Rattle.hsm_types.specs.declared.daemons.Daemon.TheVariants.{Recall, Migrate}
use Rattle.hsm_types.specs.declared.daemons.Heard.{Heard}
use Rattle.hsm_types.specs.declared.daemons.Heard.TheVariants as heard
use Rattle.hsm_types.specs.declared.dm.DmCall.{DmCall}
use Rattle.hsm_types.specs.declared.dm.DmCall.TheVariants.{GetEvents, CreateSession}
use Rattle.hsm_types.specs.declared.dm.DmReply.{DmReply}
use Rattle.hsm_types.specs.declared.dm.DmReply.TheVariants.{Refused}
use Rattle.hsm_types.specs.declared.dm.DmRefusal.TheVariants.{Again, TooMany}
use Rattle.hsm_types.specs.declared.keys.Sid.{Sid}
use Rattle.hsm_types.specs.Rights.{Rights}
use Rattle.plain_model.specs.declared.entries.Action.TheVariants as action
use Rattle.plain_model.specs.declared.entries.Actor.TheVariants.{Session}
use Rattle.plain_model.specs.declared.entries.Answer.TheVariants as answer
use Rattle.plain_model.specs.declared.entries.Entry.{Entry}
use Rattle.hsm_types.specs.declared.stores.Superblock.{Superblock}
use Rattle.hsm_types.specs.declared.stubs.StubEntry.{StubEntry}
use Rattle.plain_model.specs.Services.{dm_reply_to}
use Rattle.plain_model.specs.State.{Held, State}
use Rattle.file_store.specs.Stores.{superblock_of}
use Rattle.daemon_session.specs.Members.{IsRefusedOne}
use Rattle.daemon_session.specs.Seats.{Seat, no_seat, all_marked, IsSeated}
use Rattle.hsm_core.specs.Answers.{entry_of}
use Rattle.hsm_core.specs.Store.{Store, state_of}
use Rattle.recall_daemon.specs.Known as recall
use Rattle.recall_daemon.specs.Machine as recaller
use Rattle.migrate_daemon.specs.Known as migrate
use Rattle.migrate_daemon.specs.Machine as migrator
use Rattle.migrate_daemon.specs.Passes.{Pass}
use Rattle.hsm_policy.specs.Settings.{Numbers}
use Rattle.hsm_system.specs.Running.{Recalling, Migrating}
use Rattle.hsm_system.specs.declared.stops.Stop.{Stop}
use Rattle.hsm_system.specs.Acts.{Serves}
use Rattle.hsm_replay.specs.Acts.{Performs}
use Rattle.hsm_system.specs.Asking.{AsksFrom, RecallAsks, MigrateAsks, RecallIsRight, MigrateIsRight}
use Rattle.hsm_system.specs.Systems.{System, IsDown, Rests}
use Rattle.marked_history.specs.Quiet.{is_quiet, is_quiet_event}
use Rattle.marked_history.specs.Waiting.{Running}
use Rattle.hsm_replay.specs.Settled.{IsTurn, RecallEndedTurn, IsToldSpace, NoneDue, MigrateEndedTurn, AreStillRefused}
use Rattle.hsm_replay.specs.Steps.{Steps}
use Rattle.hsm_replay.specs.Systems.{Run, drive_of, running, told_next}
use Rattle.hsm_replay.specs.Freshness.{StaysFresh}
use Rattle.hsm_replay.specs.Turns.{Stands, IsKeptBack, RecallStands, MigrateStands, StandsIn, IsOver, IsInTurn, IsAlone, LeavesAlike, GoesInTurn, HasTurned}
use Rattle.hsm_system.proofs.Asked.{recall_rest_knows, recall_asks_on, recall_rest_seated, migrate_asks_on, all_told, refusal_told}
use Rattle.hsm_system.specs.declared.daemons.Next.TheVariants.{Hears}
use Rattle.hsm_replay.proofs.SessionCalls.{unseated as no_session}
use Rattle.hsm_replay.proofs.Due.{space_then, space_first, none_due}
use Rattle.hsm_replay.proofs.Freshness.{fresh_now, fresh_called, fresh_went, fresh_alone, fresh_itself, fresh_on}
use Rattle.hsm_replay.proofs.HeldUp.{after_call, after_fetch, after_rest, held_up_at_rest, kept_back_first}
use Rattle.hsm_replay.proofs.Longer.{over_longer}
use Rattle.hsm_replay.proofs.Refusals.{own_reply}
use Rattle.hsm_replay.proofs.ActSteps.{recall_waits, migrate_waits, recall_left, migrate_left, recall_acts, migrate_acts}
use Rattle.hsm_replay.proofs.ActSteps.{recall_behind_call, recall_behind_fetch, migrate_behind_call, migrate_behind_copy}
use Rattle.marked_history.proofs.QuietEvents.{all_quiet_append, quiet_ready, quiet_rights}

-- ---- what a turn ends with

-- it waits for the answer of the last entry
waits_so : (entries : List Entry) (asked : Act) (told : Heard) (sid : Sid) (c : DmCall) (reply : DmReply) → asked ≡ Dm sid c → told ≡ heard.Dm reply → Stands entries asked told → Stands entries (Dm sid c) (heard.Dm reply)
waits_so entries asked told sid c reply is says stands = subst (λ (t : Heard). Stands entries (Dm sid c) t) says (subst (λ (a : Act). Stands entries a told) is stands)

refused_turn : (seat : Seat) (entries : List Entry) (asked : Act) (told : Heard) → seat ≡ no_seat → Stands entries asked told → IsRefusedOne asked told → IsTurn seat entries
refused_turn seat entries asked told none stands refused =
    let last = waits_so entries asked told _ (CreateSession refused.0 refused.1) (Refused (TooMany refused.2)) refused.3 refused.4 stands in
    (last.0, _, last.1, none)

-- a seat without its marks is set up as before
seated_at_rest : (seat : Seat) (sid : Sid) → IsSeated seat sid → IsSeated (record seat { kept = all_marked false seat.kept }) sid
seated_at_rest seat sid seated = record { session = seated.session; set = seated.set; found = seated.found }

module _ (old : recaller.Machine) (told : Heard) (asks : RecallAsks old) where
  abbrev recall_now : recall.Known
  recall_now = recall.knows_by old.known old.asked told

  abbrev at_rest : Seat
  at_rest = record (recall_now.seat) { kept = all_marked false recall_now.seat.kept }

  same_seat : recall.MayRest recall_now old.asked told → recall_now.seat ≡ old.known.seat
  same_seat may = ap (λ (k : recall.Known). k.seat) (recall_rest_knows old.known old.asked told may)

  -- it was refused a session, and has none
  unseated : recall.MayRest recall_now old.asked told → IsRefusedOne old.asked told → recall_now.seat ≡ no_seat
  unseated may refused = same_seat may ∙ subst (λ (a : Act). AsksFrom old.known.seat a) refused.3 asks.seat

  recall_turn : (entries : List Entry) → Stands entries old.asked told → recall.MayRest recall_now old.asked told → IsTurn at_rest entries
  recall_turn entries stands (inl all) =
      let last = waits_so entries old.asked told all.0.0 (GetEvents 0 buffer_bytes) (Refused Again) all.0.1 all.0.2 stands in
      let seated : IsSeated recall_now.seat all.0.0 = subst (λ (s : Seat). IsSeated s all.0.0) (sym (same_seat (inl all))) (recall_rest_seated old told asks all.0) in
      (last.0, _, last.1, (refl, refl, seated_at_rest recall_now.seat all.0.0 seated))
  recall_turn entries stands (inr refused) =
      refused_turn at_rest entries old.asked told (ap (λ (s : Seat). record s { kept = all_marked false s.kept }) (unseated (inr refused) refused)) stands refused

  recall_held_up : (entries : List Entry) (rights : Rights) → IsKeptBack entries rights recall_now old.asked → recall.MayRest recall_now old.asked told → AreStillRefused entries rights at_rest
  recall_held_up entries rights back (inl all) = held_up_at_rest entries rights recall_now old.asked told back all.1
  recall_held_up entries rights back (inr refused) = subst (λ (s : Seat). AreStillRefused entries rights (record s { kept = all_marked false s.kept })) (sym (unseated (inr refused) refused)) tt

all_turn : (seat : Seat) (entries : List Entry) (asked : Act) (told : Heard) → AsksFrom seat asked → Stands entries asked told → migrator.HasAll asked told → IsTurn seat entries
all_turn seat entries (Dm sid (GetEvents most room)) (heard.Dm (Refused Again)) asks stands all = (stands.0, _, stands.1, (all.0, all.1, asks))
all_turn seat entries asked told asks stands all = absurd all

module _ (limits : Numbers) (old : migrator.Machine) (told : Heard) (asks : MigrateAsks limits old) (pass : Pass) where
  abbrev migrate_now : migrate.Known
  migrate_now = migrate.knows_by old.limits old.known old.asked told

  -- it was refused a session, and has none
  migrate_unseated : IsRefusedOne old.asked told → migrate_now.seat ≡ no_seat
  migrate_unseated refused = refusal_told old.limits old.known old.asked told refused ∙ subst (λ (a : Act). AsksFrom old.known.seat a) refused.3 asks.seat

  migrate_turn : (entries : List Entry) → Stands entries old.asked told → IfSome migrate_now.space (IsToldSpace entries) → migrator.MayRest old.limits migrate_now pass old.asked told
      → IsTurn migrate_now.seat entries × (migrate_now.seat.kept ≡ []) × ((sid : Sid) → IsSeated migrate_now.seat sid → NoneDue limits entries migrate_now.fresh)
  migrate_turn entries stands space (inl all) = (
    subst (λ (s : Seat). IsTurn s entries) (sym (all_told old.limits old.known old.asked told all.0)) (all_turn old.known.seat entries old.asked told asks.seat stands all.0),
    all.2,
    λ sid seated. subst (λ (ls : Numbers). NoneDue ls entries migrate_now.fresh) asks.counts (none_due old.limits entries migrate_now space all.3 all.4),
  )
  migrate_turn entries stands space (inr refused) = (
    refused_turn migrate_now.seat entries old.asked told (migrate_unseated refused) stands refused,
    ap (λ (s : Seat). s.kept) (migrate_unseated refused),
    λ sid seated. absurd (no_session migrate_now.seat sid (migrate_unseated refused) seated),
  )

-- ---- quiet entries

one_quiet : (b : Bool) → (b && true) ≡ true → b ≡ true
one_quiet true is = refl
one_quiet false is = is

module _ {D : Type 0} where
  pub leaves_itself : (s : Store D) → LeavesAlike s s
  leaves_itself s = ([], sym (append-nil s.history), λ quiet. record { ready = λ caller. refl; rights = refl })

  pub leaves_then : (a b c : Store D) → LeavesAlike a b → LeavesAlike b c → LeavesAlike a c
  leaves_then a b c first then = (
    first.0 ++ then.0,
    then.1 ∙ ap (λ (h : List Entry). h ++ then.0) first.1 ∙ append_assoc a.history first.0 then.0,
    λ quiet. let parts = all_quiet_append first.0 then.0 quiet in let one = first.2 parts.0 in let two = then.2 parts.1 in record { ready = λ caller. two.ready caller ∙ one.ready caller; rights = two.rights ∙ one.rights },
  )

module _ {D M : Type 0} (g : disk.Ghosts D) (h : drive.Ghosts M) where
  -- what a served call leaves
  call_leaves : (sid : Sid) (c : DmCall) (reply : DmReply) (old left : System D) → Serves g sid c reply old left → LeavesAlike old.store left.store
  call_leaves sid c reply old left serves = (
    entry_of (Session sid) (action.Dm c) (answer.Dm reply) ∷ [],
    serves.added,
    λ quiet. record { ready = quiet_ready g old.store left.store sid c reply serves.made.told serves.still (one_quiet _ quiet); rights = quiet_rights g old.store left.store sid c reply serves.made.told serves.still (one_quiet _ quiet) },
  )

  -- an entry more in a turn
  more_entries : (from entries old new : List Entry) (e : Entry) → old ≡ from ++ entries → new ≡ old ++ e ∷ [] → new ≡ from ++ (entries ++ e ∷ [])
  more_entries from entries old new e so is = is ∙ ap (λ (x : List Entry). x ++ e ∷ []) so ∙ append_assoc from entries (e ∷ [])

  -- a step of a turn
  record StepGoes (daemon : Daemon) (old new : Run D M) : Type 0 where
    alone : IsAlone daemon old new
    runs : running new ≡ running old
    calm : LeavesAlike old.system.store new.system.store
    fresh : StaysFresh old new
    on : (from entries : List Entry) → old.system.store.history ≡ from ++ entries → StandsIn daemon entries old → IsInTurn daemon from new

  -- ---- recall

  module _ (entries : List Entry) (rights : Rights) (r : Recalling) (machine : recaller.Machine) (stands : RecallStands entries rights r) where
    abbrev now : recall.Known
    now = recall.knows_by r.machine.known r.machine.asked (told_next r.next)

    -- what it knows next, by its act
    back_then : (es : List Entry) (left : Rights) (act : Act) (told : Heard) → recaller.StepsOn r.machine (told_next r.next) act machine → IsKeptBack es left (recall.knows_by (recall.asks_by now act) act told) act → IsKeptBack es left (recall.knows_by machine.known machine.asked told) machine.asked
    back_then es left act told goes back = subst (λ (k : recall.Known). IsKeptBack es left (recall.knows_by k machine.asked told) machine.asked) (sym goes.known) (subst (λ (a : Act). IsKeptBack es left (recall.knows_by (recall.asks_by now act) a told) a) (sym goes.asked) back)

    stands_then : (es : List Entry) (left : Rights) (act : Act) (told : Heard) → recaller.StepsOn r.machine (told_next r.next) act machine → Stands es act told → (list_all is_quiet es ≡ true → IsKeptBack es left (recall.knows_by (recall.asks_by now act) act told) act) → RecallStands es left (record { machine = machine; next = Hears told })
    stands_then es left act told goes at back = record {
      asks = recall_asks_on r.machine (told_next r.next) stands.asks act machine goes;
      stands = subst (λ (a : Act). Stands es a told) (sym goes.asked) at;
      back = λ quiet. back_then es left act told goes (back quiet);
    }

    fetch_stands : (entry : StubEntry) (told : Heard) → recaller.StepsOn r.machine (told_next r.next) (Fetch entry) machine → RecallStands entries rights (record { machine = machine; next = Hears told })
    fetch_stands entry told goes = stands_then entries rights (Fetch entry) told goes tt (λ quiet. absurd (after_fetch entries rights now r.machine.asked (told_next r.next) (stands.back quiet) entry goes.may))

    rest_stands : recaller.StepsOn r.machine (told_next r.next) Idle machine → RecallStands entries rights (record { machine = machine; next = Hears heard.Nothing })
    rest_stands goes = stands_then entries rights Idle heard.Nothing goes tt (λ quiet. after_rest entries rights now r.machine.asked (told_next r.next) (stands.back quiet))

    rest_ends : recaller.StepsOn r.machine (told_next r.next) Idle machine → IsTurn machine.known.seat entries × (list_all is_quiet entries ≡ true → AreStillRefused entries rights machine.known.seat)
    rest_ends goes = subst (λ (k : recall.Known). IsTurn k.seat entries × (list_all is_quiet entries ≡ true → AreStillRefused entries rights k.seat)) (sym goes.known)
        (recall_turn r.machine (told_next r.next) stands.asks entries stands.stands goes.may, λ quiet. recall_held_up r.machine (told_next r.next) stands.asks entries rights (stands.back quiet) goes.may)

  -- its call was answered by the store itself
  call_stands : (entries : List Entry) (s : Superblock) (st : State) (left : Rights) (r : Recalling) (machine : recaller.Machine) (sid : Sid) (c : DmCall) (reply : DmReply) → RecallStands entries st.rights r → recaller.StepsOn r.machine (told_next r.next) (Dm sid c) machine → reply ≡ dm_reply_to s st sid c → (is_quiet_event (action.Dm c) (answer.Dm reply) ≡ true → left ≡ st.rights)
      → RecallStands (entries ++ entry_of (Session sid) (action.Dm c) (answer.Dm reply) ∷ []) left (record { machine = machine; next = Hears (heard.Dm reply) })
  call_stands entries s st left r machine sid c reply stands goes own same =
      let e : Entry = entry_of (Session sid) (action.Dm c) (answer.Dm reply) in
      stands_then entries st.rights r machine stands (entries ++ e ∷ []) left (Dm sid c) (heard.Dm reply) goes (entries, refl) (λ quiet. back quiet)
    where
      es : List Entry
      es = entries ++ entry_of (Session sid) (action.Dm c) (answer.Dm reply) ∷ []

      back : list_all is_quiet es ≡ true → IsKeptBack es left (recall.knows_by (recall.asks_by (recall.knows_by r.machine.known r.machine.asked (told_next r.next)) (Dm sid c)) (Dm sid c) (heard.Dm reply)) (Dm sid c)
      back quiet =
          let parts = all_quiet_append entries (entry_of (Session sid) (action.Dm c) (answer.Dm reply) ∷ []) quiet in
          let one : is_quiet_event (action.Dm c) (answer.Dm reply) ≡ true = one_quiet _ parts.1 in
          subst (λ (rights : Rights). IsKeptBack es rights (recall.knows_by (recall.asks_by (recall.knows_by r.machine.known r.machine.asked (told_next r.next)) (Dm sid c)) (Dm sid c) (heard.Dm reply)) (Dm sid c)) (sym (same one))
          (after_call entries (recall.knows_by r.machine.known r.machine.asked (told_next r.next)) r.machine.asked (told_next r.next) s st (stands.back parts.0) stands.stands sid c reply goes.may own parts.0 one)

  module _ (old : Run D M) (r : Recalling) (machine : recaller.Machine) (runs : old.system.recall ≡ Some r) (new : Run D M) where
    abbrev held : Rights
    held = (state_of old.system.store).rights

    abbrev with_recall : Option Recalling → Running
    with_recall o = record { recall = is_some o; migrate = is_some old.system.migrate }

    runs_on : with_recall (Some r) ≡ with_recall old.system.recall
    runs_on = ap with_recall (sym runs)

    stood : (entries : List Entry) → StandsIn Recall entries old → RecallStands entries held r
    stood entries stands = subst (λ (o : Option Recalling). IfSome o (RecallStands entries held)) runs stands

    no_rest : (act : Act) (entries : List Entry) (then : Heard) (store : Store D) (drives : List M) → (act ≡ Idle → ⊥) → recaller.StepsOn r.machine (told_next r.next) act machine → Rests Recall (recall_left old machine then store drives).system → IsOver Recall entries (recall_left old machine then store drives)
    no_rest act entries then store drives works goes idle = absurd (works (sym goes.asked ∙ idle))

    recall_goes : (act : Act) → recaller.StepsOn r.machine (told_next r.next) act machine → Performs g h Recall (recall_waits old machine act) act new → StepGoes Recall old new
    recall_goes (Dm sid c) goes performs =
        let reply : DmReply = performs.0.0 in
        let left : System D = performs.0.1 in
        let serves = performs.0.2 in
        let e : Entry = entry_of (Session sid) (action.Dm c) (answer.Dm reply) in
        let own : (seen : Held) × (reply ≡ dm_reply_to (superblock_of old.system.store.opened) (record (state_of old.system.store) { held = seen }) sid c) = own_reply g old.system.store left.store sid c reply serves.made.told serves.added serves.still in
        subst (λ (s : Run D M). StepGoes Recall old s) (sym (recall_behind_call g h old new machine sid c performs)) (record {
          alone = refl;
          runs = runs_on;
          calm = call_leaves sid c reply (recall_waits old machine (Dm sid c)).system left serves;
          fresh = fresh_alone old (recall_left old machine (heard.Dm reply) left.store old.drives) (e ∷ []) serves.added refl;
          on = λ from entries so stands. (
            entries ++ e ∷ [],
            more_entries from entries old.system.store.history left.store.history e so serves.added,
            call_stands entries (superblock_of old.system.store.opened) (record (state_of old.system.store) { held = own.0 }) (state_of left.store).rights r machine sid c reply (stood entries stands) goes own.1 (quiet_rights g old.system.store left.store sid c reply serves.made.told serves.still),
            no_rest (Dm sid c) (entries ++ e ∷ []) (heard.Dm reply) left.store old.drives (λ idle. cc idle) goes,
          );
        })
    recall_goes (Copy volume handle segment bytes) goes performs = absurd goes.may
    recall_goes (Fetch entry) goes performs =
        let told : Heard = heard.Fetched performs.0 in
        let drives : List M = slice_set old.drives (drive_of (entry_place entry).volume old.drives) performs.3.1 in
        subst (λ (s : Run D M). StepGoes Recall old s) (sym (recall_behind_fetch g h old new machine entry performs)) (record {
          alone = refl;
          runs = runs_on;
          calm = leaves_itself old.system.store;
          fresh = fresh_alone old (recall_left old machine told old.system.store drives) [] (sym (append-nil old.system.store.history)) refl;
          on = λ from entries so stands. (entries, so, fetch_stands entries held r machine (stood entries stands) entry told goes, no_rest (Fetch entry) entries told old.system.store drives (λ idle. cc idle) goes);
        })
    recall_goes Idle goes performs =
        let is : new ≡ recall_left old machine heard.Nothing old.system.store old.drives = performs in
        subst (λ (s : Run D M). StepGoes Recall old s) (sym is) (record {
          alone = refl;
          runs = runs_on;
          calm = leaves_itself old.system.store;
          fresh = fresh_alone old (recall_left old machine heard.Nothing old.system.store old.drives) [] (sym (append-nil old.system.store.history)) refl;
          on = λ from entries so stands. let ends = rest_ends entries held r machine (stood entries stands) goes in (entries, so, rest_stands entries held r machine (stood entries stands) goes, λ idle. record { turn = record { rests = idle; turn = ends.0 }; held_up = ends.1 });
        })

  -- ---- migration

  module _ (limits : Numbers) (entries : List Entry) (m : Migrating) (machine : migrator.Machine) (stands : MigrateStands limits entries m) where
    abbrev then_knows : migrate.Known
    then_knows = migrate.knows_by m.machine.limits m.machine.known m.machine.asked (told_next m.next)

    migrate_then : (es : List Entry) (act : Act) (told : Heard) → migrator.StepsOn m.machine (told_next m.next) act machine → Stands es act told → IfSome (migrate.knows_by machine.limits (migrate.asks_by then_knows act) act told).space (IsToldSpace es) → MigrateStands limits es (record { machine = machine; next = Hears told })
    migrate_then es act told goes at space = record {
      asks = migrate_asks_on m.machine (told_next m.next) limits act machine stands.asks goes;
      stands = subst (λ (a : Act). Stands es a told) (sym goes.asked) at;
      space = subst (λ (k : migrate.Known). IfSome (migrate.knows_by machine.limits k machine.asked told).space (IsToldSpace es)) (sym goes.known) (subst (λ (a : Act). IfSome (migrate.knows_by machine.limits (migrate.asks_by then_knows act) a told).space (IsToldSpace es)) (sym goes.asked) space);
    }

    migrate_ends : migrator.StepsOn m.machine (told_next m.next) Idle machine → MigrateEndedTurn limits entries machine
    migrate_ends goes =
        let ends = migrate_turn limits m.machine (told_next m.next) stands.asks machine.pass entries stands.stands stands.space goes.may in
        record {
          rests = goes.asked;
          turn = subst (λ (k : migrate.Known). IsTurn k.seat entries) (sym goes.known) ends.0;
          none = subst (λ (k : migrate.Known). k.seat.kept ≡ []) (sym goes.known) ends.1;
          none_due = subst (λ (k : migrate.Known). (sid : Sid) → IsSeated k.seat sid → NoneDue limits entries k.fresh) (sym goes.known) ends.2;
        }

  module _ (old : Run D M) (m : Migrating) (machine : migrator.Machine) (runs : old.system.migrate ≡ Some m) (new : Run D M) where
    abbrev with_migrate : Option Migrating → Running
    with_migrate o = record { recall = is_some old.system.recall; migrate = is_some o }

    runs_so : with_migrate (Some m) ≡ with_migrate old.system.migrate
    runs_so = ap with_migrate (sym runs)

    stood_so : (entries : List Entry) → StandsIn Migrate entries old → MigrateStands old.system.limits entries m
    stood_so entries stands = subst (λ (o : Option Migrating). IfSome o (MigrateStands old.system.limits entries)) runs stands

    no_rest_so : (act : Act) (entries : List Entry) (then : Heard) (store : Store D) (drives : List M) → (act ≡ Idle → ⊥) → migrator.StepsOn m.machine (told_next m.next) act machine → Rests Migrate (migrate_left old machine then store drives).system → IsOver Migrate entries (migrate_left old machine then store drives)
    no_rest_so act entries then store drives works goes idle = absurd (works (sym goes.asked ∙ idle))

    migrate_goes : (act : Act) → migrator.StepsOn m.machine (told_next m.next) act machine → Performs g h Migrate (migrate_waits old machine act) act new → StepGoes Migrate old new
    migrate_goes (Dm sid c) goes performs =
        let reply : DmReply = performs.0.0 in
        let left : System D = performs.0.1 in
        let serves = performs.0.2 in
        let e : Entry = entry_of (Session sid) (action.Dm c) (answer.Dm reply) in
        subst (λ (s : Run D M). StepGoes Migrate old s) (sym (migrate_behind_call g h old new machine sid c performs)) (record {
          alone = refl;
          runs = runs_so;
          calm = call_leaves sid c reply (migrate_waits old machine (Dm sid c)).system left serves;
          fresh = (e ∷ [], serves.added, λ fresh. fresh_called m machine (fresh_now old m runs fresh) sid c reply goes);
          on = λ from entries so stands. (
            entries ++ e ∷ [],
            more_entries from entries old.system.store.history left.store.history e so serves.added,
            migrate_then old.system.limits entries m machine (stood_so entries stands) (entries ++ e ∷ []) (Dm sid c) (heard.Dm reply) goes (entries, refl) (space_then machine.limits entries (then_knows old.system.limits entries m machine (stood_so entries stands)) sid c reply (stood_so entries stands).space),
            no_rest_so (Dm sid c) (entries ++ e ∷ []) (heard.Dm reply) left.store old.drives (λ idle. cc idle) goes,
          );
        })
    migrate_goes (Copy volume handle segment bytes) goes performs =
        let told : Heard = heard.Copied performs.0 in
        let drives : List M = slice_set old.drives (drive_of volume old.drives) performs.3.1 in
        subst (λ (s : Run D M). StepGoes Migrate old s) (sym (migrate_behind_copy g h old new machine volume handle segment bytes performs)) (record {
          alone = refl;
          runs = runs_so;
          calm = leaves_itself old.system.store;
          fresh = ([], sym (append-nil old.system.store.history), λ fresh. inl (fresh_went m machine (fresh_now old m runs fresh) (Copy volume handle segment bytes) told tt goes));
          on = λ from entries so stands. (entries, so, migrate_then old.system.limits entries m machine (stood_so entries stands) entries (Copy volume handle segment bytes) told goes tt (stood_so entries stands).space, no_rest_so (Copy volume handle segment bytes) entries told old.system.store drives (λ idle. cc idle) goes);
        })
    migrate_goes (Fetch entry) goes performs = absurd goes.may
    migrate_goes Idle goes performs =
        let is : new ≡ migrate_left old machine heard.Nothing old.system.store old.drives = performs in
        subst (λ (s : Run D M). StepGoes Migrate old s) (sym is) (record {
          alone = refl;
          runs = runs_so;
          calm = leaves_itself old.system.store;
          fresh = ([], sym (append-nil old.system.store.history), λ fresh. inl (fresh_went m machine (fresh_now old m runs fresh) Idle heard.Nothing tt goes));
          on = λ from entries so stands. (entries, so, migrate_then old.system.limits entries m machine (stood_so entries stands) entries Idle heard.Nothing goes tt tt, λ idle. record { turn = migrate_ends old.system.limits entries m machine (stood_so entries stands) goes; held_up = λ quiet. tt });
        })

  -- ---- a step

  stands_down : (daemon : Daemon) (entries : List Entry) (s : Run D M) → IsDown daemon s.system → StandsIn daemon entries s
  stands_down Recall entries s down = subst (λ (o : Option Recalling). IfSome o (RecallStands entries (state_of s.system.store).rights)) (sym down) tt
  stands_down Migrate entries s down = subst (λ (o : Option Migrating). IfSome o (MigrateStands s.system.limits entries)) (sym down) tt

  over_down : (daemon : Daemon) (entries : List Entry) (s : Run D M) → IsDown daemon s.system → IsOver daemon entries s
  over_down Recall entries s down = record {
    turn = subst (λ (o : Option Recalling). IfSome o (λ (r : Recalling). RecallEndedTurn entries r.machine)) (sym down) tt;
    held_up = λ quiet. subst (λ (o : Option Recalling). IfSome o (λ (r : Recalling). AreStillRefused entries (state_of s.system.store).rights r.machine.known.seat)) (sym down) tt;
  }
  over_down Migrate entries s down = record {
    turn = subst (λ (o : Option Migrating). IfSome o (λ (m : Migrating). MigrateEndedTurn s.system.limits entries m.machine)) (sym down) tt;
    held_up = λ quiet. tt;
  }

  alone_itself : (daemon : Daemon) (s : Run D M) → IsAlone daemon s s
  alone_itself Recall s = refl
  alone_itself Migrate s = refl

  alone_then : (daemon : Daemon) (a b c : Run D M) → IsAlone daemon a b → IsAlone daemon b c → IsAlone daemon a c
  alone_then Recall a b c first then = then ∙ first
  alone_then Migrate a b c first then = then ∙ first

  pub turn_itself : (daemon : Daemon) (s : Run D M) → GoesInTurn daemon s s
  turn_itself daemon s = record { alone = alone_itself daemon s; runs = refl; calm = leaves_itself s.system.store; fresh = fresh_itself s; on = λ from at. at }

  pub turn_then : (daemon : Daemon) (a b c : Run D M) → GoesInTurn daemon a b → GoesInTurn daemon b c → GoesInTurn daemon a c
  turn_then daemon a b c first then = record { alone = alone_then daemon a b c first.alone then.alone; runs = then.runs ∙ first.runs; calm = leaves_then a.system.store b.system.store c.system.store first.calm then.calm; fresh = fresh_on a b c first.fresh then.fresh; on = λ from at. then.on from (first.on from at) }

  steps_go : (daemon : Daemon) (old new : Run D M) → Steps g h daemon old new → StepGoes daemon old new
  steps_go daemon old new (inl down) = subst (λ (s : Run D M). StepGoes daemon old s) (sym down.1) (record { alone = alone_itself daemon old; runs = refl; calm = leaves_itself old.system.store; fresh = fresh_itself old; on = λ from entries so stands. (entries, so, stands, λ rests. over_down daemon entries old down.0) })
  steps_go Recall old new (inr acts) = let by = recall_acts g h old new acts in recall_goes old by.before by.machine by.runs new by.act by.goes by.performs
  steps_go Migrate old new (inr acts) = let by = migrate_acts g h old new acts in migrate_goes old by.before by.machine by.runs new by.act by.goes by.performs

  pub step_goes : (daemon : Daemon) (old new : Run D M) → Steps g h daemon old new → GoesInTurn daemon old new
  step_goes daemon old new steps = let step = steps_go daemon old new steps in record { alone = step.alone; runs = step.runs; calm = step.calm; fresh = step.fresh; on = λ from at. step.on from at.0 at.1 at.2 }

  -- ---- a turn

  -- a rest stands before all entries of the turn that it begins
  begins : (daemon : Daemon) (s : Run D M) → RecallIsRight s.system.recall → MigrateIsRight s.system.limits s.system.migrate → Rests daemon s.system → StandsIn daemon [] s
  begins Recall s asks counts rests = recall_begins s.system.recall asks rests
    where
      recall_begins : (o : Option Recalling) → RecallIsRight o → IfSome o (λ (r : Recalling). r.machine.asked ≡ Idle) → IfSome o (RecallStands [] (state_of s.system.store).rights)
      recall_begins None asks idle = tt
      recall_begins (Some r) asks idle = record { asks = asks; stands = subst (λ (a : Act). Stands [] a (told_next r.next)) (sym idle) tt; back = λ quiet. kept_back_first (state_of s.system.store).rights r.machine.known r.machine.asked (told_next r.next) idle asks.free }
  begins Migrate s asks counts rests = migrate_begins s.system.migrate counts rests
    where
      migrate_begins : (o : Option Migrating) → MigrateIsRight s.system.limits o → IfSome o (λ (m : Migrating). m.machine.asked ≡ Idle) → IfSome o (MigrateStands s.system.limits [])
      migrate_begins None counts idle = tt
      migrate_begins (Some m) counts idle = record { asks = counts; stands = subst (λ (a : Act). Stands [] a (told_next m.next)) (sym idle) tt; space = space_first m.machine.limits m.machine.known m.machine.asked (told_next m.next) idle (counts.space idle) }

  -- a step from a rest, and then the steps to the next one
  pub has_turned : (daemon : Daemon) (a b c : Run D M) → RecallIsRight a.system.recall → MigrateIsRight a.system.limits a.system.migrate → Rests daemon a.system → Steps g h daemon a b → GoesInTurn daemon b c → Rests daemon c.system → HasTurned daemon a c
  has_turned daemon a b c asks counts rests steps goes ends =
      let first = steps_go daemon a b steps in
      let at = goes.on a.system.store.history (first.on a.system.store.history [] (sym (append-nil a.system.store.history)) (begins daemon a asks counts rests)) in
      record {
        alone = alone_then daemon a b c first.alone goes.alone;
        runs = goes.runs ∙ first.runs;
        calm = leaves_then a.system.store b.system.store c.system.store first.calm goes.calm;
        fresh = fresh_on a b c first.fresh goes.fresh;
        entries = at.0;
        history = at.1;
        over = at.3 ends;
      }

  pub turned : (result : Result (Unit {0}) Stop) (daemon : Daemon) (a b c : Run D M) → RecallIsRight a.system.recall → MigrateIsRight a.system.limits a.system.migrate → Rests daemon a.system → Steps g h daemon a b → OnOk result (GoesInTurn daemon b c) → OnOk result (Rests daemon c.system) → OnOk result (HasTurned daemon a c)
  turned (Ok tt) daemon a b c asks counts rests steps goes ends = has_turned daemon a b c asks counts rests steps goes ends
  turned (Err why) daemon a b c asks counts rests steps goes ends = tt

  pub turned_later : (result : Result (Unit {0}) Stop) (daemon : Daemon) (a b c : Run D M) → GoesInTurn daemon a b → OnOk result (HasTurned daemon b c) → OnOk result (HasTurned daemon a c)
  turned_later (Err why) daemon a b c goes turned = tt
  turned_later (Ok tt) daemon a b c goes turned = record {
    alone = alone_then daemon a b c goes.alone turned.alone;
    runs = turned.runs ∙ goes.runs;
    calm = leaves_then a.system.store b.system.store c.system.store goes.calm turned.calm;
    fresh = fresh_on a b c goes.fresh turned.fresh;
    entries = goes.calm.0 ++ turned.entries;
    history = turned.history ∙ ap (λ (x : List Entry). x ++ turned.entries) goes.calm.1 ∙ append_assoc a.system.store.history goes.calm.0 turned.entries;
    over = over_longer goes.calm.0 turned.entries daemon c turned.over;
  }
