-- A store that has settled is at rest by what its marked history tells, and its daemons are at work or were turned away.
use Rattle.std.specs.Prelude.{Result, Ok, Err}
use Rattle.std.proofs.Common.{◌≡◌, ◌∙◌, ◌⊎◌, ◌++◌, ◌∷◌, [], Bool, true, false, ℕ, List, Option, None, Some, IfSome, is_some, inl, inr, refl, sym, ap}
use Rattle.std.proofs.Common.{ap₂, subst, append_assoc, arith, Contains}
use Rattle.std.proofs.lemmas.Bool.{false≢true}
use Rattle.std.proofs.lemmas.List.Elements.{All-contains, All-from_recursion, Contains-append_left, Contains-append_right, Contains-push}
use Rattle.std.specs.List.{AllByRecursion}
use Rattle.disk_model.specs.declared.device.Disk as disk
use Rattle.disk_model.specs.Moments.{Tells}
use Rattle.media_model.specs.declared.drive.Drive as drive
use Rattle.hsm_types.specs.Rights.{Rights}
use Rattle.hsm_types.specs.Sessions.{lives, queue_of}
use Rattle.hsm_types.specs.declared.daemons.Act.{Act}
use Rattle.hsm_types.specs.declared.daemons.Daemon.{Daemon}
use Rattle.hsm_types.specs.declared.daemons.Daemon.TheVariants.{Recall, Migrate}
use Rattle.hsm_types.specs.declared.dm.DmCall.TheVariants.{CreateSession, GetEvents}
use Rattle.hsm_types.specs.declared.dm.DmRefusal.{DmRefusal}
use Rattle.hsm_types.specs.declared.dm.DmRefusal.TheVariants.{Again, Busy, TooMany}
use Rattle.hsm_types.specs.declared.dm.DmReply.TheVariants.{Refused}
use Rattle.hsm_types.specs.declared.keys.Handle.{Handle}
use Rattle.hsm_types.specs.declared.keys.Sid.{Sid}
use Rattle.hsm_types.specs.declared.keys.Token.{Token}
use Rattle.hsm_types.specs.declared.media.Fault.{Fault}
use Rattle.plain_model.specs.declared.entries.Action.{Action}
use Rattle.plain_model.specs.declared.entries.Action.TheVariants.{Dm}
use Rattle.plain_model.specs.declared.entries.Actor.{Actor}
use Rattle.plain_model.specs.declared.entries.Actor.TheVariants.{Session}
use Rattle.plain_model.specs.declared.entries.Answer.{Answer}
use Rattle.plain_model.specs.declared.entries.Answer.TheVariants.{Dm as Told}
use Rattle.plain_model.specs.declared.entries.Entry.{Entry}
use Rattle.plain_model.specs.Exact.{state_by}
use Rattle.plain_model.specs.Laws.{IsRunSeen}
use Rattle.plain_model.specs.State.{State, just_opened}
use Rattle.plain_model.proofs.AnyDisk.{run_on_any}
use Rattle.file_store.specs.Stores.{superblock_of}
use Rattle.hsm_policy.specs.Settings.{Numbers}
use Rattle.daemon_session.specs.declared.events.Event.{Event}
use Rattle.daemon_session.specs.declared.events.Kept.{Kept}
use Rattle.daemon_session.specs.Seats.{Seat, all_marked, IsSeated}
use Rattle.hsm_core.specs.Answers.{entry_of}
use Rattle.hsm_core.specs.Kept.{IsKept}
use Rattle.hsm_core.specs.Store.{state_of}
use Rattle.recall_daemon.specs.Known as recall
use Rattle.migrate_daemon.specs.Known as migrate
use Rattle.migrate_daemon.specs.declared.shares.Space.{Space}
use Rattle.migrate_daemon.specs.Shares.{is_above}
use Rattle.hsm_system.specs.Running.{Recalling, Migrating}
use Rattle.hsm_system.specs.declared.stops.Stop.{Stop}
use Rattle.marked_history.specs.Follows.{IsMadeBy, IsOfSettling}
use Rattle.hsm_replay.specs.Faults.{faults_in}
use Rattle.hsm_replay.specs.Freshness.{IsFresh, IsToldTable, StaysFresh}
use Rattle.hsm_replay.specs.Keeping.{unmarked, IsAtStart, IsKnownAs, IsShownAs, RecallKnows, MigrateKnows, Shows}
use Rattle.marked_history.specs.Marks.{Mark, entries_of}
use Rattle.hsm_replay.specs.Resting.{EndsInTurns, first_of, IsSettledIn, LeadsTo, EndsMarked}
use Rattle.hsm_replay.specs.Systems.{refreshed, told_next}
use Rattle.marked_history.specs.Served.{Shown, nothing_shown, learned, shown, IsTold}
use Rattle.hsm_replay.specs.Settled as settled
use Rattle.marked_history.specs.Settling.{IsAtWork, IsTurnedAway, BeginsPass, IsCrowded}
use Rattle.hsm_replay.specs.Systems.{Run, running}
use Rattle.marked_history.specs.Waiting.{runs, no_more, unserved, PutsOff, RecallRests, MigrateRests, IsAtRest, AllMayWait}
use Rattle.hsm_replay.proofs.Begun.{begins_pass}
use Rattle.hsm_replay.proofs.SessionCalls.{unseated as no_session}
use Rattle.hsm_replay.proofs.Freshness.{refreshed_fresh}
use Rattle.hsm_replay.proofs.Kept.{told_unmarked}
use Rattle.marked_history.proofs.Lists.{first_in, later_in, first_or_rest}
use Rattle.hsm_replay.specs.Deeds.{given_now, ByDeeds, IsDoneBy}
use Rattle.hsm_replay.specs.Marking.{marks_of}
use Rattle.hsm_replay.specs.Parts.{IsSettle}
use Rattle.hsm_replay.specs.Stopped.{Ending}
use Rattle.deeds.specs.Deeds.{Deed}
use Rattle.deeds.specs.Given.{Given}
use Rattle.marked_history.specs.Quiet.{is_quiet}
use Rattle.script_text.specs.declared.lines.Line.TheVariants.{Settle}
use Rattle.hsm_replay.proofs.Deeds.{done_so}
use Rattle.hsm_replay.proofs.MarkKinds.{line_marks}
use Rattle.hsm_replay.proofs.Rounds.{marked_since, ends_later}
use Rattle.hsm_replay.proofs.TurnedAway.{IsRefusedOne, EndsRefused, ends_away, shown_append, recall_away, migrate_away, recall_turned_away}
use Rattle.hsm_replay.proofs.TurnedAway.{migrate_turned_away, recall_told, migrate_told}
use Rattle.marked_history.proofs.StillSo.{lives_still, empty_still, spacious_still}
use Rattle.marked_history.proofs.Waiting.{ready_waits, settled_waits}

-- ---- what marks tell

-- migration's calls tell recall nothing
recall_same : (limits : Numbers) (k : Shown) (marks : List Mark) → AllByRecursion (IsMadeBy Migrate) marks → (shown limits k marks).recall ≡ k.recall
recall_same limits k [] all = refl
recall_same limits k (m ∷ marks) all = recall_same limits (learned limits k m) marks all.1 ∙ ap (λ (x : Mark). (learned limits k x).recall) all.0.3

-- ---- how a turn ends

abbrev EndsSo : Seat → Entry → Type 0
EndsSo seat e = ((sid : Sid) × (e ≡ no_more sid) × IsSeated seat sid) ⊎ IsRefusedOne e

ends_so : (seat : Seat) (who : Actor) (what : Action) (answer : Answer) → settled.EndsTurn seat who what answer → EndsSo seat (entry_of who what answer)
ends_so seat (Session sid) (Dm (GetEvents most room)) (Told (Refused Again)) is = inl (sid, ap₂ (λ (n m : ℕ). entry_of (Session sid) (Dm (GetEvents n m)) (Told (Refused Again))) is.0 is.1, is.2)
ends_so seat (Session sid) (Dm (CreateSession old info)) (Told (Refused (TooMany count))) is = inr (sid, old, info, count, refl)
ends_so seat who what answer is = absurd is

-- a daemon that was refused a session has none, and any other rests
unseated_or : (seat : Seat) (entries : List Entry) (Rests : Type 0) → (EndsRefused entries → seat.sid ≡ None) → EndsRefused entries ⊎ Rests → (seat.sid ≡ None) ⊎ Rests
unseated_or seat entries Rests none (inl refused) = inl (none refused)
unseated_or seat entries Rests none (inr rests) = inr rests

-- ---- what is kept, but for which events are put off

module _ (P : Token → Type 0) where
  abbrev OfEach : List Kept → Type 0
  OfEach kept = AllByRecursion (λ (x : Kept). P x.event.token) kept

  each_unmarked : (kept : List Kept) → OfEach kept → OfEach (all_marked false kept)
  each_unmarked [] all = tt
  each_unmarked (x ∷ kept) all = (all.0, each_unmarked kept all.1)

  each_marked : (kept : List Kept) → OfEach (all_marked false kept) → OfEach kept
  each_marked [] all = tt
  each_marked (x ∷ kept) all = (all.0, each_marked kept all.1)

kept_marked : (kept : List Kept) (e : Event) (m : Bool) → Contains (all_marked false kept) (record { event = e; marked = m }) → recall.IsKept e kept
kept_marked [] e m at = let within = at.1 in absurd (omega (arith, within))
kept_marked (x ∷ kept) e m at = elim (first_or_rest (record x { marked = false }) (all_marked false kept) (record { event = e; marked = m }) at) [
  | inl same ↦ (x.marked, subst (λ (y : Event). Contains (x ∷ kept) (record { event = y; marked = x.marked })) (ap (λ (y : Kept). y.event) same) (first_in x kept))
  | inr behind ↦ let later = kept_marked kept e m behind in (later.0, later_in x kept (record { event = e; marked = later.0 }) later.1)
]

told_back : (kept : List Kept) (t : Token) (h : Handle) → IsTold (all_marked false kept) t h → IsTold kept t h
told_back kept t h told = (told.0, kept_marked kept told.0 told.1.0 told.1.1, told.2, told.3)

-- ---- recall at rest

module _ {M : Type 0} (g : drive.Ghosts M) (entries : List Entry) (rights : Rights) (k : recall.Known) (drives : List M) (faults : List Fault) where
  module _ (r : Recalling) (rests : settled.RecallEndedTurn entries r.machine) (up : settled.AreStillRefused entries rights r.machine.known.seat) (knows : RecallKnows g k drives faults r) where
    abbrev seat : Seat
    seat = r.machine.known.seat

    same_seat : (sid : Sid) → IsSeated seat sid → (IsAtStart seat r.machine.asked (told_next r.next) × (r.machine.known.hand ≡ None)) ⊎ IsKnownAs (recall.knows_by r.machine.known r.machine.asked (told_next r.next)) k → unmarked seat ≡ unmarked k.seat
    same_seat sid seated (inl start) = absurd (no_session seat sid start.0.0 seated)
    same_seat sid seated (inr same) = subst (λ (a : Act). unmarked (recall.knows_by r.machine.known a (told_next r.next)).seat ≡ unmarked k.seat) rests.rests same.seat

    module _ (sid : Sid) (seated : IsSeated seat sid) (same : unmarked seat ≡ unmarked k.seat) where
      same_kept : all_marked false seat.kept ≡ all_marked false k.seat.kept
      same_kept = ap (λ (s : Seat). s.kept) same

      seated_so : IsSeated k.seat sid
      seated_so = record { session = sym (ap (λ (s : Seat). s.sid) same) ∙ seated.session; set = sym (ap (λ (s : Seat). s.set) same) ∙ seated.set; found = sym (ap (λ (s : Seat). s.unfound) same) ∙ seated.found }

      abbrev IsUp : Token → Type 0
      IsUp t = settled.IsStillRefused entries rights seat t

      all_up : AllByRecursion (λ (x : Kept). IsUp x.event.token) k.seat.kept
      all_up = each_marked IsUp k.seat.kept (subst (λ (l : List Kept). AllByRecursion (λ (x : Kept). IsUp x.event.token) l) same_kept (each_unmarked IsUp seat.kept up))

      refused : (x : Kept) → Contains k.seat.kept x → (h : Handle) × (cause : DmRefusal) × IsTold k.seat.kept x.event.token h × Contains entries (unserved sid x.event.token h cause) × PutsOff cause
      refused x kept =
          let one : IsUp x.event.token = All-contains (λ (y : Kept). IsUp y.event.token) k.seat.kept x (All-from_recursion (λ (y : Kept). IsUp y.event.token) k.seat.kept all_up) kept in
          let session : Some one.sid ≡ Some sid = sym one.session ∙ seated.session in
          let own : one.sid ≡ sid = cc in (
            one.handle,
            Busy one.holder,
            told_back k.seat.kept x.event.token one.handle (subst (λ (l : List Kept). IsTold l x.event.token one.handle) same_kept (told_unmarked seat.kept x.event.token one.handle one.told)),
            subst (λ (y : Sid). Contains entries (unserved y x.event.token one.handle (Busy one.holder))) own one.refused,
            tt,
          )

    recall_by : EndsSo seat rests.turn.1 → EndsRefused entries ⊎ RecallRests k.seat entries
    recall_by (inl more) =
        let same = same_seat more.0 more.2 knows.known in
        inr (record {
          sid = more.0;
          seated = seated_so more.0 more.2 same;
          first = rests.turn.0;
          ends = rests.turn.2 ∙ ap (λ (e : Entry). rests.turn.0 ++ e ∷ []) more.1;
          refused = refused more.0 more.2 same;
        })
    recall_by (inr one) = inl (rests.turn.0, rests.turn.1, rests.turn.2, one)

  recall_ends : (o : Option Recalling) → IfSome o (λ (r : Recalling). settled.RecallEndedTurn entries r.machine) → IfSome o (λ (r : Recalling). settled.AreStillRefused entries rights r.machine.known.seat) → IfSome o (RecallKnows g k drives faults)
      → is_some o ≡ true → EndsRefused entries ⊎ RecallRests k.seat entries
  recall_ends None rests up knows runs = absurd (false≢true runs)
  recall_ends (Some r) rests up knows runs = recall_by r rests up knows (ends_so r.machine.known.seat rests.turn.1.actor rests.turn.1.action rests.turn.1.answer rests.turn.3)

-- ---- migration at rest

-- the space that it was told was enough
abbrev HadSpace : Numbers → List Entry → Type 0
HadSpace limits entries = (space : Space) × settled.IsToldSpace entries space × (is_above limits.high (Some space) ≡ false)

module _ (limits : Numbers) (entries : List Entry) (k : migrate.Known) where
  module _ (m : Migrating) (rests : settled.MigrateEndedTurn limits entries m.machine) (knows : MigrateKnows k m) where
    abbrev own_seat : Seat
    own_seat = m.machine.known.seat

    migrate_seat : (sid : Sid) → IsSeated own_seat sid → IsAtStart own_seat m.machine.asked (told_next m.next) ⊎ IsShownAs (migrate.knows_by m.machine.limits m.machine.known m.machine.asked (told_next m.next)) k → own_seat ≡ k.seat
    migrate_seat sid seated (inl start) = absurd (no_session own_seat sid start.0 seated)
    migrate_seat sid seated (inr same) = subst (λ (a : Act). (migrate.knows_by m.machine.limits m.machine.known a (told_next m.next)).seat ≡ k.seat) rests.rests same.seat

    migrate_by : EndsSo own_seat rests.turn.1 → EndsRefused entries ⊎ MigrateRests k.seat entries
    migrate_by (inl more) =
        let same = migrate_seat more.0 more.2 knows in
        inr (record {
          sid = more.0;
          seated = subst (λ (s : Seat). IsSeated s more.0) same more.2;
          none = sym (ap (λ (s : Seat). s.kept) same) ∙ rests.none;
          first = rests.turn.0;
          ends = rests.turn.2 ∙ ap (λ (e : Entry). rests.turn.0 ++ e ∷ []) more.1;
        })
    migrate_by (inr one) = inl (rests.turn.0, rests.turn.1, rests.turn.2, one)

    -- no pass was due, as one has begun or there was enough space
    module _ (Began : Type 0) where
      spares_now : ((migrate.knows_by m.machine.limits m.machine.known m.machine.asked (told_next m.next)).fresh ≡ true) ⊎ Began → settled.NoneDue limits entries m.machine.known.fresh → Began ⊎ HadSpace limits entries
      spares_now (inr began) none = inl began
      spares_now (inl fresh) (inr space) = inr space
      spares_now (inl fresh) (inl spent) = absurd (false≢true (sym spent ∙ subst (λ (a : Act). (migrate.knows_by m.machine.limits m.machine.known a (told_next m.next)).fresh ≡ true) rests.rests fresh))

      spares_by : ((migrate.knows_by m.machine.limits m.machine.known m.machine.asked (told_next m.next)).fresh ≡ true) ⊎ Began → EndsSo own_seat rests.turn.1 → EndsRefused entries ⊎ ((sid : Sid) → IsSeated k.seat sid → Began ⊎ HadSpace limits entries)
      spares_by fresh (inl more) = inr (λ sid seated. spares_now fresh (rests.none_due sid (subst (λ (s : Seat). IsSeated s sid) (sym (migrate_seat more.0 more.2 knows)) seated)))
      spares_by fresh (inr one) = inl (rests.turn.0, rests.turn.1, rests.turn.2, one)

  migrate_ends : (o : Option Migrating) → IfSome o (λ (m : Migrating). settled.MigrateEndedTurn limits entries m.machine) → IfSome o (MigrateKnows k) → is_some o ≡ true → EndsRefused entries ⊎ MigrateRests k.seat entries
  migrate_ends None rests knows runs = absurd (false≢true runs)
  migrate_ends (Some m) rests knows runs = migrate_by m rests knows (ends_so m.machine.known.seat rests.turn.1.actor rests.turn.1.action rests.turn.1.answer rests.turn.3)

  migrate_spares : (Began : Type 0) (o : Option Migrating) → IfSome o (λ (m : Migrating). settled.MigrateEndedTurn limits entries m.machine) → IfSome o (MigrateKnows k) → is_some o ≡ true
      → IfSome o (λ (m : Migrating). (migrate.knows_by m.machine.limits m.machine.known m.machine.asked (told_next m.next)).fresh ≡ true) ⊎ Began → EndsRefused entries ⊎ ((sid : Sid) → IsSeated k.seat sid → Began ⊎ HadSpace limits entries)
  migrate_spares Began None rests knows runs fresh = absurd (false≢true runs)
  migrate_spares Began (Some m) rests knows runs fresh = spares_by m rests knows Began fresh (ends_so m.machine.known.seat rests.turn.1.actor rests.turn.1.action rests.turn.1.answer rests.turn.3)

-- ---- the store at rest

-- what it ends with is in it
ends_with : (entries first : List Entry) (sid : Sid) → entries ≡ first ++ no_more sid ∷ [] → Contains entries (no_more sid)
ends_with entries first sid is = subst (λ (l : List Entry). Contains l (no_more sid)) (sym is) (Contains-push first (no_more sid))

module _ {D M : Type 0} (h : drive.Ghosts M) (opened : List M) (marks : List Mark) (s : Run D M) (shows : Shows h opened marks s) (from : List Entry) (turns : settled.EndsQuietly from s) (ends : EndsInTurns marks turns.recall_turn turns.migrate_turn) where
  abbrev k : Shown
  k = shown s.system.limits nothing_shown marks

  abbrev first : Shown
  first = shown s.system.limits nothing_shown ends.before

  abbrev then : Shown
  then = shown s.system.limits first ends.recalls

  in_turns : k ≡ shown s.system.limits then ends.migrates
  in_turns = ap (λ (ms : List Mark). shown s.system.limits nothing_shown ms) ends.parted ∙ shown_append s.system.limits nothing_shown ends.before (ends.recalls ++ ends.migrates) ∙ shown_append s.system.limits first ends.recalls ends.migrates

  recall_none : EndsRefused turns.recall_turn → k.recall.seat.sid ≡ None
  recall_none refused =
      ap (λ (x : Shown). x.recall.seat.sid) in_turns ∙ ap (λ (x : recall.Known). x.seat.sid) (recall_same s.system.limits then ends.migrates ends.by_migrate)
      ∙ recall_away s.system.limits first ends.recalls (ends_away Recall ends.recalls turns.recall_turn ends.by_recall ends.recalled refused)

  migrate_none : EndsRefused turns.migrate_turn → k.migrate.seat.sid ≡ None
  migrate_none refused = ap (λ (x : Shown). x.migrate.seat.sid) in_turns ∙ migrate_away s.system.limits then ends.migrates (ends_away Migrate ends.migrates turns.migrate_turn ends.by_migrate ends.migrated refused)

  recall_rests : is_some s.system.recall ≡ true → EndsRefused turns.recall_turn ⊎ RecallRests k.recall.seat turns.recall_turn
  recall_rests = recall_ends h turns.recall_turn (state_of s.system.store).rights k.recall s.drives (faults_in s.system.store.history) s.system.recall turns.recall turns.held_up shows.recall

  migrate_rests : is_some s.system.migrate ≡ true → EndsRefused turns.migrate_turn ⊎ MigrateRests k.migrate.seat turns.migrate_turn
  migrate_rests = migrate_ends s.system.limits turns.migrate_turn k.migrate s.system.migrate turns.migrate shows.migrate

  module _ (g : disk.Ghosts D) (kept : IsKept g s.system.store) (working : s.system.store.files.failed ≡ false) where
    abbrev run : IsRunSeen ⊥ (superblock_of s.system.store.opened) s.system.store.opened.meta.number s.system.store.opened.held s.system.store.history
    run = run_on_any (Tells g s.system.store.files.disk) (superblock_of s.system.store.opened) s.system.store.opened.meta.number s.system.store.opened.held s.system.store.history kept.run

    at_rest : IsAtRest (running s) k (superblock_of s.system.store.opened) (just_opened s.system.store.opened.meta.number s.system.store.opened.held) s.system.store.history
    at_rest = record {
      before = from;
      recall_turn = turns.recall_turn;
      migrate_turn = turns.migrate_turn;
      history = turns.history;
      quiet = turns.quiet;
      recall = λ runs. unseated_or k.recall.seat turns.recall_turn (RecallRests k.recall.seat turns.recall_turn) recall_none (recall_rests runs);
      migrate = λ runs. unseated_or k.migrate.seat turns.migrate_turn (MigrateRests k.migrate.seat turns.migrate_turn) migrate_none (migrate_rests runs);
      waits = λ c a caller waits. ready_waits s.system.store (kept.state working) working c a waits (turns.ready c caller);
    }

    wait_rightly : AllMayWait (running s) k marks (superblock_of s.system.store.opened) (state_by (superblock_of s.system.store.opened) (first_of s) (entries_of marks))
    wait_rightly =
        subst (λ (es : List Entry). AllMayWait (running s) k marks (superblock_of s.system.store.opened) (state_by (superblock_of s.system.store.opened) (first_of s) es)) (sym shows.marked.entries)
        (settled_waits (running s) s.system.limits (superblock_of s.system.store.opened) s.system.store.opened.meta.number s.system.store.opened.held marks s.system.store.history shows.marked.entries shows.marked.served run kept.packed at_rest)

    -- ---- what was told in the turns

    abbrev behind : List Entry → State
    behind es = state_by (superblock_of s.system.store.opened) (first_of s) es

    abbrev both : List Entry
    both = turns.recall_turn ++ turns.migrate_turn

    ends_with_both : s.system.store.history ≡ from ++ both
    ends_with_both = turns.history ∙ append_assoc from turns.recall_turn turns.migrate_turn

    -- a session that was told of no more events lives
    still_lives : (sid : Sid) → Contains both (no_more sid) → lives sid (behind (entries_of marks)).sessions ≡ true
    still_lives sid there = subst (λ (es : List Entry). lives sid (behind es).sessions ≡ true) (sym shows.marked.entries) (lives_still (superblock_of s.system.store.opened) (first_of s) s.system.store.history from both run.exact ends_with_both turns.quiet sid there)

    -- nor is a message left in its queue
    still_empty : (sid : Sid) → Contains both (no_more sid) → queue_of sid (behind (entries_of marks)).sessions ≡ []
    still_empty sid there = subst (λ (es : List Entry). queue_of sid (behind es).sessions ≡ []) (sym shows.marked.entries) (empty_still (superblock_of s.system.store.opened) (first_of s) s.system.store.history from both run.exact ends_with_both turns.quiet sid there)

    in_recall_turn : (rests : RecallRests k.recall.seat turns.recall_turn) → Contains both (no_more rests.sid)
    in_recall_turn rests = Contains-append_left turns.recall_turn turns.migrate_turn (no_more rests.sid) (ends_with turns.recall_turn rests.first rests.sid rests.ends)

    in_migrate_turn : (rests : MigrateRests k.migrate.seat turns.migrate_turn) → Contains both (no_more rests.sid)
    in_migrate_turn rests = Contains-append_right turns.recall_turn turns.migrate_turn (no_more rests.sid) (ends_with turns.migrate_turn rests.first rests.sid rests.ends)

    recall_lives : (rests : RecallRests k.recall.seat turns.recall_turn) → lives rests.sid (behind (entries_of marks)).sessions ≡ true
    recall_lives rests = still_lives rests.sid (in_recall_turn rests)

    migrate_lives : (rests : MigrateRests k.migrate.seat turns.migrate_turn) → lives rests.sid (behind (entries_of marks)).sessions ≡ true
    migrate_lives rests = still_lives rests.sid (in_migrate_turn rests)

    recall_empty : (rests : RecallRests k.recall.seat turns.recall_turn) → queue_of rests.sid (behind (entries_of marks)).sessions ≡ []
    recall_empty rests = still_empty rests.sid (in_recall_turn rests)

    migrate_empty : (rests : MigrateRests k.migrate.seat turns.migrate_turn) → queue_of rests.sid (behind (entries_of marks)).sessions ≡ []
    migrate_empty rests = still_empty rests.sid (in_migrate_turn rests)

    -- with enough space the store isn't crowded
    not_crowded : HadSpace s.system.limits turns.migrate_turn → IsCrowded s.system.limits (superblock_of s.system.store.opened) (behind (entries_of marks)) → ⊥
    not_crowded had crowded =
        spacious_still (superblock_of s.system.store.opened) (first_of s) s.system.store.history from both run.exact ends_with_both turns.quiet s.system.limits had.1.0 had.0 (Contains-append_right turns.recall_turn turns.migrate_turn _ had.1.1) had.2
        (subst (λ (es : List Entry). IsCrowded s.system.limits (superblock_of s.system.store.opened) (behind es)) shows.marked.entries crowded)

    module _ (Began : Type 0) (fresh : IsFresh s ⊎ Began) (runs : is_some s.system.migrate ≡ true) (sid : Sid) (seated : IsSeated k.migrate.seat sid) (crowded : IsCrowded s.system.limits (superblock_of s.system.store.opened) (behind (entries_of marks))) where
      began_or : Began ⊎ HadSpace s.system.limits turns.migrate_turn → Began
      began_or (inl began) = began
      began_or (inr had) = absurd (not_crowded had crowded)

      began_by : EndsRefused turns.migrate_turn ⊎ ((x : Sid) → IsSeated k.migrate.seat x → Began ⊎ HadSpace s.system.limits turns.migrate_turn) → Began
      began_by (inl refused) = absurd (let wrong : None ≡ Some sid = sym (migrate_none refused) ∙ seated.session in cc)
      began_by (inr spares) = began_or (spares sid seated)

      -- a pass by `high` was due, so one has begun
      has_begun : Began
      has_begun = began_by (migrate_spares s.system.limits turns.migrate_turn k.migrate Began s.system.migrate turns.migrate shows.migrate runs fresh)

-- ---- the end of a settling

module _ {D M : Type 0} (h : drive.Ghosts M) (opened : List M) (before part : List Mark) (old s : Run D M) (was : entries_of before ≡ old.system.store.history) (shows : Shows h opened (before ++ part) s) (from : List Entry) (turns : settled.EndsQuietly from s) (ends : EndsInTurns part turns.recall_turn turns.migrate_turn) where
  abbrev whole : List Mark
  whole = before ++ part

  all_ends : EndsInTurns whole turns.recall_turn turns.migrate_turn
  all_ends = ends_later before part turns.recall_turn turns.migrate_turn ends

  abbrev known : Shown
  known = shown s.system.limits nothing_shown whole

  abbrev left : State
  left = state_by (superblock_of s.system.store.opened) (first_of s) (entries_of whole)

  module _ (g : disk.Ghosts D) (kept : IsKept g s.system.store) (working : s.system.store.files.failed ≡ false) where
    recall_has : EndsRefused turns.recall_turn ⊎ RecallRests known.recall.seat turns.recall_turn → IsAtWork Recall known left part ⊎ IsTurnedAway Recall part
    recall_has (inl refused) = inr (recall_turned_away s.system.limits before part shows.marked.served turns.recall_turn turns.migrate_turn ends refused)
    recall_has (inr rests) = inl (record { sid = rests.sid; seated = rests.seated; live = recall_lives h opened whole s shows from turns all_ends g kept working rests; empty = recall_empty h opened whole s shows from turns all_ends g kept working rests; told = recall_told part turns.recall_turn turns.migrate_turn ends rests.sid rests.first rests.ends })

    migrate_has : EndsRefused turns.migrate_turn ⊎ MigrateRests known.migrate.seat turns.migrate_turn → IsAtWork Migrate known left part ⊎ IsTurnedAway Migrate part
    migrate_has (inl refused) = inr (migrate_turned_away s.system.limits before part shows.marked.served turns.recall_turn turns.migrate_turn ends refused)
    migrate_has (inr rests) = inl (record { sid = rests.sid; seated = rests.seated; live = migrate_lives h opened whole s shows from turns all_ends g kept working rests; empty = migrate_empty h opened whole s shows from turns all_ends g kept working rests; told = migrate_told part turns.recall_turn turns.migrate_turn ends rests.sid rests.first rests.ends })

    each_works : (daemon : Daemon) → runs daemon (running s) ≡ true → IsAtWork daemon known left part ⊎ IsTurnedAway daemon part
    each_works Recall runs = recall_has (recall_rests h opened whole s shows from turns all_ends runs)
    each_works Migrate runs = migrate_has (migrate_rests h opened whole s shows from turns all_ends runs)

    module _ (settles : AllByRecursion IsOfSettling part) (fresh : StaysFresh (refreshed old) s) where
      may_or_began : IsFresh s ⊎ IsToldTable fresh.0 → IsFresh s ⊎ BeginsPass part
      may_or_began (inl may) = inl may
      may_or_began (inr told) =
          let same : entries_of part ≡ fresh.0 = marked_since before part old.system.store.history s.system.store.history fresh.0 was shows.marked.entries fresh.1 in
          inr (begins_pass s.system.limits before part shows.marked.served settles (subst IsToldTable (sym same) told))

      has_settled : IsSettledIn s before part
      has_settled = record {
        waits = wait_rightly h opened whole s shows from turns all_ends g kept working;
        works = each_works;
        spares = has_begun h opened whole s shows from turns all_ends g kept working (BeginsPass part) (may_or_began (fresh.2 (refreshed_fresh old)));
      }

-- a settling that came to rest
pub settles_rightly : {D M : Type 0} (g : disk.Ghosts D) (h : drive.Ghosts M) (May : List Entry → ℕ → Type 0) (old mid new : Run D M) → IsDoneBy h (λ given deeds. IsSettle is_quiet May given deeds × EndsMarked mid new deeds) old new
    → StaysFresh (refreshed old) new → IsKept g new.system.store → (old.system.store.files.failed ≡ false → new.system.store.files.failed ≡ false) → IsDoneBy h (λ given deeds. IsSettle is_quiet May given deeds × LeadsTo h (IsSettledIn new) old deeds) old new
settles_rightly g h May old mid new done fresh kept works =
    let ends : EndsMarked mid new done.deeds = done.part.1 in
    let settles : AllByRecursion IsOfSettling (marks_of done.deeds) = line_marks is_quiet May (given_now old) Settle done.deeds done.part.0 in
    done_so h (λ given deeds. IsSettle is_quiet May given deeds × EndsMarked mid new deeds) (λ given deeds. IsSettle is_quiet May given deeds × LeadsTo h (IsSettledIn new) old deeds) old new done (
      done.part.0,
      λ working opened marks shows. has_settled h opened marks (marks_of done.deeds) old new shows.marked.entries (done.grows opened marks shows) mid.system.store.history ends.0 ends.1 g kept (works working) settles fresh,
    )

-- what is so of the marks of any line's deeds
pub leads_by : {D M T : Type 0} (h : drive.Ghosts M) (IsPart : Given → List Deed → Type 0) (IsCut : Given → Ending → List Deed → Type 0) (IsSo : List Mark → List Mark → Type 0) (result : Result T Stop) (old new : Run D M)
    → ((before part : List Mark) → IsSo before part) → ByDeeds h (λ (done : T). IsPart) IsCut result old new → ByDeeds h (λ (done : T) given deeds. IsPart given deeds × LeadsTo h IsSo old deeds) IsCut result old new
leads_by h IsPart IsCut IsSo (Ok x) old new so done = done_so h IsPart (λ given deeds. IsPart given deeds × LeadsTo h IsSo old deeds) old new done (done.part, λ working opened marks shows. so marks (marks_of done.deeds))
leads_by h IsPart IsCut IsSo (Err why) old new so stopped = stopped
