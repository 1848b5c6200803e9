-- Deeds that lead on, one list behind the other, and what drives say of what was heard.
use Rattle.std.proofs.Common.{◌≡◌, ◌∙◌, ◌+◌, ◌≤◌, ◌∷◌, ◌++◌, [], ℕ, zero, suc, true, false, List, length, get_or, drop, Option, Some, None, Ok, Err, inl, inr}
use Rattle.std.proofs.Common.{refl, sym, ap, ap₂, subst, append_assoc, append-nil, length-append, arith}
use Rattle.std.specs.Option.{option_map}
use Rattle.std.proofs.lemmas.List.{get_or_append_left}
use Rattle.std.proofs.lemmas.List.Elements.{All-append, All-from_recursion, All-nil, All-weaker}
use Rattle.media_model.specs.Objects.{Objects}
use Rattle.media_model.specs.declared.drive.Drive as drive
use Rattle.hsm_types.specs.Stubs.{entry_place}
use Rattle.hsm_types.specs.declared.daemons.Act.{Act}
use Rattle.hsm_types.specs.declared.daemons.Act.TheVariants.{Copy, Fetch}
use Rattle.hsm_types.specs.declared.daemons.Daemon.{Daemon}
use Rattle.hsm_types.specs.declared.daemons.Heard.{Heard}
use Rattle.hsm_types.specs.declared.daemons.Heard.TheVariants as heard
use Rattle.hsm_types.specs.declared.media.FetchRefusal.TheVariants as fetching
use Rattle.hsm_types.specs.declared.stubs.StubEntry.{StubEntry}
use Rattle.hsm_core.specs.Store.{Store}
use Rattle.plain_model.specs.declared.entries.Entry.{Entry}
use Rattle.deeds.specs.Deeds.{Deed, Starts, Kills, Refreshes, Hears, entries_of}
use Rattle.deeds.specs.Faults.{AddsFaults, faults_heard}
use Rattle.deeds.specs.Given.{Given, given_behind, asked_in, given_in}
use Rattle.deeds.specs.Lives.{Workings}
use Rattle.deeds.proofs.Faulting.{none_added, faults_added}
use Rattle.deeds.proofs.Giving.{given_exactly}
use Rattle.hsm_system.specs.Goes.{Goes, StillWorks, situation_of}
use Rattle.hsm_system.specs.Lives.{recalls, migrates, living_of}
use Rattle.hsm_system.specs.Systems.{System}
use Rattle.hsm_system.specs.declared.daemons.Running.{Running}
use Rattle.hsm_system.specs.declared.stops.Stop.{Stop}
use Rattle.hsm_system.specs.declared.stops.Stop.TheVariants as stop
use Rattle.hsm_system.proofs.Leading.{goes_itself, goes_then}
use Rattle.hsm_replay.specs.Deeds.{given_now, IsPayload, BearOut, IsSo, AreSo, DrivesGo, counts_of, RunsBy, WorksOn, IsDoneBy, IsStopOf, IsStoppedBy}
use Rattle.hsm_replay.specs.Drives.{HaveGrown}
use Rattle.hsm_replay.specs.Keeping.{IsMarked, Shows, GrowsBy, Ends}
use Rattle.hsm_replay.specs.Marking.{marks_of}
use Rattle.hsm_replay.specs.Stopped.{Ending, Broken, Lost, Unmade}
use Rattle.hsm_replay.specs.Systems.{Run}
use Rattle.hsm_replay.proofs.Filling.{hears_grows}
use Rattle.hsm_replay.proofs.Growing.{have_grown_itself, have_grown_on, grown_count, still_true}
use Rattle.hsm_replay.proofs.Marked.{marked_still}
use Rattle.hsm_replay.proofs.Marking.{marks_then}
use Rattle.marked_history.specs.Marks.{Mark}
use Rattle.hsm_replay.proofs.Sealing.{gave, stored_still, there_still}

-- ---- what was given last

asked_by : {R : Type 0} (w : Workings R) (o : Option (Running R)) → option_map (λ (r : Running R). w.asked r.machine) o ≡ asked_in w (option_map living_of o)
asked_by w None = refl
asked_by w (Some r) = refl

given_is : {D M : Type 0} (s : Run D M) → given_now s ≡ given_in recalls (migrates s.system.limits) (situation_of s.system)
given_is s = ap₂ (λ (recall migrate : Option Act). record { recall = recall; migrate = migrate; history = s.system.store.history }) (asked_by recalls s.system.recall) (asked_by (migrates s.system.limits) s.system.migrate)

-- ---- drives that are used

module _ {M : Type 0} (g : drive.Ghosts M) where
  pub payload_still : (ds es : List M) → HaveGrown g ds es → (entry : StubEntry) (bytes : List ℕ) → IsPayload g ds entry bytes → IsPayload g es entry bytes
  payload_still ds es grown entry bytes is = (
    there_still g (entry_place entry).volume ds es grown is.0,
    λ now given.
        let before = gave g (entry_place entry).volume ds es now grown given in
        let had = is.1 before.0 before.1 in
        let more = before.2.0 in
        let longer : length now ≡ length before.0 + length more = ap (λ (o : Objects). length o) before.2.1 ∙ length-append before.0 more in
        let same : get_or now (entry_place entry).object [] ≡ get_or before.0 (entry_place entry).object [] = ap (λ (o : Objects). get_or o (entry_place entry).object []) before.2.1 ∙ get_or_append_left before.0 more [] (entry_place entry).object had.0 in
        (omega (arith, longer, had.0), had.1 ∙ ap (λ (o : List ℕ). drop 72 o) (sym same)),
  )

  -- what drives say they go on to say
  bear_out_still : (ds es : List M) → HaveGrown g ds es → (asked : Act) (told : Heard) → BearOut g ds asked told → BearOut g es asked told
  bear_out_still ds es grown (Copy volume handle segment bytes) (heard.Copied (Ok entry)) is = stored_still g ds es grown entry is
  bear_out_still ds es grown (Copy volume handle segment bytes) (heard.Copied (Err refusal)) is = hears_grows g ds es (Copy volume handle segment bytes) (heard.Copied (Err refusal)) grown is
  bear_out_still ds es grown (Fetch entry) (heard.Fetched (Ok bytes)) is = payload_still ds es grown entry bytes is
  bear_out_still ds es grown (Fetch entry) (heard.Fetched (Err (fetching.Media fault))) is = still_true g ds es fault grown is
  bear_out_still ds es grown asked told is = tt

  so_still : (ds es : List M) → HaveGrown g ds es → (deed : Deed) → IsSo g ds deed → IsSo g es deed
  so_still ds es grown (Hears daemon asked told) is = bear_out_still ds es grown asked told is
  so_still ds es grown deed is = tt

  drives_then : (deeds more : List Deed) (a b c : List M) → DrivesGo g deeds a b → DrivesGo g more b c → DrivesGo g (deeds ++ more) a c
  drives_then [] more a b c same then = subst (λ (ds : List M). DrivesGo g more ds c) same then
  drives_then (deed ∷ deeds) more a b c first then = (first.0, first.1, drives_then deeds more first.0 b c first.2 then)

  -- counts never fall
  pub counts_grow : (ds es : List M) → HaveGrown g ds es → (number : ℕ) → counts_of g ds number ≤ counts_of g es number
  counts_grow [] [] grown number = omega arith
  counts_grow [] (e ∷ es) grown number = absurd grown
  counts_grow (d ∷ ds) [] grown number = absurd grown
  counts_grow (d ∷ ds) (e ∷ es) grown zero = grown.0.faults
  counts_grow (d ∷ ds) (e ∷ es) grown (suc number) = counts_grow ds es grown.1 number

  and_then : (marks : List Mark) (deeds more : List Deed) → (marks ++ marks_of deeds) ++ marks_of more ≡ marks ++ marks_of (deeds ++ more)
  and_then marks deeds more = append_assoc marks (marks_of deeds) (marks_of more) ∙ ap (λ (ms : List Mark). marks ++ ms) (sym (marks_then deeds more))

  module _ {D : Type 0} where
    -- ---- deeds that lead on

    -- of which the drives know nothing
    pub runs_still : (deeds : List Deed) (old new : Run D M) → Goes deeds old.system new.system → new.drives ≡ old.drives → ((ds : List M) → AreSo g ds deeds × DrivesGo g deeds ds ds) → faults_heard deeds ≡ [] → RunsBy g deeds old new
    runs_still deeds old new goes same so none =
        let grown : HaveGrown g old.drives new.drives = subst (λ (ds : List M). HaveGrown g old.drives ds) (sym same) (have_grown_itself g old.drives) in
        record { goes = goes; drives = subst (λ (ds : List M). DrivesGo g deeds old.drives ds) (sym same) (so old.drives).1; grown = grown; so = (so new.drives).0; faults = none_added (length old.drives) deeds (counts_of g old.drives) (counts_of g new.drives) none (counts_grow old.drives new.drives grown) }

    pub runs_none : (s : Run D M) → RunsBy g [] s s
    runs_none s = runs_still [] s s (goes_itself s.system) refl (λ ds. (All-nil (IsSo g ds), refl)) refl

    pub runs_then : (deeds more : List Deed) (a b c : Run D M) → RunsBy g deeds a b → RunsBy g more b c → RunsBy g (deeds ++ more) a c
    runs_then deeds more a b c first then = record {
      goes = goes_then deeds more a.system b.system c.system first.goes then.goes;
      drives = drives_then deeds more a.drives b.drives c.drives first.drives then.drives;
      grown = have_grown_on g a.drives b.drives c.drives first.grown then.grown;
      so = All-append (IsSo g c.drives) deeds more (All-weaker (IsSo g b.drives) (IsSo g c.drives) (so_still b.drives c.drives then.grown) deeds first.so) then.so;
      faults = faults_added (length a.drives) deeds more (counts_of g a.drives) (counts_of g b.drives) (counts_of g c.drives) first.faults
          (subst (λ (n : ℕ). AddsFaults n more (counts_of g b.drives) (counts_of g c.drives)) (grown_count g a.drives b.drives first.grown) then.faults);
    }

    -- what was given last is told by them
    pub given_runs : (deeds : List Deed) (old new : Run D M) → RunsBy g deeds old new → given_now new ≡ given_behind deeds (given_now old)
    given_runs deeds old new runs = given_is new ∙ given_exactly recalls (migrates old.system.limits) deeds (situation_of old.system) (situation_of new.system) runs.goes.leads ∙ ap (given_behind deeds) (sym (given_is old))

    works_then : (a b c : Store D) → WorksOn g a b → WorksOn g b c → WorksOn g a c
    works_then a b c (inl same) (inl again) = inl (again ∙ same)
    works_then a b c (inl same) (inr works) = inr (subst (λ (s : Store D). StillWorks s c) same works)
    works_then a b c (inr works) (inl again) = inr (subst (λ (s : Store D). StillWorks a s) (sym again) works)
    works_then a b c (inr works) (inr still) = inr (works.0, still.1)

    stops_then : (why : Stop) (ending : Ending) (a b c : Store D) → WorksOn g a b → IsStopOf g why ending b c → IsStopOf g why ending a c
    stops_then why ending a b c (inl same) stops = subst (λ (s : Store D). IsStopOf g why ending s c) same stops
    stops_then stop.Disk Broken a b c (inr works) stops = (works.0, stops.1)
    stops_then stop.Disk Unmade a b c (inr works) closed = let wrong : true ≡ false = sym closed.0 ∙ works.1 in cc wrong
    stops_then stop.Disk Lost a b c (inr works) stops = stops
    stops_then stop.Memory Broken a b c (inr works) stops = stops
    stops_then stop.Memory Unmade a b c (inr works) stops = (works.0, stops.1)
    stops_then stop.Memory Lost a b c (inr works) stops = works_then a b c (inr works) stops

    -- ---- what marked histories show

    pub grows_none : (s : Run D M) → GrowsBy g [] s s
    grows_none s opened marks shows = subst (λ (ms : List Mark). Shows g opened ms s) (sym (append-nil marks)) shows

    grows_then : (deeds more : List Deed) (a b c : Run D M) → GrowsBy g deeds a b → GrowsBy g more b c → GrowsBy g (deeds ++ more) a c
    grows_then deeds more a b c first then opened marks shows = subst (λ (ms : List Mark). Shows g opened ms c) (and_then marks deeds more) (then opened (marks ++ marks_of deeds) (first opened marks shows))

    ends_then : (deeds more : List Deed) (a b c : Run D M) → GrowsBy g deeds a b → Ends g more b c → Ends g (deeds ++ more) a c
    ends_then deeds more a b c first then opened marks shows = subst (λ (ms : List Mark). IsMarked g opened ms c) (and_then marks deeds more) (then opened (marks ++ marks_of deeds) (first opened marks shows))

    -- deeds without an entry
    pub ends_still : (deeds : List Deed) (old new : Run D M) → marks_of deeds ≡ [] → entries_of deeds ≡ [] → RunsBy g deeds old new → Ends g deeds old new
    ends_still deeds old new unmarked none runs opened marks shows =
        let same : new.system.store.history ≡ old.system.store.history = runs.goes.leads.entries ∙ ap (λ (es : List Entry). old.system.store.history ++ es) none ∙ append-nil old.system.store.history in
        subst (λ (ms : List Mark). IsMarked g opened (marks ++ ms) new) (sym unmarked) (marked_still g opened marks old new shows.marked runs.goes.limits same runs.grown)

    -- ---- what one call does

    -- nothing
    pub done_none : (IsPart : Given → List Deed → Type 0) (s : Run D M) → IsPart (given_now s) [] → IsDoneBy g IsPart s s
    done_none IsPart s part = record { deeds = []; part = part; runs = runs_none s; grows = grows_none s; works = inl refl }

    -- one call behind another
    pub done_then : (IsFirst IsNext IsBoth : Given → List Deed → Type 0) (a b c : Run D M)
        → ((deeds more : List Deed) → IsFirst (given_now a) deeds → IsNext (given_behind deeds (given_now a)) more → IsBoth (given_now a) (deeds ++ more))
        → IsDoneBy g IsFirst a b → IsDoneBy g IsNext b c → IsDoneBy g IsBoth a c
    done_then IsFirst IsNext IsBoth a b c join first then = record {
      deeds = first.deeds ++ then.deeds;
      part = join first.deeds then.deeds first.part (subst (λ (given : Given). IsNext given then.deeds) (given_runs first.deeds a b first.runs) then.part);
      runs = runs_then first.deeds then.deeds a b c first.runs then.runs;
      grows = grows_then first.deeds then.deeds a b c first.grows then.grows;
      works = works_then a.system.store b.system.store c.system.store first.works then.works;
    }

    -- the later one was stopped
    pub stopped_then : (IsFirst : Given → List Deed → Type 0) (IsCut IsBoth : Given → Ending → List Deed → Type 0) (why : Stop) (a b c : Run D M)
        → ((ending : Ending) (deeds last : List Deed) → IsFirst (given_now a) deeds → IsCut (given_behind deeds (given_now a)) ending last → IsBoth (given_now a) ending (deeds ++ last))
        → IsDoneBy g IsFirst a b → IsStoppedBy g IsCut why b c → IsStoppedBy g IsBoth why a c
    stopped_then IsFirst IsCut IsBoth why a b c join first then = record {
      ending = then.ending;
      deeds = first.deeds ++ then.deeds;
      cut = join then.ending first.deeds then.deeds first.part (subst (λ (given : Given). IsCut given then.ending then.deeds) (given_runs first.deeds a b first.runs) then.cut);
      runs = runs_then first.deeds then.deeds a b c first.runs then.runs;
      ends = ends_then first.deeds then.deeds a b c first.grows then.ends;
      stops = stops_then why then.ending a.system.store b.system.store c.system.store first.works then.stops;
    }

    -- the same deeds are of another kind, too
    pub done_so : (IsPart IsOther : Given → List Deed → Type 0) (a b : Run D M) (done : IsDoneBy g IsPart a b) → IsOther (given_now a) done.deeds → IsDoneBy g IsOther a b
    done_so IsPart IsOther a b done is = record { deeds = done.deeds; part = is; runs = done.runs; grows = done.grows; works = done.works }

    pub done_as : (IsPart IsOther : Given → List Deed → Type 0) (a b : Run D M) → ((deeds : List Deed) → IsPart (given_now a) deeds → IsOther (given_now a) deeds) → IsDoneBy g IsPart a b → IsDoneBy g IsOther a b
    done_as IsPart IsOther a b alike done = done_so IsPart IsOther a b done (alike done.deeds done.part)

    pub stopped_as : (IsCut IsOther : Given → Ending → List Deed → Type 0) (why : Stop) (a b : Run D M) → ((ending : Ending) (deeds : List Deed) → IsCut (given_now a) ending deeds → IsOther (given_now a) ending deeds) → IsStoppedBy g IsCut why a b → IsStoppedBy g IsOther why a b
    stopped_as IsCut IsOther why a b alike stopped = record { ending = stopped.ending; deeds = stopped.deeds; cut = alike stopped.ending stopped.deeds stopped.cut; runs = stopped.runs; ends = stopped.ends; stops = stopped.stops }

    -- what is so of what was given last behind them
    pub done_to : (IsPart : Given → List Deed → Type 0) (IsLeft : Given → Type 0) (a b : Run D M) → IsLeft (given_now b) → IsDoneBy g IsPart a b → IsDoneBy g (λ given deeds. IsPart given deeds × IsLeft (given_behind deeds given)) a b
    done_to IsPart IsLeft a b is done = done_so IsPart (λ given deeds. IsPart given deeds × IsLeft (given_behind deeds given)) a b done (done.part, subst IsLeft (given_runs done.deeds a b done.runs) is)

-- ---- starts, kills, refreshes

module _ {D M : Type 0} (g : drive.Ghosts M) where
  -- the system alone has changed so
  alone_by : (deeds : List Deed) → ((ds : List M) → AreSo g ds deeds × DrivesGo g deeds ds ds) → faults_heard deeds ≡ [] → (inside old : Run D M) → inside ≡ old → (new : System D) → Goes deeds inside.system new → RunsBy g deeds old (record inside { system = new })
  alone_by deeds so none inside old same new goes = subst (λ (s : Run D M). RunsBy g deeds s (record inside { system = new })) same (runs_still g deeds inside (record inside { system = new }) goes refl so none)

  pub started_by : (daemon : Daemon) (inside old : Run D M) → inside ≡ old → (new : System D) → Goes (Starts daemon ∷ []) inside.system new → RunsBy g (Starts daemon ∷ []) old (record inside { system = new })
  started_by daemon = alone_by (Starts daemon ∷ []) (λ ds. (All-from_recursion (IsSo g ds) (Starts daemon ∷ []) (tt, tt), (ds, refl, refl))) refl

  pub killed_by : (daemon : Daemon) (inside old : Run D M) → inside ≡ old → (new : System D) → Goes (Kills daemon ∷ []) inside.system new → RunsBy g (Kills daemon ∷ []) old (record inside { system = new })
  killed_by daemon = alone_by (Kills daemon ∷ []) (λ ds. (All-from_recursion (IsSo g ds) (Kills daemon ∷ []) (tt, tt), (ds, refl, refl))) refl

  pub refreshed_by : (inside old : Run D M) → inside ≡ old → (new : System D) → Goes (Refreshes ∷ []) inside.system new → RunsBy g (Refreshes ∷ []) old (record inside { system = new })
  refreshed_by = alone_by (Refreshes ∷ []) (λ ds. (All-from_recursion (IsSo g ds) (Refreshes ∷ []) (tt, tt), (ds, refl, refl))) refl
