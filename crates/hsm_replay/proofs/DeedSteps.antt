-- The deeds of a step.
use Rattle.std.proofs.Common.{◌≡◌, ◌∙◌, ◌≤◌, ◌%◌, ◌∷◌, [], ℕ, Bool, true, false, List, length}
use Rattle.std.proofs.Common.{Option, Some, None, option_map, Result, Ok, Err, OnOk, IfErr, inl, inr}
use Rattle.std.proofs.Common.{refl, sym, ap, subst, arith}
use Rattle.std.specs.Option.{unwrap_or}
use Rattle.std.specs.Prelude.{slice_get, slice_set, ◌==◌}
use Rattle.std.proofs.lemmas.Bool.{eqb-true, eqb-false}
use Rattle.std.proofs.lemmas.List.Elements.{All-from_recursion}
use Rattle.disk_model.specs.declared.device.Disk as disk
use Rattle.media_model.specs.Objects.{Alike}
use Rattle.media_model.specs.declared.drive.Drive as drive
use Rattle.hsm_types.specs.Limits.{segment_bytes}
use Rattle.hsm_types.specs.Stubs.{print_of, entry_place}
use Rattle.hsm_types.specs.declared.daemons.Act.{Act}
use Rattle.hsm_types.specs.declared.daemons.Act.TheVariants.{Dm, Copy, Fetch, Idle}
use Rattle.hsm_types.specs.declared.daemons.Daemon.{Daemon}
use Rattle.hsm_types.specs.declared.daemons.Daemon.TheVariants.{Recall, Migrate}
use Rattle.hsm_types.specs.declared.daemons.Heard.{Heard}
use Rattle.hsm_types.specs.declared.daemons.Heard.TheVariants as heard
use Rattle.hsm_types.specs.declared.dm.DmCall.{DmCall}
use Rattle.hsm_types.specs.declared.keys.Handle.{Handle}
use Rattle.hsm_types.specs.declared.keys.Sid.{Sid}
use Rattle.hsm_types.specs.declared.media.CopyRefusal.{CopyRefusal}
use Rattle.hsm_types.specs.declared.media.CopyRefusal.TheVariants as copying
use Rattle.hsm_types.specs.declared.media.Fault.TheVariants.{Failed, Damaged}
use Rattle.hsm_types.specs.declared.media.FetchRefusal.{FetchRefusal}
use Rattle.hsm_types.specs.declared.media.FetchRefusal.TheVariants as fetching
use Rattle.hsm_types.specs.declared.stubs.StubEntry.{StubEntry}
use Rattle.plain_model.specs.declared.entries.Action.TheVariants as action
use Rattle.plain_model.specs.declared.entries.Actor.TheVariants.{Session}
use Rattle.plain_model.specs.declared.entries.Answer.TheVariants as answer
use Rattle.hsm_core.specs.Store.{Store}
use Rattle.deeds.specs.Deeds.{Deed, Gives, Hears, Breaks, Loses, Fits}
use Rattle.deeds.specs.Faults.{AddsFaults, Rises, fault_told, faults_heard}
use Rattle.deeds.specs.Given.{given_of}
use Rattle.deeds.proofs.Faulting.{fault_added, none_added}
use Rattle.hsm_system.specs.Acts.{MovesOn}
use Rattle.hsm_system.specs.Awaiting as awaiting
use Rattle.hsm_system.specs.Goes.{Goes, EndsIn, HasClosed, StillWorks, WasClosed}
use Rattle.hsm_system.specs.Systems.{System, Awaits, IsDown, hearing}
use Rattle.hsm_system.specs.declared.awaited.Outcome.{Outcome}
use Rattle.hsm_system.specs.declared.awaited.Outcome.TheVariants as outcome
use Rattle.hsm_system.specs.Running.{Migrating, Recalling}
use Rattle.hsm_system.specs.declared.stops.Stop.{Stop}
use Rattle.hsm_system.specs.declared.stops.Stop.TheVariants as stop
use Rattle.hsm_system.proofs.AfterEvents.{event_goes}
use Rattle.hsm_system.proofs.Leading.{goes_then, gives_goes, gives_awaits, answered_hears, stops_goes, taken_goes, loses_goes, awaits_runs, heard_store}
use Rattle.hsm_system.proofs.Outcomes.{outcome_fits}
use Rattle.hsm_replay.specs.Acts.{Performs, Stops, CopiesTo, FetchesFrom}
use Rattle.hsm_replay.specs.Deeds.{given_now, IsPayload, BearOut, IsSo, AreSo, DriveGoes, DrivesGo, IsLeft}
use Rattle.hsm_replay.specs.Deeds.{counts_of, RunsBy, WorksOn, IsDoneBy, IsStopOf, IsStoppedBy, ByDeeds}
use Rattle.hsm_replay.specs.Drives.{HaveGrown}
use Rattle.hsm_replay.specs.Keeping.{GrowsBy, Ends}
use Rattle.hsm_replay.specs.Parts.{IsStep, IsStepFrom}
use Rattle.hsm_replay.specs.Steps.{Steps, Halts}
use Rattle.hsm_replay.specs.Stopped.{Ending, Broken, Lost, Unmade, IsOnDrive, IsStepCut, IsStepCutFrom, IsActCut}
use Rattle.hsm_replay.specs.Systems.{Run, drive_of}
use Rattle.hsm_replay.proofs.Deeds.{counts_grow, payload_still, runs_still, ends_still, done_none}
use Rattle.hsm_replay.proofs.Fetching.{heard_of_fetch, set_there}
use Rattle.hsm_replay.proofs.Filling.{full_of_copy}
use Rattle.hsm_replay.proofs.Growing.{have_grown_itself, grown_at, reads_grow, grows_grow}
use Rattle.hsm_replay.proofs.Moves.{moved_store, act_grows, call_ends}
use Rattle.hsm_replay.proofs.OnDrives.{copy_so, fetch_so}
use Rattle.hsm_replay.proofs.Sealing.{heard_of_copy}

-- ---- what a daemon gave last

last_of : {R : Type 0} (asked : R → Act) (o : Option R) → (o ≡ None → ⊥) → (last : Act) × (option_map asked o ≡ Some last)
last_of asked None runs = absurd (runs refl)
last_of asked (Some r) runs = (asked r, refl)

module _ {D M : Type 0} where
  down_given : (daemon : Daemon) (s : Run D M) → IsDown daemon s.system → given_of daemon (given_now s) ≡ None
  down_given Recall s down = ap (λ (o : Option Recalling). option_map (λ (r : Recalling). r.machine.asked) o) down
  down_given Migrate s down = ap (λ (o : Option Migrating). option_map (λ (m : Migrating). m.machine.asked) o) down

  runs_given : (daemon : Daemon) (s : Run D M) → (IsDown daemon s.system → ⊥) → (last : Act) × (given_of daemon (given_now s) ≡ Some last)
  runs_given Recall s runs = let last = last_of (λ (r : Recalling). r.machine.asked) s.system.recall runs in (last.0, last.1)
  runs_given Migrate s runs = let last = last_of (λ (m : Migrating). m.machine.asked) s.system.migrate runs in (last.0, last.1)

module _ {D : Type 0} where
  moved_runs : (daemon : Daemon) (old : System D) (asked : Act) (moved : System D) → MovesOn daemon old asked moved → IsDown daemon old → ⊥
  moved_runs Recall old asked moved moves down = let wrong : Some moves.0 ≡ None = sym moves.3 ∙ down in cc wrong
  moved_runs Migrate old asked moved moves down = let wrong : Some moves.0 ≡ None = sym moves.3 ∙ down in cc wrong

  -- a copy is of one segment, and migration's
  copy_short : (daemon : Daemon) (old : System D) (volume : ℕ) (handle : Handle) (segment : ℕ) (bytes : List ℕ) (moved : System D) → MovesOn daemon old (Copy volume handle segment bytes) moved → length bytes ≤ segment_bytes
  copy_short Recall old volume handle segment bytes moved moves = absurd moves.5.may
  copy_short Migrate old volume handle segment bytes moved moves = moves.5.may.2.5

-- ---- one drive

module _ {M : Type 0} (h : drive.Ghosts M) (ds : List M) (volume : ℕ) (d e : M) (at : slice_get ds (drive_of volume ds) ≡ Some d) where
  abbrev left : List M
  left = slice_set ds (drive_of volume ds) e

  counts_before : counts_of h ds (drive_of volume ds) ≡ h.fault_count d
  counts_before = ap (λ (o : Option M). unwrap_or (option_map h.fault_count o) 0) at

  counts_behind : counts_of h left (drive_of volume ds) ≡ h.fault_count e
  counts_behind = ap (λ (o : Option M). unwrap_or (option_map h.fault_count o) 0) (set_there (drive_of volume ds) ds d e at)

-- what a fetch is told of rises
module _ {M : Type 0} (h : drive.Ghosts M) (ds : List M) (entry : StubEntry) (d e : M) (at : slice_get ds (drive_of (entry_place entry).volume ds) ≡ Some d) where
  fetch_rises : (fetched : Result (List ℕ) FetchRefusal) → FetchesFrom h entry fetched d e → HaveGrown h ds (left h ds (entry_place entry).volume d e at)
      → Rises (length ds) (Fetch entry) (heard.Fetched fetched) (counts_of h ds) (counts_of h (left h ds (entry_place entry).volume d e at))
  fetch_rises fetched fetches grown = record { grows = counts_grow h ds (left h ds (entry_place entry).volume d e at) grown; rose = λ volume object before after some. by fetched fetches volume object before after some }
    where
      by : (fetched : Result (List ℕ) FetchRefusal) → FetchesFrom h entry fetched d e → (volume object before after : ℕ) → fault_told (Fetch entry) (heard.Fetched fetched) ≡ Some (Failed volume object before after)
          → (counts_of h ds (volume % length ds) ≤ before) × (after ≤ counts_of h (left h ds (entry_place entry).volume d e at) (volume % length ds))
      by (Ok bytes) fetches volume object before after some = let wrong : None ≡ Some (Failed volume object before after) = some in cc wrong
      by (Err (fetching.NoObject v o)) fetches volume object before after some = let wrong : None ≡ Some (Failed volume object before after) = some in cc wrong
      by (Err fetching.Memory) fetches volume object before after some = let wrong : None ≡ Some (Failed volume object before after) = some in cc wrong
      by (Err (fetching.Media (Damaged v o want got))) fetches volume object before after some = let wrong : Some (Damaged v o want got) ≡ Some (Failed volume object before after) = some in cc wrong
      by (Err (fetching.Media (Failed v o b a))) fetches volume object before after some =
          let both : Some (Failed v o b a) ≡ Some (Failed volume object before after) = some in
          let on : volume ≡ (entry_place entry).volume = (let same : v ≡ volume = cc both in sym same ∙ fetches.0.0) in
          let began : before ≡ h.fault_count d = (let same : b ≡ before = cc both in sym same ∙ fetches.0.2) in
          let ended : after ≡ h.fault_count e = (let same : a ≡ after = cc both in sym same ∙ fetches.0.3) in
          let first : counts_of h ds (volume % length ds) ≡ h.fault_count d = ap (λ (n : ℕ). counts_of h ds (n % length ds)) on ∙ counts_before h ds (entry_place entry).volume d e at in
          let last : counts_of h (left h ds (entry_place entry).volume d e at) (volume % length ds) ≡ h.fault_count e = ap (λ (n : ℕ). counts_of h (left h ds (entry_place entry).volume d e at) (n % length ds)) on ∙ counts_behind h ds (entry_place entry).volume d e at in
          (omega (arith, began, first), omega (arith, ended, last))

  fetched_payload : (bytes : List ℕ) → FetchesFrom h entry (Ok bytes) d e → IsPayload h ds entry bytes
  fetched_payload bytes fetches = (
    (d, at, fetches.0.there),
    λ o gives.
        let same : d ≡ gives.0 = (let both : Some d ≡ Some gives.0 = sym at ∙ gives.1 in cc both) in
        fetches.0.given o (subst (λ (x : M). h.gives x (entry_place entry).volume o) (sym same) gives.2),
  )

  fetch_bears : (fetched : Result (List ℕ) FetchRefusal) → FetchesFrom h entry fetched d e → HaveGrown h ds (left h ds (entry_place entry).volume d e at) → BearOut h (left h ds (entry_place entry).volume d e at) (Fetch entry) (heard.Fetched fetched)
  fetch_bears (Ok bytes) fetches grown = payload_still h ds (left h ds (entry_place entry).volume d e at) grown entry bytes (fetched_payload bytes fetches)
  fetch_bears (Err (fetching.Media fault)) fetches grown = (heard_of_fetch h ds entry d e at [] tt (Err (fetching.Media fault)) fetches).1
  fetch_bears (Err (fetching.NoObject v o)) fetches grown = tt
  fetch_bears (Err fetching.Memory) fetches grown = tt

module _ {M : Type 0} (h : drive.Ghosts M) (law : h.sure ≡ true → (d : M) → h.fault_count d ≡ 0) (ds : List M) (volume : ℕ) (handle : Handle) (segment : ℕ) (bytes : List ℕ) (short : length bytes ≤ segment_bytes) (d e : M) (at : slice_get ds (drive_of volume ds) ≡ Some d) where
  copy_bears : (copied : Result StubEntry CopyRefusal) → CopiesTo h volume handle segment bytes copied d e → BearOut h (left h ds volume d e at) (Copy volume handle segment bytes) (heard.Copied copied)
  copy_bears (Ok entry) copies = heard_of_copy h ds volume segment handle bytes d e at (Ok entry) copies
  copy_bears (Err refusal) copies = full_of_copy h law ds volume segment handle bytes short d e at (Err refusal) copies

-- a copy that lacked memory leaves its drive
copy_leaves : {M : Type 0} (h : drive.Ghosts M) (volume : ℕ) (handle : Handle) (segment : ℕ) (bytes : List ℕ) (d e : M) → CopiesTo h volume handle segment bytes (Err copying.Memory) d e → IsLeft h d e
copy_leaves h volume handle segment bytes d e copies = (record { same = λ v. by v (v == volume) refl; volumes = copies.1.volumes; faults = copies.1.faults }, copies.2 (λ failed. failed))
  where
    by : (v : ℕ) (b : Bool) → (v == volume) ≡ b → Alike (h.gives d v) (h.gives e v)
    by v true is = let at : v ≡ volume = eqb-true v volume is in subst (λ (w : ℕ). Alike (h.gives d w) (h.gives e w)) (sym at) copies.0
    by v false is = copies.1.others v (eqb-false v volume is)

-- ---- an act that was given

module _ {D M : Type 0} (g : disk.Ghosts D) (h : drive.Ghosts M) (law : h.sure ≡ true → (d : M) → h.fault_count d ≡ 0) (daemon : Daemon) (old : Run D M) where
  -- the deeds of two drives' lists, of which no fault is heard
  runs_used : (deeds : List Deed) (new : Run D M) → Goes deeds old.system new.system → HaveGrown h old.drives new.drives → AreSo h new.drives deeds → DrivesGo h deeds old.drives new.drives → faults_heard deeds ≡ [] → RunsBy h deeds old new
  runs_used deeds new goes grown so drives none = record { goes = goes; drives = drives; grown = grown; so = so; faults = none_added (length old.drives) deeds (counts_of h old.drives) (counts_of h new.drives) none (counts_grow h old.drives new.drives grown) }

  still_grown : (new : Run D M) → new.drives ≡ old.drives → HaveGrown h old.drives new.drives
  still_grown new same = subst (λ (ds : List M). HaveGrown h old.drives ds) (sym same) (have_grown_itself h old.drives)

  module _ (asked : Act) (moved : System D) (moves : MovesOn daemon old.system asked moved) (new : Run D M) where
    awaits : Awaits daemon asked moved
    awaits = gives_awaits daemon asked old.system moved moves

    behind : (deed : Deed) → Goes (deed ∷ []) moved new.system → Goes (Gives daemon asked ∷ deed ∷ []) old.system new.system
    behind deed goes = goes_then (Gives daemon asked ∷ []) (deed ∷ []) old.system moved new.system (gives_goes daemon asked old.system moved moves) goes

    none_so : (ds : List M) (deed : Deed) → IsSo h ds deed → AreSo h ds (Gives daemon asked ∷ deed ∷ [])
    none_so ds deed is = All-from_recursion (IsSo h ds) (Gives daemon asked ∷ deed ∷ []) (tt, (is, tt))

    -- what of it was heard
    pub record IsTaken : Type 0 where
      pub told : Heard
      pub fits : Fits asked told
      pub runs : RunsBy h (Gives daemon asked ∷ Hears daemon asked told ∷ []) old new
      pub grows : GrowsBy h (Gives daemon asked ∷ Hears daemon asked told ∷ []) old new
      pub works : WorksOn h old.system.store new.system.store

    left_store : (told : Heard) (s : System D) → new.system ≡ hearing daemon told s → new.system.store ≡ s.store
    left_store told s is = ap (λ (x : System D). x.store) is ∙ heard_store daemon told s

    -- it was performed outside
    module _ (came : Outcome) (same : awaiting.awaited_of asked ≡ awaiting.awaited_by came) (so : awaiting.IsSo came) (is : new.system ≡ hearing daemon (awaiting.heard_of came) moved) where
      outside_fits : Fits asked (awaiting.heard_of came)
      outside_fits = (outcome_fits asked came same so).0

      outside_goes : Goes (Gives daemon asked ∷ Hears daemon asked (awaiting.heard_of came) ∷ []) old.system new.system
      outside_goes = behind (Hears daemon asked (awaiting.heard_of came)) (taken_goes daemon asked came moved new.system awaits same so is)

      outside_works : WorksOn h old.system.store new.system.store
      outside_works = inl (left_store (awaiting.heard_of came) moved is ∙ moved_store daemon old.system asked moved moves)

    -- what a call leaves of the store
    still_works : (kept : Store D) → new.system.store ≡ kept → StillWorks moved.store kept → StillWorks old.system.store new.system.store
    still_works kept same works = (ap (λ (s : Store D). s.files.failed) (sym (moved_store daemon old.system asked moved moves)) ∙ works.0, ap (λ (s : Store D). s.files.failed) same ∙ works.1)

  taken : (asked : Act) (moved : System D) (moves : MovesOn daemon old.system asked moved) (new : Run D M) → Performs g h daemon (record old { system = moved }) asked new → IsTaken asked moved moves new
  taken (Dm sid call) moved moves new performs =
      let asked : Act = Dm sid call in
      let told : Heard = heard.Dm performs.0.0 in
      let serves = performs.0.2 in
      let left : System D = performs.0.1 in
      let goes = behind asked moved moves new (Hears daemon asked told) (answered_hears g daemon sid call moved new.system (awaits asked moved moves new) performs.0) in
      let worked : moved.store.files.failed ≡ false = ((event_goes g moved.store (Session sid) (action.Dm call) (answer.Dm performs.0.0) left.store serves.made.told).quiet serves.still).0 in
      record {
        told = told;
        fits = (serves.served stop.Disk, serves.served stop.Memory);
        runs = runs_still h (Gives daemon asked ∷ Hears daemon asked told ∷ []) old new goes (ap (λ (s : Run D M). s.drives) performs.1) (λ ds. (none_so asked moved moves new ds (Hears daemon asked told) tt, (ds, refl, (ds, refl, refl)))) refl;
        grows = act_grows g h old daemon asked moved moves new performs;
        works = inr (still_works asked moved moves new left.store (left_store asked moved moves new told left performs.0.3) (worked, serves.still));
      }
  taken (Copy volume handle segment bytes) moved moves new performs =
      let asked : Act = Copy volume handle segment bytes in
      let on = performs.3 in
      let came : Outcome = outcome.Copied volume handle segment (print_of bytes) performs.0 in
      let so : awaiting.IsSo came = copy_so h on.0 on.1 volume handle segment bytes performs.0 on.3 performs.1 in
      let grown : HaveGrown h old.drives (left h old.drives volume on.0 on.1 on.2) = grown_at h (drive_of volume old.drives) old.drives on.0 on.1 on.2 (grows_grow h volume on.0 on.1 on.3.1) in
      let bears : BearOut h (left h old.drives volume on.0 on.1 on.2) asked (heard.Copied performs.0) = copy_bears h law old.drives volume handle segment bytes (copy_short daemon old.system volume handle segment bytes moved moves) on.0 on.1 on.2 performs.0 on.3 in
      record {
        told = heard.Copied performs.0;
        fits = outside_fits asked moved moves new came refl so performs.2;
        runs = runs_used (Gives daemon asked ∷ Hears daemon asked (heard.Copied performs.0) ∷ []) new
            (outside_goes asked moved moves new came refl so performs.2)
            (subst (λ (ds : List M). HaveGrown h old.drives ds) (sym on.4) grown)
            (none_so asked moved moves new new.drives (Hears daemon asked (heard.Copied performs.0)) (subst (λ (ds : List M). BearOut h ds asked (heard.Copied performs.0)) (sym on.4) bears))
            (old.drives, refl, (new.drives, on, refl)) refl;
        grows = act_grows g h old daemon asked moved moves new performs;
        works = outside_works asked moved moves new came refl so performs.2;
      }
  taken (Fetch entry) moved moves new performs =
      let asked : Act = Fetch entry in
      let on = performs.3 in
      let came : Outcome = outcome.Fetched entry performs.0 in
      let now : List M = left h old.drives (entry_place entry).volume on.0 on.1 on.2 in
      let so : awaiting.IsSo came = fetch_so h on.0 on.1 entry performs.0 on.3 performs.1 in
      let grown : HaveGrown h old.drives now = grown_at h (drive_of (entry_place entry).volume old.drives) old.drives on.0 on.1 on.2 (reads_grow h on.0 on.1 on.3.1) in
      let deeds : List Deed = Gives daemon asked ∷ Hears daemon asked (heard.Fetched performs.0) ∷ [] in
      let faults : AddsFaults (length old.drives) deeds (counts_of h old.drives) (counts_of h now) = fault_added (length old.drives) daemon asked (heard.Fetched performs.0) (counts_of h old.drives) (counts_of h now) (fetch_rises h old.drives entry on.0 on.1 on.2 performs.0 on.3 grown) in
      record {
        told = heard.Fetched performs.0;
        fits = outside_fits asked moved moves new came refl so performs.2;
        runs = record {
          goes = outside_goes asked moved moves new came refl so performs.2;
          drives = (old.drives, refl, (new.drives, on, refl));
          grown = subst (λ (ds : List M). HaveGrown h old.drives ds) (sym on.4) grown;
          so = none_so asked moved moves new new.drives (Hears daemon asked (heard.Fetched performs.0)) (subst (λ (ds : List M). BearOut h ds asked (heard.Fetched performs.0)) (sym on.4) (fetch_bears h old.drives entry on.0 on.1 on.2 performs.0 on.3 grown));
          faults = subst (λ (ds : List M). AddsFaults (length old.drives) deeds (counts_of h old.drives) (counts_of h ds)) (sym on.4) faults;
        };
        grows = act_grows g h old daemon asked moved moves new performs;
        works = outside_works asked moved moves new came refl so performs.2;
      }
  taken Idle moved moves new performs =
      let is : new.system ≡ hearing daemon heard.Nothing moved = ap (λ (s : Run D M). s.system) performs in
      record {
        told = heard.Nothing;
        fits = tt;
        runs = runs_still h (Gives daemon Idle ∷ Hears daemon Idle heard.Nothing ∷ []) old new (outside_goes Idle moved moves new outcome.Rested refl tt is) (ap (λ (s : Run D M). s.drives) performs) (λ ds. (none_so Idle moved moves new ds (Hears daemon Idle heard.Nothing) tt, (ds, refl, (ds, refl, refl)))) refl;
        grows = act_grows g h old daemon Idle moved moves new performs;
        works = outside_works Idle moved moves new outcome.Rested refl tt is;
      }

  -- ---- an act that stopped the run

  -- what was done of it
  abbrev IsCutShort : Stop → Run D M → Type 0
  IsCutShort why new = (ending : Ending) × (deeds : List Deed) × IsActCut daemon ending deeds × RunsBy h deeds old new × Ends h deeds old new × IsStopOf h why ending old.system.store new.system.store

  module _ (asked : Act) (moved : System D) (moves : MovesOn daemon old.system asked moved) (new : Run D M) where
    -- what it was to hear is lost, and its drive was left
    lost_runs : Goes (Loses daemon ∷ []) moved new.system → HaveGrown h old.drives new.drives → DriveGoes h (Loses daemon) old.drives new.drives → RunsBy h (Gives daemon asked ∷ Loses daemon ∷ []) old new
    lost_runs goes grown left = runs_used (Gives daemon asked ∷ Loses daemon ∷ []) new (behind asked moved moves new (Loses daemon) goes) grown (none_so asked moved moves new new.drives (Loses daemon) tt) (old.drives, refl, (new.drives, left, refl)) refl

    -- so the run was stopped
    lost : (why : Stop) (ending : Ending) → IsActCut daemon ending (Gives daemon asked ∷ Loses daemon ∷ []) → RunsBy h (Gives daemon asked ∷ Loses daemon ∷ []) old new → IsStopOf h why ending old.system.store new.system.store → IsCutShort why new
    lost why ending cut runs stops = (ending, Gives daemon asked ∷ Loses daemon ∷ [], cut, runs, ends_still h (Gives daemon asked ∷ Loses daemon ∷ []) old new refl refl runs, stops)

    -- for want of memory, by a copy or a fetch
    lacked : (why : Stop) → IsOnDrive asked → why ≡ stop.Memory → new.system ≡ hearing daemon heard.Nothing moved → HaveGrown h old.drives new.drives → DriveGoes h (Loses daemon) old.drives new.drives → IsCutShort why new
    lacked why on is left grown alike =
        let same : new.system.store ≡ old.system.store = left_store asked moved moves new heard.Nothing moved left ∙ moved_store daemon old.system asked moved moves in
        let stops : IsStopOf h stop.Memory Lost old.system.store new.system.store = inl same in
        lost why Lost (inr (asked, on, refl)) (lost_runs (loses_goes daemon moved new.system moved.store left refl (awaits_runs daemon asked moved (awaits asked moved moves new))) grown alike)
        (subst (λ (w : Stop). IsStopOf h w Lost old.system.store new.system.store) (sym is) stops)

  call_cut : (sid : Sid) (call : DmCall) (moved : System D) (moves : MovesOn daemon old.system (Dm sid call) moved) (why : Stop) (new : Run D M) → Stops g h daemon (record old { system = moved }) (Dm sid call) why new → EndsIn daemon sid call why moved new.system → IsCutShort why new
  call_cut sid call moved moves stop.Disk new stops (inl broke) =
      let asked : Act = Dm sid call in
      let deeds : List Deed = Gives daemon asked ∷ Breaks daemon sid call ∷ [] in
      let runs : RunsBy h deeds old new = runs_still h deeds old new (behind asked moved moves new (Breaks daemon sid call) broke.0) (ap (λ (s : Run D M). s.drives) stops.1) (λ ds. (none_so asked moved moves new ds (Breaks daemon sid call) tt, (ds, refl, (ds, refl, refl)))) refl in (
        Broken,
        deeds,
        (sid, call, refl),
        runs,
        call_ends g h old daemon sid call moved moves stop.Disk new stops runs.goes.leads.entries,
        subst (λ (s : Store D). HasClosed s new.system.store) (moved_store daemon old.system asked moved moves) broke.1,
      )
  call_cut sid call moved moves stop.Disk new stops (inr closed) =
      let same : new.drives ≡ old.drives = ap (λ (s : Run D M). s.drives) stops.1 in
      lost (Dm sid call) moved moves new stop.Disk Unmade (sid, call, refl) (lost_runs (Dm sid call) moved moves new closed.0 (still_grown new same) (inl same))
      (subst (λ (s : Store D). WasClosed s new.system.store) (moved_store daemon old.system (Dm sid call) moved moves) closed.1)
  call_cut sid call moved moves stop.Memory new stops ended =
      let same : new.drives ≡ old.drives = ap (λ (s : Run D M). s.drives) stops.1 in
      lost (Dm sid call) moved moves new stop.Memory Unmade (sid, call, refl) (lost_runs (Dm sid call) moved moves new ended.0 (still_grown new same) (inl same))
      (subst (λ (s : Store D). StillWorks s new.system.store) (moved_store daemon old.system (Dm sid call) moved moves) ended.1)

  cut_short : (asked : Act) (moved : System D) (moves : MovesOn daemon old.system asked moved) (why : Stop) (new : Run D M) → Stops g h daemon (record old { system = moved }) asked why new → IsCutShort why new
  cut_short (Dm sid call) moved moves why new stops =
      call_cut sid call moved moves why new stops (stops_goes g daemon sid call moved new.system (awaits (Dm sid call) moved moves new) why stops.0)
  cut_short (Copy volume handle segment bytes) moved moves why new stops =
      let on = stops.2 in
      lacked (Copy volume handle segment bytes) moved moves new why tt stops.0 stops.1
      (subst (λ (ds : List M). HaveGrown h old.drives ds) (sym on.4) (grown_at h (drive_of volume old.drives) old.drives on.0 on.1 on.2 (grows_grow h volume on.0 on.1 on.3.1)))
      (inr (volume, (on.0, on.1, on.2, copy_leaves h volume handle segment bytes on.0 on.1 on.3, on.4)))
  cut_short (Fetch entry) moved moves why new stops =
      let on = stops.2 in
      lacked (Fetch entry) moved moves new why tt stops.0 stops.1
      (subst (λ (ds : List M). HaveGrown h old.drives ds) (sym on.4) (grown_at h (drive_of (entry_place entry).volume old.drives) old.drives on.0 on.1 on.2 (reads_grow h on.0 on.1 on.3.1)))
      (inr ((entry_place entry).volume, (on.0, on.1, on.2, (on.3.1, on.3.2 (λ failed. failed)), on.4)))
  cut_short Idle moved moves why new stops = absurd stops

  -- ---- a step

  step_done : (new : Run D M) → Steps g h daemon old new → IsDoneBy h (IsStep daemon) old new
  step_done new (inl down) = subst (λ (s : Run D M). IsDoneBy h (IsStep daemon) old s) (sym down.1)
      (done_none h (IsStep daemon) old (subst (λ (o : Option Act). IsStepFrom daemon o []) (sym (down_given daemon old down.0)) refl))
  step_done new (inr acts) =
      let is = taken acts.act acts.moved acts.moves new acts.performs in
      let last = runs_given daemon old (moved_runs daemon old.system acts.act acts.moved acts.moves) in
      record {
        deeds = Gives daemon acts.act ∷ Hears daemon acts.act is.told ∷ [];
        part = subst (λ (o : Option Act). IsStepFrom daemon o (Gives daemon acts.act ∷ Hears daemon acts.act is.told ∷ [])) (sym last.1) (record { asked = acts.act; told = is.told }, is.fits, refl);
        runs = is.runs;
        grows = is.grows;
        works = is.works;
      }

  -- of one that runs
  stopped_of : (why : Stop) (new : Run D M) → (IsDown daemon old.system → ⊥) → IsCutShort why new → IsStoppedBy h (IsStepCut daemon) why old new
  stopped_of why new runs is =
      let last = runs_given daemon old runs in
      record { ending = is.0; deeds = is.1; cut = subst (λ (o : Option Act). IsStepCutFrom daemon o is.0 is.1) (sym last.1) is.2; runs = is.3; ends = is.4; stops = is.5 }

  step_stopped : (why : Stop) (new : Run D M) → Halts g h daemon old why new → IsStoppedBy h (IsStepCut daemon) why old new
  step_stopped why new (inl lacks) =
      let same : new.system.store ≡ old.system.store = ap (λ (s : System D). s.store) lacks.0.loses ∙ heard_store daemon heard.Nothing old.system in
      let runs : RunsBy h (Loses daemon ∷ []) old new = runs_still h (Loses daemon ∷ []) old new (loses_goes daemon old.system new.system old.system.store lacks.0.loses refl lacks.0.runs) (ap (λ (s : Run D M). s.drives) lacks.1) (λ ds. (All-from_recursion (IsSo h ds) (Loses daemon ∷ []) (tt, tt), (ds, inl refl, refl))) refl in
      stopped_of why new lacks.0.runs (
        Lost,
        Loses daemon ∷ [],
        inl refl,
        runs,
        ends_still h (Loses daemon ∷ []) old new refl refl runs,
        subst (λ (w : Stop). IsStopOf h w Lost old.system.store new.system.store) (sym lacks.0.lacks) (inl same),
      )
  step_stopped why new (inr stopped) = stopped_of why new (moved_runs daemon old.system stopped.act stopped.moved stopped.moves) (cut_short stopped.act stopped.moved stopped.moves why new stopped.stops)

  pub step_by_deeds : (result : Result (Unit {0}) Stop) (new : Run D M) → OnOk result (Steps g h daemon old new) → IfErr result (λ why. Halts g h daemon old why new) → ByDeeds h (λ (done : Unit {0}). IsStep daemon) (IsStepCut daemon) result old new
  step_by_deeds (Ok tt) new steps halts = step_done new steps
  step_by_deeds (Err why) new steps halts = step_stopped why new halts
