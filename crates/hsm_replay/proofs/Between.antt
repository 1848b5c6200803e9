-- Between two lines no daemon waits, and there are as many drives as the settings say.
use Rattle.std.proofs.Common.{◌≡◌, ◌∙◌, ℕ, List, length, Option, None, Some, Result, Ok, Err, OnOk, IfErr, refl, sym, ap, subst, length-set}
use Rattle.std.specs.Option.{option_map, option_or}
use Rattle.std.specs.Prelude.{slice_set}
use Rattle.disk_model.specs.declared.device.Disk as disk
use Rattle.media_model.specs.declared.drive.Drive as drive
use Rattle.hsm_types.specs.Stubs.{entry_place}
use Rattle.hsm_types.specs.declared.daemons.Act.{Act}
use Rattle.hsm_types.specs.declared.daemons.Act.TheVariants.{Dm, Copy, Fetch, Idle}
use Rattle.hsm_types.specs.declared.daemons.Daemon.{Daemon}
use Rattle.hsm_types.specs.declared.daemons.Daemon.TheVariants.{Recall, Migrate}
use Rattle.hsm_types.specs.declared.daemons.Heard.{Heard}
use Rattle.hsm_types.specs.declared.daemons.Heard.TheVariants as heard
use Rattle.hsm_policy.specs.Settings.{Numbers}
use Rattle.hsm_core.specs.Store.{Store}
use Rattle.hsm_system.specs.Acts.{MovesOn}
use Rattle.hsm_system.specs.Awaiting.{heard_next, IsWaiting}
use Rattle.deeds.specs.Lives.{untold}
use Rattle.hsm_system.specs.Running.{Recalling, Migrating, hears_next, untold_next}
use Rattle.hsm_system.specs.Systems.{System, Waits, hearing, recall_first, migrate_first, migrate_again}
use Rattle.hsm_system.specs.declared.daemons.Next.{Next}
use Rattle.hsm_system.specs.declared.daemons.Next.TheVariants as next
use Rattle.hsm_system.specs.declared.stops.Stop.{Stop}
use Rattle.hsm_replay.specs.Acts.{Performs, Stops}
use Rattle.hsm_replay.specs.Systems.{Run, IsRun, drive_of, started, killed, refreshed}

-- ---- a daemon that runs or not

module _ {R : Type 0} (next_of : R → Next) where
  -- it runs, and waits
  abbrev WaitsIn : Option R → Type 0
  WaitsIn o = (r : R) × (o ≡ Some r) × IsWaiting (next_of r)

  none_waits : WaitsIn None → ⊥
  none_waits waits = let wrong : None ≡ Some waits.0 = waits.1 in cc wrong

  -- what hears something doesn't wait
  hears_on : (x : R) (told : Heard) → next_of x ≡ next.Hears told → WaitsIn (Some x) → ⊥
  hears_on x told hears waits =
      let is : Some x ≡ Some waits.0 = waits.1 in
      let same : x ≡ waits.0 = cc is in
      let wrong : Some told ≡ None = ap heard_next (sym hears) ∙ ap (λ (r : R). heard_next (next_of r)) same ∙ waits.2 in
      cc wrong

  mapped_waits : (f : R → R) (told : Heard) → ((x : R) → next_of (f x) ≡ next.Hears told) → (o : Option R) → WaitsIn (option_map f o) → ⊥
  mapped_waits f told hears None waits = none_waits waits
  mapped_waits f told hears (Some x) waits = hears_on (f x) told (hears x) waits

  begun_waits : (x : R) (told : Heard) → next_of x ≡ next.Hears told → (o : Option R) → (WaitsIn o → ⊥) → WaitsIn (option_or o (Some x)) → ⊥
  begun_waits x told hears None never waits = hears_on x told hears waits
  begun_waits x told hears (Some y) never waits = never waits

abbrev next_of_recall : Recalling → Next
next_of_recall r = r.next

abbrev next_of_migrate : Migrating → Next
next_of_migrate m = m.next

still_waits : (n : Next) → IsWaiting (untold_next n) → IsWaiting n
still_waits (next.Hears told) waits = let wrong : Some (untold told) ≡ None = waits in cc wrong
still_waits (next.Waits awaited) waits = refl

again_waits : (o : Option Migrating) → (WaitsIn next_of_migrate o → ⊥) → WaitsIn next_of_migrate (option_map migrate_again o) → ⊥
again_waits None never waits = none_waits next_of_migrate waits
again_waits (Some m) never waits =
    let is : Some (migrate_again m) ≡ Some waits.0 = waits.1 in
    let same : migrate_again m ≡ waits.0 = cc is in
    never (m, refl, still_waits m.next (subst (λ (x : Migrating). IsWaiting x.next) (sym same) waits.2))

-- ---- lines that no daemon acts in

module _ {D M : Type 0} where
  pub new_is_run : (store : Store D) (limits : Numbers) (drives : List M) → length drives ≡ limits.drives
      → IsRun {D = D} {M = M} (record { system = record { store = store; limits = limits; recall = None; migrate = None }; drives = drives })
  new_is_run store limits drives count = record { drives = count; recall = none_waits next_of_recall; migrate = none_waits next_of_migrate }

  pub started_is_run : (daemon : Daemon) (s : Run D M) → IsRun s → IsRun (started daemon s)
  started_is_run Recall s is = record { drives = is.drives; recall = begun_waits next_of_recall recall_first heard.Nothing refl s.system.recall is.recall; migrate = is.migrate }
  started_is_run Migrate s is = record { drives = is.drives; recall = is.recall; migrate = begun_waits next_of_migrate (migrate_first s.system.limits) heard.Nothing refl s.system.migrate is.migrate }

  pub killed_is_run : (daemon : Daemon) (s : Run D M) → IsRun s → IsRun (killed daemon s)
  killed_is_run Recall s is = record { drives = is.drives; recall = none_waits next_of_recall; migrate = is.migrate }
  killed_is_run Migrate s is = record { drives = is.drives; recall = is.recall; migrate = none_waits next_of_migrate }

  pub refreshed_is_run : (s : Run D M) → IsRun s → IsRun (refreshed s)
  refreshed_is_run s is = record { drives = is.drives; recall = is.recall; migrate = again_waits s.system.migrate is.migrate }

  -- where nothing was done
  pub same_is_run : (s : Run D M) (new : System D) → IsRun s → new ≡ s.system → IsRun (record s { system = new })
  same_is_run s new is same = subst (λ (x : System D). IsRun (record s { system = x })) (sym same) is

  -- an event leaves the daemons alone
  pub event_is_run : (s : Run D M) (new : System D) → IsRun s → new ≡ record s.system { store = new.store } → IsRun (record s { system = new })
  event_is_run s new is rest = subst (λ (x : System D). IsRun (record s { system = x })) (sym rest) (record { drives = is.drives; recall = is.recall; migrate = is.migrate })

  pub never_waits : (daemon : Daemon) (s : Run D M) → IsRun s → Waits daemon s.system → ⊥
  never_waits Recall s is = is.recall
  never_waits Migrate s is = is.migrate

-- ---- steps

module _ {D : Type 0} where
  -- the other daemon doesn't wait
  abbrev OtherHears : Daemon → System D → Type 0
  OtherHears Recall s = Waits Migrate s → ⊥
  OtherHears Migrate s = Waits Recall s → ⊥

  stored_hear : (daemon : Daemon) (s : System D) (store : Store D) → OtherHears daemon s → OtherHears daemon (record s { store = store })
  stored_hear Recall s store other = other
  stored_hear Migrate s store other = other

  -- so it is where that one has given an act
  moved_hear : (daemon : Daemon) (s : System D) (act : Act) (moved : System D) → MovesOn daemon s act moved → OtherHears daemon s → OtherHears daemon moved
  moved_hear Recall s act moved moves other = subst (λ (x : System D). OtherHears Recall x) (sym moves.6) other
  moved_hear Migrate s act moved moves other = subst (λ (x : System D). OtherHears Migrate x) (sym moves.6) other

  moved_limits : (daemon : Daemon) (s : System D) (act : Act) (moved : System D) → MovesOn daemon s act moved → moved.limits ≡ s.limits
  moved_limits Recall s act moved moves = ap (λ (x : System D). x.limits) moves.6
  moved_limits Migrate s act moved moves = ap (λ (x : System D). x.limits) moves.6

module _ {D M : Type 0} where
  -- that daemon has heard something
  hears_is_run : (daemon : Daemon) (told : Heard) (s : System D) (drives : List M) → length drives ≡ s.limits.drives → OtherHears daemon s → IsRun (record { system = hearing daemon told s; drives = drives })
  hears_is_run Recall told s drives count other = record { drives = count; recall = mapped_waits next_of_recall (hears_next told) told (λ x. refl) s.recall; migrate = other }
  hears_is_run Migrate told s drives count other = record { drives = count; recall = other; migrate = mapped_waits next_of_migrate (hears_next told) told (λ x. refl) s.migrate }

  others_hear : (daemon : Daemon) (s : Run D M) → IsRun s → OtherHears daemon s.system
  others_hear Recall s is = is.migrate
  others_hear Migrate s is = is.recall

  -- what it was to hear is lost
  pub loses_is_run : (daemon : Daemon) (s : Run D M) (new : System D) → IsRun s → new ≡ hearing daemon heard.Nothing s.system → IsRun (record s { system = new })
  loses_is_run daemon s new is loses = subst (λ (x : System D). IsRun (record s { system = x })) (sym loses) (hears_is_run daemon heard.Nothing s.system s.drives is.drives (others_hear daemon s is))

module _ {D M : Type 0} (g : disk.Ghosts D) (h : drive.Ghosts M) (daemon : Daemon) (old new : Run D M) (count : length old.drives ≡ old.system.limits.drives) (other : OtherHears daemon old.system) where
  abbrev IsSo : System D → List M → Type 0
  IsSo s drives = IsRun (record { system = s; drives = drives })

  -- where one drive was changed
  changed_is_run : (told : Heard) (number : ℕ) (after : M) → new.system ≡ hearing daemon told old.system → new.drives ≡ slice_set old.drives number after → IsRun new
  changed_is_run told number after hears drives =
      subst (λ (x : System D). IsSo x new.drives) (sym hears) (subst (λ (ds : List M). IsSo (hearing daemon told old.system) ds) (sym drives)
      (hears_is_run daemon told old.system (slice_set old.drives number after) (length-set old.drives number after ∙ count) other))

  -- where the call was made
  called_is_run : (told : Heard) (left : System D) → left ≡ record old.system { store = left.store } → new.system ≡ hearing daemon told left → new ≡ record old { system = new.system } → IsRun new
  called_is_run told left rest hears same =
      let here : IsSo (hearing daemon told (record old.system { store = left.store })) old.drives = hears_is_run daemon told (record old.system { store = left.store }) old.drives count (stored_hear daemon old.system left.store other) in
      let is : new ≡ record old { system = hearing daemon told (record old.system { store = left.store }) } = same ∙ ap (λ (x : System D). record old { system = x }) (hears ∙ ap (λ (x : System D). hearing daemon told x) rest) in
      subst (λ (x : Run D M). IsRun x) (sym is) here

  performs_is_run : (act : Act) → Performs g h daemon old act new → IsRun new
  performs_is_run (Dm sid call) performs = called_is_run (heard.Dm performs.0.0) performs.0.1 performs.0.2.made.rest performs.0.3 performs.1
  performs_is_run (Copy volume handle segment bytes) performs = changed_is_run (heard.Copied performs.0) (drive_of volume old.drives) performs.3.1 performs.2 performs.3.4
  performs_is_run (Fetch entry) performs = changed_is_run (heard.Fetched performs.0) (drive_of (entry_place entry).volume old.drives) performs.3.1 performs.2 performs.3.4
  performs_is_run Idle performs = subst (λ (x : Run D M). IsRun x) (sym performs) (hears_is_run daemon heard.Nothing old.system old.drives count other)

  stops_is_run : (act : Act) (why : Stop) → Stops g h daemon old act why new → IsRun new
  stops_is_run (Dm sid call) why stops = called_is_run heard.Nothing stops.0.0 stops.0.1.made.rest stops.0.2 stops.1
  stops_is_run (Copy volume handle segment bytes) why stops = changed_is_run heard.Nothing (drive_of volume old.drives) stops.2.1 stops.1 stops.2.4
  stops_is_run (Fetch entry) why stops = changed_is_run heard.Nothing (drive_of (entry_place entry).volume old.drives) stops.2.1 stops.1 stops.2.4
  stops_is_run Idle why stops = absurd stops

  by_result : (act : Act) (result : Result (Unit {0}) Stop) → OnOk result (Performs g h daemon old act new) → IfErr result (λ why. Stops g h daemon old act why new) → IsRun new
  by_result act (Ok tt) performs stops = performs_is_run act performs
  by_result act (Err why) performs stops = stops_is_run act why stops

module _ {D M : Type 0} where
  -- its act was performed, or stopped the run
  pub acted_is_run : (g : disk.Ghosts D) (h : drive.Ghosts M) (daemon : Daemon) (s : Run D M) (act : Act) (moved : System D) (new : Run D M) (result : Result (Unit {0}) Stop) → IsRun s → MovesOn daemon s.system act moved
      → OnOk result (Performs g h daemon (record s { system = moved }) act new) → IfErr result (λ why. Stops g h daemon (record s { system = moved }) act why new) → IsRun new
  acted_is_run g h daemon s act moved new result is moves performs stops =
      by_result g h daemon (record s { system = moved }) new (is.drives ∙ sym (ap (λ (n : Numbers). n.drives) (moved_limits daemon s.system act moved moves))) (moved_hear daemon s.system act moved moves (others_hear daemon s is)) act result performs stops
