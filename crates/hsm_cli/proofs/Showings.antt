-- A store that is shown: what is told of it, and how that ends.
use Rattle.std.proofs.Common.{◌≡◌, ◌≢◌, ◌⊎◌, inl, inr, ℕ, ◌%◌, List, [], ◌∷◌, length, Option, Some, None, IfSome, IsSome, Result, Ok, Err, IfErr}
use Rattle.std.proofs.Common.{refl, sym, ◌∙◌, subst, arith}
use Rattle.std.specs.Prelude.{slice_get, IsErrOf}
use Rattle.disk_model.specs.declared.device.Disk as disk
use Rattle.disk_model.specs.declared.refusal.OpenRefusal.{OpenRefusal}
use Rattle.disk_model.specs.declared.refusal.OpenRefusal.TheVariants as opening
use Rattle.disk_model.specs.Calls.{Rose, raised}
use Rattle.disk_model.specs.Images.{Alike}
use Rattle.disk_model.specs.Moments.{Keeps, Same}
use Rattle.media_model.specs.declared.drive.Drive as drive
use Rattle.media_model.specs.Objects.{Objects}
use Rattle.command_words.specs.Commands.{Form, Show, ShowVolumes}
use Rattle.commit_slots.specs.Images.{IsStore}
use Rattle.meta_store.specs.Images.{IsCorruptAt}
use Rattle.hsm_types.specs.declared.tables.Table.{Table}
use Rattle.store_summary.specs.declared.summaries.ClassCounts.{ClassCounts}
use Rattle.store_summary.specs.declared.summaries.Summary.{Summary}
use Rattle.hsm_core.specs.Summaries.{IsSummary}
use Rattle.reconcile.specs.Classes.{Tells, AreRead, FailsAt, ClassesRefused}
use Rattle.reconcile.specs.declared.refusals.ReconcileRefusal.{ReconcileRefusal}
use Rattle.reconcile.specs.declared.refusals.ReconcileRefusal.TheVariants as counting
use Rattle.hsm_cli.specs.declared.causes.Cause.{Cause}
use Rattle.hsm_cli.specs.declared.causes.Cause.TheVariants.{ScriptRefused, WordsRefused, NotStore, Corrupt, ReadFault, WriteFault, DiskFault}
use Rattle.hsm_cli.specs.declared.causes.Cause.TheVariants.{HostFault, NoMemory}
use Rattle.hosts.specs.declared.outside.HostRefusal.{HostRefusal}
use Rattle.hosts.specs.declared.outside.HostRefusal.TheVariants as handing
use Rattle.hsm_cli.specs.declared.outcomes.Outcome.{Outcome}
use Rattle.hsm_cli.specs.Statuses.{status_of, place_of, cause_of_refusal, cause_of_host, cause_of_classes}
use Rattle.hsm_cli.specs.Texts.{TakesText, IsShown, shown_volumes, AreCounted, GivesVolume}
use Rattle.hsm_cli.specs.RunObjects.{SourceTold, SinkTold, HostTold}
use Rattle.hosts.specs.Hosts.{IsHanded, AreHanded, StoresNothing, StoresOthers}
use Rattle.hsm_cli.specs.Endings.{cause_in, WritingEnds, ShowEnds, CountingEnds}
use Rattle.hsm_cli.specs.Clauses.{Why, HasFailed, HasDriveFailed, FindsNothing, TellsStore, HoldsStore, WritesText, ReadsStore, NamesDisk, CanEnd}
use Rattle.hsm_cli.specs.Clauses.{IsOnlyRead, HandsDrives, AreShown, GivesShown, AsksShown, LacksShown, StatusClause}
use Rattle.hsm_cli.proofs.ByCause.{written_by, counted_by, shown_by}
use Rattle.meta_store.proofs.HeldImages.{image_store, not_corrupt}
use Rattle.hsm_cli.proofs.Completeness.{came_not}

-- ---- texts

-- a text that is so is so in another way
pub takes_as : (A B : List ℕ → Type 0) (sink : SinkTold) (cause : Option Cause) → ((text : List ℕ) → A text → B text) → TakesText A sink cause → TakesText B sink cause
takes_as A B sink None so took = (took.0, so took.0 took.1, took.2, took.3)
takes_as A B sink (Some WriteFault) so took = (took.0, so took.0 took.1, took.2, took.3)
takes_as A B sink (Some (ScriptRefused line)) so took = took
takes_as A B sink (Some WordsRefused) so took = took
takes_as A B sink (Some NotStore) so took = took
takes_as A B sink (Some (Corrupt place)) so took = took
takes_as A B sink (Some ReadFault) so took = took
takes_as A B sink (Some DiskFault) so took = took
takes_as A B sink (Some HostFault) so took = took
takes_as A B sink (Some NoMemory) so took = took

-- images that were held are given
pub shown_of : (A : Table → Option ClassCounts → Type 0) (given held : List ℕ → Type 0) (text : List ℕ) → ((c : List ℕ) → held c → given c) → IsShown given A text → IsShown held A text
shown_of A given held text gives shown = record { summary = shown.summary; told = λ c is. shown.told c (gives c is); shows = shown.shows }

-- ---- where it ends

module _ (held : List ℕ → Type 0) (HostFails DiskFails : Type 0) (sink : SinkTold) where
  -- the store couldn't be read
  pub ends_unread : (refusal : OpenRefusal) → (refusal ≡ opening.NotStore → (c : List ℕ) → held c → (geometry fsid : ℕ) → IsStore geometry fsid c → ⊥) → ((place : ℕ) → refusal ≡ opening.Corrupt place → (c : List ℕ) → held c → IsCorruptAt place c)
      → (refusal ≡ opening.Disk → DiskFails) → ShowEnds held HostFails DiskFails sink (Some (cause_of_refusal refusal))
  ends_unread opening.NotStore not_store corrupt fails = not_store refl
  ends_unread (opening.Corrupt place) not_store corrupt fails = corrupt place refl
  ends_unread opening.Disk not_store corrupt fails = fails refl
  ends_unread opening.Memory not_store corrupt fails = tt

  -- no disk came, or no drives
  pub ends_unhanded : (refusal : HostRefusal) → (refusal ≡ handing.Failed → HostFails) → ShowEnds held HostFails DiskFails sink (Some (cause_of_host refusal))
  ends_unhanded handing.Failed fails = fails refl
  ends_unhanded handing.Memory fails = tt

  -- it was read, and its classes were to be counted
  pub ends_counted : {T : Type 0} (DriveFails : Type 0) (ended : Result T Cause) → (DriveFails → HostFails) → IfErr ended (CountingEnds DriveFails sink) → ShowEnds held HostFails DiskFails sink (cause_in ended)
  ends_counted DriveFails ended by ends = counted_by (ShowEnds held HostFails DiskFails sink) DriveFails sink ended tt (λ rose. rose) by tt ends

-- what ends it so ends it in another way
pub ends_as : (given held : List ℕ → Type 0) (HostFails DiskFails Hosts Disks : Type 0) (sink : SinkTold) (cause : Option Cause) → ((c : List ℕ) → held c → given c) → (HostFails → Hosts) → (DiskFails → Disks) → ShowEnds given HostFails DiskFails sink cause → ShowEnds held Hosts Disks sink cause
ends_as given held HostFails DiskFails Hosts Disks sink cause gives by_host by_disk ends =
    shown_by given HostFails DiskFails sink (ShowEnds held Hosts Disks sink) cause tt (λ not_store c is. not_store c (gives c is)) (λ place corrupt c is. corrupt c (gives c is)) (λ rose. rose) by_disk by_host tt ends

-- why classes weren't counted
pub ends_uncounted : {M : Type 0} (g : drive.Ghosts M) (volumes : ℕ) (old new : List M) (sink : SinkTold) (refusal : ReconcileRefusal) → ClassesRefused g volumes old new refusal → CountingEnds ((volume : ℕ) × FailsAt g volume old new) sink (cause_of_classes refusal)
ends_uncounted g volumes old new sink (counting.Failed volume) refused = (volume, refused.1)
ends_uncounted g volumes old new sink counting.Memory refused = tt

-- they were, and then the text was to be written
pub counting_written : {T : Type 0} (DriveFails : Type 0) (sink : SinkTold) (ended : Result T Cause) → IfErr ended (WritingEnds sink) → IfErr ended (CountingEnds DriveFails sink)
counting_written DriveFails sink (Ok x) ends = tt
counting_written DriveFails sink (Err why) ends = written_by (λ c. IfSome c (CountingEnds DriveFails sink)) sink (Some why) tt (λ rose. rose) tt ends

-- ---- what comes back

-- the disk was only read
pub only_read : {D : Type 0} (g : disk.Ghosts D) (held : List ℕ → Type 0) (cause : Option Cause) (handed disk : D) → IsHanded g held handed → Keeps g handed disk Same → Alike (g.gives handed) (g.gives disk)
    → (cause ≢ Some DiskFault → g.fault_count disk ≡ g.fault_count handed) → IsOnlyRead g held cause disk
only_read g held cause handed disk by_host keeps gives quiet = record { handed = handed; by_host = by_host; keeps = keeps; gives = gives; quiet = λ works. quiet works ∙ by_host.counted }

-- a store that couldn't be read isn't told as a fault of the host, and as one of its disk only where that failed
pub unread_is_no_host : (refusal : OpenRefusal) → Some (cause_of_refusal refusal) ≢ Some HostFault
unread_is_no_host opening.NotStore is = cc
unread_is_no_host (opening.Corrupt place) is = cc
unread_is_no_host opening.Disk is = cc
unread_is_no_host opening.Memory is = cc

pub unopened_quiet : (refusal : OpenRefusal) → Some (cause_of_refusal refusal) ≢ Some DiskFault → refusal ≢ opening.Disk
unopened_quiet opening.NotStore works is = cc
unopened_quiet (opening.Corrupt place) works is = cc
unopened_quiet opening.Disk works is = works refl
unopened_quiet opening.Memory works is = cc

pub unread_quiet : {T : Type 0} (refusal : OpenRefusal) → Some (cause_of_refusal refusal) ≢ Some DiskFault → IsErrOf {T = T} (Err refusal) opening.Disk → ⊥
unread_quiet opening.NotStore works is = cc
unread_quiet (opening.Corrupt place) works is = cc
unread_quiet opening.Disk works is = works refl
unread_quiet opening.Memory works is = cc

module _ {D M : Type 0} (g : drive.Ghosts M) (stored : ℕ → Objects → Type 0) (disk : D) where
  -- they came, and were read
  pub gives_counted : {T : Type 0} (DriveFails : Type 0) (sink : SinkTold) (ended : Result T Cause) (drives : List M) → AreShown g stored drives → IfErr ended (CountingEnds DriveFails sink) → GivesShown g stored (Some disk) (cause_in ended) drives
  gives_counted DriveFails sink ended drives shown ends = counted_by (λ cause. GivesShown g stored (Some disk) cause drives) DriveFails sink ended shown (λ rose. shown) (λ failed. inr shown) (inr shown) ends

-- how often they were asked for
module _ {D : Type 0} (disk : D) (old new : ℕ) where
  pub asks_counted : {T : Type 0} (DriveFails : Type 0) (sink : SinkTold) (ended : Result T Cause) → new ≡ raised old → IfErr ended (CountingEnds DriveFails sink) → AsksShown (Some disk) (cause_in ended) old new
  asks_counted DriveFails sink ended is ends = counted_by (λ cause. AsksShown (Some disk) cause old new) DriveFails sink ended is (λ rose. is) (λ failed. is) (inr is) ends

-- a fault of the host is that of a drive
pub drive_failed : {T : Type 0} (DriveFails : Type 0) (sink : SinkTold) (ended : Result T Cause) → IfErr ended (CountingEnds DriveFails sink) → cause_in ended ≡ Some HostFault → DriveFails
drive_failed DriveFails sink ended ends = counted_by (λ cause. cause ≡ Some HostFault → DriveFails) DriveFails sink ended (λ is. absurd cc) (λ rose is. absurd cc) (λ failed is. failed) (λ is. absurd cc) ends

module _ {M : Type 0} (g : drive.Ghosts M) where
  -- as many drives as came are given back
  pub as_many_read : (dir : List ℕ) (old new : List ℕ → ℕ → Objects → Type 0) (handed given : List M) → AreRead g handed given → HandsDrives dir old new handed → HandsDrives dir old new given
  as_many_read dir old new [] [] read hands = hands
  as_many_read dir old new [] (d ∷ ds) read hands = absurd read
  as_many_read dir old new (d ∷ ds) [] read hands = absurd read
  as_many_read dir old new (d ∷ ds) (e ∷ es) read hands = hands

  -- where some came the host has no objects in their folder any more
  pub some_came : (dir : List ℕ) (old new : List ℕ → ℕ → Objects → Type 0) (handed : List M) → length handed ≡ 2 → StoresNothing (new dir) → StoresOthers dir old new → HandsDrives dir old new handed
  some_came dir old new [] count gone others = let wrong : ⊥ = omega (arith, count) in absurd wrong
  some_came dir old new (d ∷ ds) count gone others = (gone, others)

  gives_told : (v : ℕ) (o : Objects) (found : Option M) → IfSome found (λ d. g.gives d v o) → IfSome found (λ d. Tells g d v o)
  gives_told v o None there = tt
  gives_told v o (Some d) there = inl there

  -- classes by what drives give are those by what the host had, as they were handed out of it
  pub counted_of : (stored : ℕ → Objects → Type 0) (capacity : ℕ) (handed : List M) → AreHanded g stored 2 shown_volumes capacity handed → (table : Table) (classes : Option ClassCounts) → AreCounted (GivesVolume g handed) table classes → AreCounted stored table classes
  counted_of stored capacity handed h table classes counted = record {
    counts = counted.counts;
    told = counted.told;
    are = λ objects is. counted.are objects (λ v within. subst (λ (n : ℕ). IfSome (slice_get handed (v % n)) (λ d. Tells g d v (objects v))) (sym h.count) (gives_told v (objects v) (slice_get handed (v % 2)) (h.there v (objects v) within (is v within))));
    each = counted.each;
  }

-- ---- when each status comes

-- recovery finds a store on an image that is told of
pub is_found : (image : List ℕ) (summary : Summary) → IsSummary summary image → FindsNothing image → ⊥
is_found image summary told nothing = nothing told.geometry told.fsid summary.number told.held told.found

-- an image on which recovery finds nothing isn't told of
pub not_found : (held : List ℕ → Type 0) (A : Table → Option ClassCounts → Type 0) (image : List ℕ) → held image → FindsNothing image → (text : List ℕ) → IsShown held A text → ⊥
not_found held A image is nothing text shown = is_found image shown.summary (shown.told image is) nothing

module _ (held : List ℕ → Type 0) (HostFails DiskFails : Type 0) (sink : SinkTold) (cause : Option Cause) (ends : ShowEnds held HostFails DiskFails sink cause) where
  words_shown : cause ≡ Some WordsRefused → ⊥
  words_shown is = subst (ShowEnds held HostFails DiskFails sink) is ends

  can_end_shown : (form : Option Form) → WritesText form → ReadsStore form → NamesDisk form → CanEnd form cause
  can_end_shown form writes reads names = shown_by held HostFails DiskFails sink (CanEnd form) cause tt (λ not_store. reads) (λ place corrupt. reads) (λ rose. writes) (λ failed. names) (λ failed. names) tt ends

  -- where nothing fails and there is a store
  complete_shown : HoldsStore held → ¬ HostFails → ¬ DiskFails → ¬ (Rose sink.before sink.now) → (cause ≡ None) ⊎ (cause ≡ Some NoMemory)
  complete_shown holds host_works disk_works sink_works =
      shown_by held HostFails DiskFails sink (λ c. (c ≡ None) ⊎ (c ≡ Some NoMemory)) cause (inl refl) (λ not_store. absurd (not_store holds.0 holds.1 holds.6.catalog.geometry holds.3 (image_store holds.6.is)))
      (λ place corrupt. absurd (not_corrupt holds.6.is place (corrupt holds.0 holds.1))) (λ rose. absurd (sink_works rose)) (λ failed. absurd (disk_works failed)) (λ failed. absurd (host_works failed)) (inr refl) ends

  refused_shown : (A : Table → Option ClassCounts → Type 0) (image : List ℕ) → held image → FindsNothing image → TakesText (IsShown held A) sink cause → cause ≢ Some HostFault → ¬ DiskFails → TellsStore cause ⊎ (cause ≡ Some NoMemory)
  refused_shown A image is nothing took no_host disk_works =
      shown_by held HostFails DiskFails sink (λ c. TakesText (IsShown held A) sink c → c ≢ Some HostFault → TellsStore c ⊎ (c ≡ Some NoMemory)) cause (λ took no_host. absurd (not_found held A image is nothing took.0 took.1)) (λ not_store took no_host. inl tt) (λ place corrupt took no_host. inl tt)
      (λ rose took no_host. absurd (not_found held A image is nothing took.0 took.1)) (λ failed. absurd (disk_works failed)) (λ failed took no_host. absurd (no_host refl)) (λ took no_host. inr refl) ends took no_host

why_shown : {D : Type 0} (g : disk.Ghosts D) (held : List ℕ → Type 0) (HostFails : Type 0) (source : SourceTold) (sink : SinkTold) (disk : Option D) (cause : Option Cause) → ShowEnds held HostFails (HasFailed g disk) sink cause → Why g held HostFails source sink disk cause
why_shown g held HostFails source sink disk cause ends = shown_by held HostFails (HasFailed g disk) sink (Why g held HostFails source sink disk) cause tt (λ not_store. not_store) (λ place corrupt. corrupt) (λ rose. rose) (λ failed. failed) (λ failed. failed) tt ends

module _ {D M : Type 0} (g : disk.Ghosts D) (h : drive.Ghosts M) (holds : List ℕ → List ℕ → Type 0) (source : SourceTold) (sink : SinkTold) (host : HostTold) (o : Outcome D M)
    (told : (o.status ≡ status_of o.cause) × (o.at ≡ place_of o.cause)) (new : (o.opening ≡ None) × (o.base ≡ 0)) (path : List ℕ) (A : Table → Option ClassCounts → Type 0) (took : TakesText (IsShown (holds path) A) sink o.cause)
    (back : o.disk ≡ None → (o.cause ≡ Some HostFault) ⊎ (o.cause ≡ Some NoMemory)) where
  pub status_show : (o.cause ≡ Some HostFault → o.disk ≡ None) → ShowEnds (holds path) (Rose host.before host.now) (HasFailed g o.disk) sink o.cause → StatusClause g h (Some (Show path)) holds source sink host o
  status_show lent ends = record {
    status = told.0;
    place = told.1;
    base = rw new.0 new.1;
    words = λ is. absurd (words_shown (holds path) (Rose host.before host.now) (HasFailed g o.disk) sink o.cause ends is);
    no_words = λ is. absurd cc;
    why = why_shown g (holds path) (Rose host.before host.now) source sink o.disk o.cause ends;
    forms = can_end_shown (holds path) (Rose host.before host.now) (HasFailed g o.disk) sink o.cause ends (Some (Show path)) tt tt tt;
    begun = λ opens. absurd opens;
    lent = λ is. inl (lent is);
    back = λ names. back;
    opened = rw new.0 tt;
    refused = λ image is nothing came disk_works. refused_shown (holds path) (Rose host.before host.now) (HasFailed g o.disk) sink o.cause ends A image is nothing took (λ is. came_not o.disk (lent is) came) disk_works;
    complete = λ store script works. complete_shown (holds path) (Rose host.before host.now) (HasFailed g o.disk) sink o.cause ends store works.host_works works.disk_works works.sink_works;
  }

  abbrev Fails : Type 0
  Fails = Rose host.before host.now ⊎ HasDriveFailed h o.drives

  pub status_volumes : (dir : List ℕ) → (o.cause ≡ Some HostFault → LacksShown h o) → ((image : List ℕ) → holds path image → FindsNothing image → IsSome o.disk → o.cause ≢ Some HostFault) → ShowEnds (holds path) Fails (HasFailed g o.disk) sink o.cause → StatusClause g h (Some (ShowVolumes path dir)) holds source sink host o
  status_volumes dir lent first ends = record {
    status = told.0;
    place = told.1;
    base = rw new.0 new.1;
    words = λ is. absurd (words_shown (holds path) Fails (HasFailed g o.disk) sink o.cause ends is);
    no_words = λ is. absurd cc;
    why = why_shown g (holds path) Fails source sink o.disk o.cause ends;
    forms = can_end_shown (holds path) Fails (HasFailed g o.disk) sink o.cause ends (Some (ShowVolumes path dir)) tt tt tt;
    begun = λ opens. absurd opens;
    lent = lent;
    back = λ names. back;
    opened = rw new.0 tt;
    refused = λ image is nothing came disk_works. refused_shown (holds path) Fails (HasFailed g o.disk) sink o.cause ends A image is nothing took (first image is nothing came) disk_works;
    complete = λ store script works. complete_shown (holds path) Fails (HasFailed g o.disk) sink o.cause ends store works.host_works works.disk_works works.sink_works;
  }
