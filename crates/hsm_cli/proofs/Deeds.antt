-- What a run on a store of the host, one in memory, and one that opened no store have done.
use Rattle.std.proofs.Common.{◌≡◌, ◌≢◌, ◌∙◌, inl, inr, ℕ, List, [], Option, None, Some, Result, Ok, Err, IfOk, IfErr, IsOk, MatchResult, refl, sym, ap, subst}
use Rattle.std.specs.Prelude.{◌⊎◌}
use Rattle.disk_model.specs.declared.refusal.OpenRefusal.{OpenRefusal}
use Rattle.disk_model.specs.declared.refusal.OpenRefusal.TheVariants as opening
use Rattle.media_model.specs.Memory.{Held, has_gives}
use Rattle.media_model.specs.Objects.{Alike, Objects}
use Rattle.media_model.specs.contracts.sure.SureDriveDrive.TheImpl as sure
use Rattle.media_model.specs.declared.drive.Drive as drive
use Rattle.hsm_types.specs.declared.stores.Superblock.{Superblock}
use Rattle.plain_model.specs.declared.entries.Entry.{Entry}
use Rattle.plain_model.specs.State.{Held as HeldFiles, just_opened, nothing_held}
use Rattle.hsm_policy.specs.Settings.{Numbers, standard}
use Rattle.command_words.specs.Commands.{Form, Format, Replay, ReplayStore, Show, ShowVolumes, Drill}
use Rattle.script_text.specs.declared.lines.Line.{Line}
use Rattle.file_store.specs.Stores.{Store, superblock_of}
use Rattle.deeds.specs.Deeds.{Deed}
use Rattle.hosts.specs.Hosts.{AreHanded}
use Rattle.hosts.specs.declared.outside.HostRefusal.{HostRefusal}
use Rattle.hosts.specs.declared.outside.HostRefusal.TheVariants.{Failed}
use Rattle.hosts.specs.declared.outside.HostRefusal.TheVariants as host
use Rattle.marked_history.specs.Marks.{Mark}
use Rattle.marked_history.specs.Settling.{EachSettles, none_run}
use Rattle.hsm_replay.specs.Marking.{marks_of}
use Rattle.hsm_replay.specs.ReadyCallers.{MayGoOnBehind}
use Rattle.hsm_replay.specs.Sealed.{SealsAreWhole, Tallies}
use Rattle.hsm_cli.specs.declared.causes.Cause.{Cause}
use Rattle.hsm_cli.specs.declared.causes.Cause.TheVariants.{ScriptRefused, WordsRefused, NotStore, Corrupt, ReadFault, WriteFault, DiskFault}
use Rattle.hsm_cli.specs.declared.causes.Cause.TheVariants.{HostFault, NoMemory}
use Rattle.hsm_cli.specs.declared.outcomes.Outcome.{Outcome}
use Rattle.hsm_cli.specs.Daemons.{IsWellServed, IsWellServedOver}
use Rattle.hsm_cli.specs.Deeds.{AreAll, AreDone, DeedsClause, DrivesInMemory, DrivesWent, HasDone, HaveGone, MayGoOnOver, RunHasDone, without_objects}
use Rattle.hsm_cli.specs.Endings.{IsBeforeReading, ScriptEnds, WritingEnds, cause_in}
use Rattle.hsm_cli.specs.Follows.{SettlesOn}
use Rattle.hsm_cli.specs.Openings.{replay_store}
use Rattle.hsm_cli.specs.Sealing.{LosesNothing}
use Rattle.hsm_cli.specs.Outcomes.{ended_with}
use Rattle.hsm_cli.specs.Statuses.{cause_of_host, cause_of_refusal}
use Rattle.hsm_cli.specs.RunObjects.{SinkTold, SourceTold}
use Rattle.hsm_cli.proofs.Daemons.{none_well}
use Rattle.hsm_cli.proofs.Doing.{idle_done, none_done, wanting}
use Rattle.hsm_cli.proofs.Drives.{handed_since}
use Rattle.hsm_cli.proofs.Following.{no_mark}
use Rattle.hsm_cli.proofs.Sealing.{right_of}

-- ---- causes that aren't those of a transcript

pub reading_ends : (HostFails DiskFails : Type 0) (source : SourceTold) (why : Cause) → ScriptEnds HostFails DiskFails source why → why ≢ WriteFault
reading_ends HostFails DiskFails source why ends is = subst (ScriptEnds HostFails DiskFails source) is ends

pub before_reading : (why : Cause) → IsBeforeReading why → why ≢ WriteFault
before_reading why before is = subst IsBeforeReading is before

pub host_other : (refusal : HostRefusal) → cause_of_host refusal ≢ WriteFault
host_other Failed is = cc
host_other host.Memory is = cc

pub open_other : (refusal : OpenRefusal) → cause_of_refusal refusal ≢ WriteFault
open_other opening.NotStore is = cc
open_other (opening.Corrupt place) is = cc
open_other opening.Disk is = cc
open_other opening.Memory is = cc

-- none came where they were refused
pub none_came : {V : Type 0} (IsSo : V → Type 0) (NoneCame : Type 0) (ready : Result V Cause) → MatchResult ready IsSo (λ why. NoneCame) → IfErr ready (λ why. NoneCame)
none_came IsSo NoneCame (Ok ds) is = tt
none_came IsSo NoneCame (Err why) is = is

-- ---- a run that opened no store

module _ {D M : Type 0} (AreTheLines : List Line → Type 0) where
  pub unopened_done : (GoSo : Outcome D M → List Deed → Type 0) (o : Outcome D M) (why : Cause) (disk : Option D) → why ≢ WriteFault → GoSo (ended_with (Some why) [] disk) [] → o ≡ ended_with (Some why) [] disk → RunHasDone standard AreTheLines (GoSo o) o
  unopened_done GoSo o why disk other goes is =
      subst (λ (x : Outcome D M). RunHasDone standard AreTheLines (GoSo x) x) (sym is)
      (none_done (AreDone (MayGoOnOver {D = D} None) (SettlesOn {D = D} None) AreTheLines (Some why)) (λ deeds. IsWellServedOver {D = D} None deeds × GoSo (ended_with (Some why) [] disk) deeds) [] refl (idle_done (MayGoOnOver {D = D} None) (SettlesOn {D = D} None) AreTheLines why other)
      (none_well _ _ _, goes))

-- ---- drives of the host

module _ {M : Type 0} (g : drive.Ghosts M) (old mid : ℕ → Objects → Type 0) (same : (v : ℕ) → Alike (old v) (mid v)) where
  pub went_since : {V : Type 0} (items : V → List M) (ready : Result V Cause) (now : List M) → IfOk ready (λ ds. AreHanded g mid standard.drives standard.volumes standard.capacity (items ds)) → IfErr ready (λ why. now ≡ [])
      → (deeds : List Deed) → MatchResult ready (λ ds. HaveGone g standard (items ds) deeds now) (λ why. deeds ≡ []) → DrivesWent g standard old now deeds
  went_since items (Ok ds) now handed none deeds gone = inr (items ds, handed_since g old mid same standard.drives standard.volumes standard.capacity (items ds) handed, gone)
  went_since items (Err why) now handed none deeds nothing = inl (none, nothing)

-- ---- drives in memory

none_lost : LosesNothing []
none_lost = record {
  aborts = λ before sid t reply rest is. absurd (no_mark before _ rest is);
  damages = λ before sid t volume object want got reply rest is. absurd (no_mark before _ rest is);
}

pub none_in_memory : DrivesInMemory standard []
none_in_memory = (inl refl, none_lost)

module _ (whole : (opened drives : List Held) (limits : Numbers) (marks : List Mark) → Tallies sure.ghosts opened drives limits marks → SealsAreWhole sure.ghosts marks) where
  pub gone_in_memory : (handed now : List Held) → AreHanded sure.ghosts without_objects standard.drives standard.volumes standard.capacity handed → (deeds : List Deed) → HaveGone sure.ghosts standard handed deeds now → DrivesInMemory standard deeds
  gone_in_memory handed now are deeds gone = (inr (now, (handed, are, gone)), right_of sure.ghosts handed now whole refl (λ d v there. has_gives d v there) (marks_of deeds) gone.tallies)

  pub went_in_memory : {V : Type 0} (items : V → List Held) (ready : Result V Cause) (now : List Held) → IfOk ready (λ ds. AreHanded sure.ghosts without_objects standard.drives standard.volumes standard.capacity (items ds))
      → (deeds : List Deed) → MatchResult ready (λ ds. HaveGone sure.ghosts standard (items ds) deeds now) (λ why. deeds ≡ []) → DrivesInMemory standard deeds
  went_in_memory items (Ok ds) now handed deeds gone = gone_in_memory (items ds) now handed deeds gone
  went_in_memory items (Err why) now handed deeds nothing = subst (DrivesInMemory standard) (sym nothing) none_in_memory

-- on a new store the same callers may go on as on one that was opened so
pub may_new : (D E : Type 0) (s : Store D) → superblock_of s ≡ replay_store → s.held ≡ nothing_held → s.meta.number ≡ 0 → MayGoOnOver (Some s) ≡ MayGoOnOver {D = E} None
may_new D E s superblock held number =
    ap (λ (x : Superblock). MayGoOnBehind x (just_opened s.meta.number s.held)) superblock ∙ ap (λ (n : ℕ). MayGoOnBehind replay_store (just_opened n s.held)) number ∙ ap (λ (x : HeldFiles). MayGoOnBehind replay_store (just_opened 0 x)) held

-- and it is well served likewise
well_new : (D E : Type 0) (s : Store D) → superblock_of s ≡ replay_store → s.held ≡ nothing_held → s.meta.number ≡ 0 → IsWellServedOver (Some s) ≡ IsWellServedOver {D = E} None
well_new D E s superblock held number =
    ap (λ (x : Superblock). IsWellServed x s.meta.number s.held) superblock ∙ ap (λ (n : ℕ). IsWellServed replay_store n s.held) number ∙ ap (λ (x : HeldFiles). IsWellServed replay_store 0 x) held

-- and settles come to the same
settles_new : (D E : Type 0) (s : Store D) → superblock_of s ≡ replay_store → s.held ≡ nothing_held → s.meta.number ≡ 0 → SettlesOn (Some s) ≡ SettlesOn {D = E} None
settles_new D E s superblock held number =
    ap (λ (x : Superblock). EachSettles standard x (just_opened s.meta.number s.held) none_run []) superblock ∙ ap (λ (n : ℕ). EachSettles standard replay_store (just_opened n s.held) none_run []) number ∙ ap (λ (x : HeldFiles). EachSettles standard replay_store (just_opened 0 x) none_run []) held

pub done_new : (D E : Type 0) (s : Store D) (AreTheLines : List Line → Type 0) (cause : Option Cause) (GoSo : List Deed → Type 0) (history : List Entry) → superblock_of s ≡ replay_store → s.held ≡ nothing_held → s.meta.number ≡ 0
    → HasDone standard (AreDone (MayGoOnOver (Some s)) (SettlesOn (Some s)) AreTheLines cause) (λ deeds. IsWellServedOver (Some s) deeds × GoSo deeds) history
    → HasDone standard (AreDone (MayGoOnOver {D = E} None) (SettlesOn {D = E} None) AreTheLines cause) (λ deeds. IsWellServedOver {D = E} None deeds × GoSo deeds) history
done_new D E s AreTheLines cause GoSo history superblock held number done =
    subst (λ (IsWell : List Deed → Type 0). HasDone standard (AreDone (MayGoOnOver {D = E} None) (SettlesOn {D = E} None) AreTheLines cause) (λ deeds. IsWell deeds × GoSo deeds) history) (well_new D E s superblock held number)
    (subst (λ (Settles : List Line → List Mark → Type 0). HasDone standard (AreDone (MayGoOnOver {D = E} None) Settles AreTheLines cause) (λ deeds. IsWellServedOver (Some s) deeds × GoSo deeds) history) (settles_new D E s superblock held number)
    (subst (λ (May : List Entry → ℕ → Type 0). HasDone standard (AreDone May (SettlesOn (Some s)) AreTheLines cause) (λ deeds. IsWellServedOver (Some s) deeds × GoSo deeds) history) (may_new D E s superblock held number) done))

-- ---- a drill

module _ (MayGo : List Entry → ℕ → Type 0) (Settles : List Line → List Mark → Type 0) (AreTheLines : List Line → Type 0) where
  all_told : {T : Type 0} (sink : SinkTold) (told : Result T Cause) (deeds : List Deed) → IfErr told (WritingEnds sink) → AreAll MayGo Settles AreTheLines deeds → AreDone MayGo Settles AreTheLines (cause_in told) deeds
  all_told sink (Ok x) deeds ends all = all
  all_told sink (Err WriteFault) deeds ends all = all
  all_told sink (Err NoMemory) deeds ends all = inr (inl all)
  all_told sink (Err (ScriptRefused line)) deeds ends all = absurd ends
  all_told sink (Err WordsRefused) deeds ends all = absurd ends
  all_told sink (Err NotStore) deeds ends all = absurd ends
  all_told sink (Err (Corrupt place)) deeds ends all = absurd ends
  all_told sink (Err ReadFault) deeds ends all = absurd ends
  all_told sink (Err DiskFault) deeds ends all = absurd ends
  all_told sink (Err HostFault) deeds ends all = absurd ends

  -- what was done is told, unless memory was wanting
  pub drill_told : {S T : Type 0} (sink : SinkTold) (ended : Result S Cause) (told : Result T Cause) (deeds : List Deed) → IfErr told (WritingEnds sink) → (cause_in told ≡ Some NoMemory) ⊎ IsOk ended → AreDone MayGo Settles AreTheLines (cause_in ended) deeds → AreDone MayGo Settles AreTheLines (cause_in told) deeds
  drill_told sink ended told deeds ends (inl memory) done = subst (λ (c : Option Cause). AreDone MayGo Settles AreTheLines c deeds) (sym memory) (wanting MayGo Settles AreTheLines (cause_in ended) deeds done)
  drill_told sink (Ok x) told deeds ends (inr is) done = all_told sink told deeds ends done
  drill_told sink (Err why) told deeds ends (inr is) done = cc

-- ---- words that run nothing

module _ (D : Type 0) {M : Type 0} (g : drive.Ghosts M) where
  pub deeds_wanting : (stores : List ℕ → ℕ → Objects → Type 0) (form : Option Form) (source : SourceTold) → DeedsClause {D = D} g stores form source (ended_with (Some NoMemory) [] None)
  deeds_wanting stores (Some Replay) source = none_done _ (λ deeds. IsWellServedOver {D = D} None deeds × DrivesInMemory standard deeds) [] refl (inl refl) (none_well _ _ _, none_in_memory)
  deeds_wanting stores (Some (ReplayStore path dir)) source = none_done _ (λ deeds. IsWellServedOver {D = D} None deeds × DrivesWent g standard (stores dir) [] deeds) [] refl (inl refl) (none_well _ _ _, inl (refl, refl))
  deeds_wanting stores (Some (Drill number)) source = none_done _ (λ deeds. IsWellServedOver {D = D} None deeds × DrivesInMemory standard deeds) [] refl (inl refl) (none_well _ _ _, none_in_memory)
  deeds_wanting stores (Some (Format path size)) source = refl
  deeds_wanting stores (Some (Show path)) source = refl
  deeds_wanting stores (Some (ShowVolumes path dir)) source = refl
  deeds_wanting stores None source = refl
