-- Faults of media in a run.
use Rattle.std.proofs.Common.{◌≡◌, ◌∙◌, ◌++◌, ◌∷◌, ◌<◌, ℕ, zero, suc, List, [], length, Some, IfSome, Result, Ok, Err, IfOk, OnErr, MatchResult, sym}
use Rattle.std.proofs.Common.{ap, subst, mod-lt, arith}
use Rattle.std.specs.List.{AllByRecursion}
use Rattle.std.specs.Prelude.{slice_get}
use Rattle.media_model.specs.declared.drive.Drive as drive
use Rattle.hsm_types.specs.declared.media.Fault.{Fault}
use Rattle.hsm_types.specs.declared.media.Fault.TheVariants.{Failed, Damaged}
use Rattle.hsm_types.specs.declared.stores.Superblock.{Superblock}
use Rattle.plain_model.specs.declared.entries.Entry.{Entry}
use Rattle.plain_model.specs.Laws.{IsRunSeen}
use Rattle.plain_model.specs.State.{Held, State, nothing_held, just_opened}
use Rattle.plain_model.proofs.AnyDisk.{run_on_any}
use Rattle.file_store.specs.Stores.{Store, superblock_of}
use Rattle.disk_model.specs.declared.device.Disk as disk
use Rattle.disk_model.specs.Moments.{Tells}
use Rattle.hsm_core.specs.Kept.{IsKept}
use Rattle.hsm_core.specs.Packed.{ArePacked}
use Rattle.hsm_core.specs.Store.{Store as HsmStore}
use Rattle.hsm_policy.specs.Settings.{Numbers, standard}
use Rattle.marked_history.specs.Caused.{Caused}
use Rattle.deeds.specs.Deeds.{Deed, entries_of}
use Rattle.deeds.specs.Leads.{Served}
use Rattle.deed_laws.specs.Caused.{ServedIsCaused}
use Rattle.hsm_system.specs.Events.{HasGrown}
use Rattle.hsm_system.specs.Lives.{recalls, migrates}
use Rattle.hsm_replay.specs.Drives.{HaveGrown}
use Rattle.hsm_replay.specs.Faults.{faults_in, TellsFault, IsTrue, AreTrue}
use Rattle.hsm_replay.proofs.Growing.{grown_count}
use Rattle.hsm_cli.specs.declared.causes.Cause.{Cause}
use Rattle.hsm_cli.specs.Openings.{replay_store}
use Rattle.hsm_cli.specs.Deeds.{HasDone}
use Rattle.hsm_cli.specs.Clauses.{IsDamage, NoneFailed, IsCausedOver}

-- a history without entries names none
pub no_faults : (history : List Entry) → history ≡ [] → NoneFailed (faults_in history)
no_faults history none = subst (λ (es : List Entry). NoneFailed (faults_in es)) (sym none) tt

pub none_named : (history : List Entry) → history ≡ [] → faults_in history ≡ []
none_named history none = ap faults_in none

-- and has none to be caused
no_entry : (before : List Entry) (e : Entry) (rest : List Entry) → [] ≡ before ++ e ∷ rest → ⊥
no_entry [] e rest is = let wrong : [] ≡ e ∷ rest = is in cc wrong
no_entry (x ∷ before) e rest is = let wrong : [] ≡ x ∷ (before ++ e ∷ rest) = is in cc wrong

pub caused_none : (s : Superblock) (base : ℕ) (h : Held) (history : List Entry) → history ≡ [] → Caused s (just_opened base h) history
caused_none s base h history none before sid t fault rest is = absurd (no_entry before _ rest (sym none ∙ is))

module _ {M : Type 0} (g : drive.Ghosts M) (none : (d : M) → g.fault_count d ≡ 0) where
  -- a drive that never failed tells of no failure
  tells_damage : (d : M) (fault : Fault) → TellsFault g d fault → IsDamage fault
  tells_damage d (Failed volume object before after) tells = omega (arith, none d, tells.0, tells.1)
  tells_damage d (Damaged volume object want got) tells = tt

  one_damage : (ds : List M) (fault : Fault) (number : ℕ) → number < length ds → IfSome (slice_get ds number) (λ d. TellsFault g d fault) → IsDamage fault
  one_damage [] fault number below is = let wrong : ⊥ = omega (arith, below) in absurd wrong
  one_damage (d ∷ ds) fault zero below is = tells_damage d fault is
  one_damage (d ∷ ds) fault (suc n) below is = one_damage ds fault n (omega (arith, below)) is

  all_damage : (ds : List M) (faults : List Fault) → 0 < length ds → AllByRecursion (IsTrue g ds) faults → NoneFailed faults
  all_damage ds [] some each = tt
  all_damage ds (fault ∷ faults) some each = (one_damage ds fault _ (mod-lt _ some) each.0, all_damage ds faults some each.1)

  -- faults over drives that never fail, or of a run without drives
  pub none_failed : {V : Type 0} (items : V → List M) (ready : Result V Cause) (left : List M) (history : List Entry) → IfOk ready (λ ds. length (items ds) ≡ standard.drives) → MatchResult ready (λ ds. HaveGrown g (items ds) left) (λ why. left ≡ []) → OnErr ready (history ≡ []) → AreTrue g left (faults_in history) → NoneFailed (faults_in history)
  none_failed items (Ok ds) left history count grown idle all = let same : length left ≡ length (items ds) = grown_count g (items ds) left grown in all_damage left (faults_in history) (omega (arith, same, count)) all.each
  none_failed items (Err why) left history count grown idle all = no_faults history idle

-- what is caused over a store of that superblock that holds nothing is so over a new one
pub caused_new : {D : Type 0} (s : Store D) (history : List Entry) → superblock_of s ≡ replay_store → s.held ≡ nothing_held → s.meta.number ≡ 0 → Caused (superblock_of s) (just_opened s.meta.number s.held) history → Caused replay_store (just_opened 0 nothing_held) history
caused_new s history superblock held number caused =
    subst (λ (h : Held). Caused replay_store (just_opened 0 h) history) held
    (subst (λ (n : ℕ). Caused replay_store (just_opened n s.held) history) number (subst (λ (x : Superblock). Caused x (just_opened s.meta.number s.held) history) superblock caused))

-- ---- a served run

-- some deeds show the history to be served
abbrev pub IsMade : List Entry → Type 0
IsMade history = (deeds : List Deed) × (entries_of deeds ≡ history) × Served recalls (migrates standard) deeds

pub made : {FollowsSo TheyAre : List Deed → Type 0} {history : List Entry} → HasDone standard FollowsSo TheyAre history → IsMade history
made done = (done.deeds, done.entries, done.served)

module _ {D : Type 0} (g : disk.Ghosts D) where
  -- what the history of a run on an opened store says of faults
  pub caused_served : ((limits : Numbers) (s : Superblock) (base : ℕ) (opening : Held) (deeds : List Deed) → ServedIsCaused limits s base opening deeds)
      → (old new : HsmStore D) → HasGrown g old new → IsMade new.history → IsKept g new → IsCausedOver (Some old.opened) new.history
  caused_served law old new goes (deeds, same, served) kept =
      let s : Superblock = superblock_of new.opened in
      let first : State = just_opened new.opened.meta.number new.opened.held in
      let run : IsRunSeen ⊥ s new.opened.meta.number new.opened.held (entries_of deeds) = subst (λ (es : List Entry). IsRunSeen ⊥ s new.opened.meta.number new.opened.held es) (sym same) (run_on_any (Tells g new.files.disk) s new.opened.meta.number new.opened.held new.history kept.run) in
      let packed : ArePacked s first (entries_of deeds) = subst (λ (es : List Entry). ArePacked s first es) (sym same) kept.packed in
      subst (λ (o : Store D). IsCausedOver (Some o) new.history) goes.opened
      (subst (λ (es : List Entry). Caused s first es) same (law standard s new.opened.meta.number new.opened.held deeds served run packed))
