-- What a run on a store of the host has of drives, and what it leaves of the host.
use Rattle.std.proofs.Common.{◌≡◌, ◌⊎◌, inl, inr, ℕ, ◌≤◌, List, [], ◌∷◌, Option, Some, None, Result, Ok, Err, IfOk, IfErr, IsErrOf, MatchResult}
use Rattle.std.proofs.Common.{refl, sym, subst, arith}
use Rattle.disk_model.specs.declared.device.Disk as disk
use Rattle.disk_model.specs.Calls.{Rose, raised}
use Rattle.media_model.specs.declared.drive.Drive as drive
use Rattle.media_model.specs.Objects.{Objects, Alike}
use Rattle.hsm_policy.specs.Settings.{standard}
use Rattle.hsm_replay.specs.Drives.{HaveGrown}
use Rattle.hsm_cli.specs.declared.causes.Cause.{Cause}
use Rattle.hsm_cli.specs.declared.causes.Cause.TheVariants.{ScriptRefused, WordsRefused, NotStore, Corrupt, ReadFault, WriteFault, DiskFault}
use Rattle.hsm_cli.specs.declared.causes.Cause.TheVariants.{HostFault, NoMemory}
use Rattle.hosts.specs.Hosts.{AreHanded, HoldsNothing, HoldsOthers, HoldsAll, StoresAll}
use Rattle.hsm_cli.specs.RunObjects.{SourceTold, SinkTold, HostTold}
use Rattle.hsm_cli.specs.Endings.{RunEnds, HandingEnds, IsBeforeReading}
use Rattle.hsm_cli.specs.Clauses.{Why, HasFailed, GivesBack, HandsOut, HandsDrives}

-- ---- the drives that come back

module _ {M : Type 0} (g : drive.Ghosts M) (old mid : ℕ → Objects → Type 0) (same : (v : ℕ) → Alike (old v) (mid v)) where
  -- what was handed out of a folder since it had the same objects
  pub handed_since : (drives volumes capacity : ℕ) (given : List M) → AreHanded g mid drives volumes capacity given → AreHanded g old drives volumes capacity given
  handed_since drives volumes capacity given h = record { count = h.count; counted = h.counted; room = h.room; has = h.has; only = h.only; there = λ v o within stored. h.there v o within ((same v).1 o stored) }

module _ {S M : Type 0} (g : drive.Ghosts M) (old mid : ℕ → Objects → Type 0) (same : (v : ℕ) → Alike (old v) (mid v)) (opened : S) where
  handed_from : (given : List M) → AreHanded g mid standard.drives standard.volumes standard.capacity given → AreHanded g old standard.drives standard.volumes standard.capacity given
  handed_from given h = handed_since g old mid same standard.drives standard.volumes standard.capacity given h

  came : (cause : Option Cause) (handed given : List M) → AreHanded g mid standard.drives standard.volumes standard.capacity handed → HaveGrown g handed given → (cause ≡ Some HostFault → ⊥) → GivesBack g old (Some opened) cause given
  came None handed given h grown works = (handed, handed_from handed h, grown)
  came (Some (ScriptRefused line)) handed given h grown works = (handed, handed_from handed h, grown)
  came (Some WordsRefused) handed given h grown works = (handed, handed_from handed h, grown)
  came (Some NotStore) handed given h grown works = (handed, handed_from handed h, grown)
  came (Some (Corrupt place)) handed given h grown works = (handed, handed_from handed h, grown)
  came (Some ReadFault) handed given h grown works = (handed, handed_from handed h, grown)
  came (Some WriteFault) handed given h grown works = (handed, handed_from handed h, grown)
  came (Some DiskFault) handed given h grown works = (handed, handed_from handed h, grown)
  came (Some HostFault) handed given h grown works = absurd (works refl)
  came (Some NoMemory) handed given h grown works = inr (handed, handed_from handed h, grown)

  for_memory : (cause : Option Cause) (given : List M) → given ≡ [] → cause ≡ Some NoMemory → GivesBack g old (Some opened) cause given
  for_memory cause given none is = subst (λ (c : Option Cause). GivesBack g old (Some opened) c given) (sym is) (inl none)

  for_fault : (cause : Option Cause) (given : List M) → given ≡ [] → cause ≡ Some HostFault → GivesBack g old (Some opened) cause given
  for_fault cause given none is = subst (λ (c : Option Cause). GivesBack g old (Some opened) c given) (sym is) none

  none_came : (why : Cause) (cause : Option Cause) (given : List M) → IsBeforeReading why → given ≡ [] → (cause ≡ Some why) ⊎ (cause ≡ Some NoMemory) → GivesBack g old (Some opened) cause given
  none_came HostFault cause given before none (inl is) = for_fault cause given none is
  none_came NoMemory cause given before none (inl is) = for_memory cause given none is
  none_came why cause given before none (inr is) = for_memory cause given none is
  none_came (ScriptRefused line) cause given before none is = absurd before
  none_came WordsRefused cause given before none is = absurd before
  none_came NotStore cause given before none is = absurd before
  none_came (Corrupt place) cause given before none is = absurd before
  none_came ReadFault cause given before none is = absurd before
  none_came WriteFault cause given before none is = absurd before
  none_came DiskFault cause given before none is = absurd before

  pub gives_back : {V : Type 0} (items : V → List M) (ready : Result V Cause) (cause : Option Cause) (given : List M) → IfOk ready (λ ds. AreHanded g mid standard.drives standard.volumes standard.capacity (items ds)) → MatchResult ready (λ ds. HaveGrown g (items ds) given) (λ why. given ≡ []) → IfErr ready IsBeforeReading
      → IfErr ready (λ why. (cause ≡ Some why) ⊎ (cause ≡ Some NoMemory)) → (cause ≡ Some HostFault → IsErrOf ready HostFault) → GivesBack g old (Some opened) cause given
  gives_back items (Ok ds) cause given handed left before unready fails = came cause (items ds) given handed left (λ is. let wrong : IsErrOf (Ok ds) HostFault = fails is in cc)
  gives_back items (Err why) cause given handed none before unready fails = none_came why cause given before none unready

  -- where the host failed there are none
  pub none_at_fault : (cause : Option Cause) (given : List M) → GivesBack g old (Some opened) cause given → cause ≡ Some HostFault → given ≡ []
  none_at_fault cause given back is = subst (λ (c : Option Cause). GivesBack g old (Some opened) c given) is back

-- ---- why a run on a store ends

-- a fault of the host ends it only where it failed
pub host_failed : (HostFails DiskFails : Type 0) (source : SourceTold) (sink : SinkTold) (cause : Option Cause) → RunEnds HostFails DiskFails source sink cause → cause ≡ Some HostFault → HostFails
host_failed HostFails DiskFails source sink cause ends is = subst (RunEnds HostFails DiskFails source sink) is ends

rose_from : (a b c : ℕ) → a ≤ b → Rose b c → Rose a c
rose_from a b c le rose = omega (arith, le, rose)

-- the last of these calls failed, and so it is one more fault
pub rose_once : (a b c : ℕ) → a ≤ b → c ≡ raised b → Rose a c
rose_once a b c le is = omega (arith, le, is)

-- the count of the host rose in the call for drives
fault_told : {V : Type 0} (before : ℕ) (host : HostTold) (ready : Result V Cause) → before ≤ host.before → IfErr ready (HandingEnds host) → IsErrOf ready HostFault → Rose before host.now
fault_told before host (Ok x) le why fails = cc
fault_told before host (Err why) le ends fails = let is : why ≡ HostFault = cc in rose_from before host.before host.now le (subst (HandingEnds host) is ends)

module _ {D : Type 0} (g : disk.Ghosts D) (named : List ℕ → Type 0) (source : SourceTold) (sink : SinkTold) (host : HostTold) (disk : Option D) where
  why_run : (HostFails DiskFails : Type 0) → (HostFails → Rose host.before host.now) → (DiskFails → HasFailed g disk) → (cause : Option Cause) → RunEnds HostFails DiskFails source sink cause → Why g named (Rose host.before host.now) source sink disk cause
  why_run HostFails DiskFails by_host by_disk None ends = tt
  why_run HostFails DiskFails by_host by_disk (Some (ScriptRefused line)) ends = ends
  why_run HostFails DiskFails by_host by_disk (Some WordsRefused) ends = tt
  why_run HostFails DiskFails by_host by_disk (Some NotStore) ends = absurd ends
  why_run HostFails DiskFails by_host by_disk (Some (Corrupt place)) ends = absurd ends
  why_run HostFails DiskFails by_host by_disk (Some ReadFault) ends = ends
  why_run HostFails DiskFails by_host by_disk (Some WriteFault) ends = ends
  why_run HostFails DiskFails by_host by_disk (Some DiskFault) ends = by_disk ends
  why_run HostFails DiskFails by_host by_disk (Some HostFault) ends = by_host ends
  why_run HostFails DiskFails by_host by_disk (Some NoMemory) ends = tt

  -- of a run on an opened store, since that count of the host
  pub why_served : {V : Type 0} (asked : HostTold) (ready : Result V Cause) (DiskFails : Type 0) (cause : Option Cause) → host.before ≤ asked.before → asked.now ≡ host.now → IfErr ready (HandingEnds asked)
      → (DiskFails → HasFailed g disk) → RunEnds (IsErrOf ready HostFault) DiskFails source sink cause → Why g named (Rose host.before host.now) source sink disk cause
  why_served asked ready DiskFails cause le same why by_disk ends = why_run (IsErrOf ready HostFault) DiskFails (λ fails. subst (Rose host.before) same (fault_told host.before asked ready le why fails)) by_disk cause ends

-- ---- what the host has left

-- a disk came, and then nothing of the disks changed
pub disk_came : {D : Type 0} (path : List ℕ) (old mid new : List ℕ → List ℕ → Type 0) (d : D) → HoldsNothing (mid path) → HoldsOthers path old mid → HoldsAll mid new → HandsOut path old new (Some d)
disk_came path old mid new d gone others all = (λ c holds. gone c ((all path).0 c holds), λ other differs. (λ c holds. (others other differs).0 c ((all other).0 c holds), λ c holds. (all other).1 c ((others other differs).1 c holds)))

-- the folders stayed, and then drives came or not
pub stayed : (old mid new : List ℕ → ℕ → Objects → Type 0) → StoresAll old mid → StoresAll mid new → StoresAll old new
stayed old mid new same hands = λ name v. (λ o has. (same name v).0 o ((hands name v).0 o has), λ o has. (hands name v).1 o ((same name v).1 o has))

pub all_came : {M : Type 0} (dir : List ℕ) (old mid new : List ℕ → ℕ → Objects → Type 0) (given : List M) → StoresAll old mid → HandsDrives dir mid new given → HandsDrives dir old new given
all_came dir old mid new [] same hands = stayed old mid new same hands
all_came dir old mid new (d ∷ ds) same hands = (hands.0, λ other differs v. (λ o has. (same other v).0 o ((hands.1 other differs v).0 o has), λ o has. (hands.1 other differs v).1 o ((same other v).1 o has)))

-- as many as came are given back
as_many : {M : Type 0} (g : drive.Ghosts M) (dir : List ℕ) (old new : List ℕ → ℕ → Objects → Type 0) (handed given : List M) → HaveGrown g handed given → HandsDrives dir old new handed → HandsDrives dir old new given
as_many g dir old new [] [] grown hands = hands
as_many g dir old new [] (d ∷ ds) grown hands = absurd grown
as_many g dir old new (d ∷ ds) [] grown hands = absurd grown
as_many g dir old new (d ∷ ds) (e ∷ es) grown hands = hands

pub drives_came : {M V : Type 0} (g : drive.Ghosts M) (items : V → List M) (dir : List ℕ) (old mid new : List ℕ → ℕ → Objects → Type 0) (ready : Result V Cause) (given : List M) → StoresAll old mid → MatchResult ready (λ ds. HandsDrives dir mid new (items ds)) (λ why. StoresAll mid new)
    → MatchResult ready (λ ds. HaveGrown g (items ds) given) (λ why. given ≡ []) → HandsDrives dir old new given
drives_came g items dir old mid new (Ok ds) given same hands left = as_many g dir old new (items ds) given left (all_came dir old mid new (items ds) same hands)
drives_came g items dir old mid new (Err why) given same hands none = subst (λ (ds : List _). HandsDrives dir old new ds) (sym none) (stayed old mid new same hands)
