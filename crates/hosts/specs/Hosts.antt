-- What a call of a host does to what its names hold, and why it is refused.
use Rattle.std.specs.Prelude.{◌≡◌, ◌≢◌, true, ℕ, ◌≤◌, ◌<◌, ◌%◌, List, [], length, slice_get, Result, IfErr, IsErrOf, IfSome}
use Rattle.std.specs.List.{AllByRecursion}
use Rattle.disk_model.specs.declared.device.Disk as disk
use Rattle.disk_model.specs.Images.{Within, Alike}
use Rattle.disk_model.specs.Calls.{raised}
use Rattle.media_model.specs.declared.drive.Drive as drive
use Rattle.media_model.specs.Objects.{Objects, Alike as AlikeObjects}
use Rattle.hosts.specs.declared.outside.HostRefusal.{HostRefusal}
use Rattle.hosts.specs.declared.outside.HostRefusal.TheVariants.{Failed}

-- no image
abbrev pub HoldsNothing : (List ℕ → Type 0) → Type 0
HoldsNothing image = (c : List ℕ) → image c → ⊥

-- each name but this one holds what it held
abbrev pub HoldsOthers : List ℕ → (List ℕ → List ℕ → Type 0) → (List ℕ → List ℕ → Type 0) → Type 0
HoldsOthers name old new = (other : List ℕ) → other ≢ name → Alike (old other) (new other)

-- each name holds what it held
abbrev pub HoldsAll : (List ℕ → List ℕ → Type 0) → (List ℕ → List ℕ → Type 0) → Type 0
HoldsAll old new = (name : List ℕ) → Alike (old name) (new name)

-- the count of faults doesn't fall, is one more where a call failed, and is as it was after each other call
pub record HasHostCause {T : Type 0} (result : Result T HostRefusal) (before after : ℕ) : Type 0 where
  pub never_falls : before ≤ after
  pub rose : IfErr result (λ refusal. refusal ≡ Failed → after ≡ raised before)
  pub quiet : (IsErrOf result Failed → ⊥) → after ≡ before

-- A disk as the host handed it out: it gives the images that the host held, a crash leaves what it gives, and it has never failed.
pub record IsHanded {D : Type 0} (g : disk.Ghosts D) (held : List ℕ → Type 0) (d : D) : Type 0 where
  pub given : (c : List ℕ) → held c → g.gives d c
  pub settled : Within (g.gives d) (g.may_leave d)
  pub counted : g.fault_count d ≡ 0

-- ---- folders of volumes

-- no objects
abbrev pub StoresNothing : (ℕ → Objects → Type 0) → Type 0
StoresNothing stored = (v : ℕ) (o : Objects) → stored v o → o ≡ []

-- each folder but this one has what it had
abbrev pub StoresOthers : List ℕ → (List ℕ → ℕ → Objects → Type 0) → (List ℕ → ℕ → Objects → Type 0) → Type 0
StoresOthers name old new = (other : List ℕ) → other ≢ name → (v : ℕ) → AlikeObjects (old other v) (new other v)

-- each folder has what it had
abbrev pub StoresAll : (List ℕ → ℕ → Objects → Type 0) → (List ℕ → ℕ → Objects → Type 0) → Type 0
StoresAll old new = (name : List ℕ) (v : ℕ) → AlikeObjects (old name v) (new name v)

-- Drives over these volumes as the host handed them out: as many as were asked for, none has ever failed, each volume may have so many bytes, and volume v
-- is in the drive v mod their number, with the objects that the host had of it. There are no other volumes.
pub record AreHanded {M : Type 0} (g : drive.Ghosts M) (stored : ℕ → Objects → Type 0) (drives volumes capacity : ℕ) (given : List M) : Type 0 where
  pub count : length given ≡ drives
  pub counted : AllByRecursion (λ d. g.fault_count d ≡ 0) given
  pub room : AllByRecursion (λ d. g.capacity_of d ≡ capacity) given
  pub has : (v : ℕ) → v < volumes → IfSome (slice_get given (v % drives)) (λ d. g.has d v ≡ true)
  pub only : (number : ℕ) → IfSome (slice_get given number) (λ d. (v : ℕ) → g.has d v ≡ true → (v < volumes) × (v % drives ≡ number))
  pub there : (v : ℕ) (o : Objects) → v < volumes → stored v o → IfSome (slice_get given (v % drives)) (λ d. g.gives d v o)
