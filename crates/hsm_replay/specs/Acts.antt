-- What performing an act comes to.
use Rattle.std.specs.Prelude.{◌≡◌, ◌≢◌, ℕ, ◌+◌, List, length, Some, Result, Err, MatchResult, slice_get, slice_set}
use Rattle.disk_model.specs.declared.device.Disk as disk
use Rattle.media_model.specs.declared.drive.Drive as drive
use Rattle.hsm_types.specs.Stubs.{print_of, entry_place}
use Rattle.hsm_types.specs.declared.daemons.Act.{Act}
use Rattle.hsm_types.specs.declared.daemons.Act.TheVariants.{Dm, Copy, Fetch, Idle}
use Rattle.hsm_types.specs.declared.daemons.Daemon.{Daemon}
use Rattle.hsm_types.specs.declared.daemons.Heard.TheVariants as heard
use Rattle.hsm_types.specs.declared.keys.Handle.{Handle}
use Rattle.hsm_types.specs.declared.media.CopyRefusal.{CopyRefusal}
use Rattle.hsm_types.specs.declared.media.CopyRefusal.TheVariants as copying
use Rattle.hsm_types.specs.declared.media.FetchRefusal.{FetchRefusal}
use Rattle.hsm_types.specs.declared.media.FetchRefusal.TheVariants as fetching
use Rattle.hsm_types.specs.declared.stubs.StubEntry.{StubEntry}
use Rattle.volume_shelf.specs.Shelf.{Reads, Grows, Copied, CopyRefused, Fetched, FetchRefused, IsFailedCopy, IsFailedFetch}
use Rattle.hsm_system.specs.Acts.{Answers, StopsFor}
use Rattle.hsm_system.specs.Awaiting.{IsSo}
use Rattle.hsm_system.specs.Systems.{hearing}
use Rattle.hsm_system.specs.declared.awaited.Outcome.{Outcome}
use Rattle.hsm_system.specs.declared.awaited.Outcome.TheVariants as outcome
use Rattle.hsm_system.specs.declared.stops.Stop.{Stop}
use Rattle.hsm_system.specs.declared.stops.Stop.TheVariants as stop
use Rattle.hsm_replay.specs.Systems.{Run, drive_of}

-- ---- a copy or a fetch on a drive

module _ {M : Type 0} (g : drive.Ghosts M) where
  -- a copy to the drive was answered so; where that isn't that the drive failed, the drive has counted no fault
  abbrev pub CopiesTo : ℕ → Handle → ℕ → List ℕ → Result StubEntry CopyRefusal → M → M → Type 0
  CopiesTo volume handle segment bytes told old new =
      MatchResult told (Copied g volume handle segment bytes old new) (CopyRefused g volume (72 + length bytes) (print_of bytes) old new)
      × Grows g volume old new × ((IsFailedCopy told → ⊥) → g.fault_count new ≡ g.fault_count old)

  -- so was a fetch from it
  abbrev pub FetchesFrom : StubEntry → Result (List ℕ) FetchRefusal → M → M → Type 0
  FetchesFrom entry told old new =
      MatchResult told (Fetched g entry old) (FetchRefused g entry old new) × Reads g old new × ((IsFailedFetch told → ⊥) → g.fault_count new ≡ g.fault_count old)

  -- What came of a copy to the drive. Want of memory is nothing that is heard.
  pub record ComesOfCopy (volume : ℕ) (handle : Handle) (segment : ℕ) (bytes : List ℕ) (made : Outcome) (old new : M) : Type 0 where
    pub answer : Result StubEntry CopyRefusal
    pub is : made ≡ outcome.Copied volume handle segment (print_of bytes) answer
    pub some : answer ≢ Err copying.Memory
    pub copies : CopiesTo volume handle segment bytes answer old new
    pub so : IsSo made

  -- and of a fetch from it
  pub record ComesOfFetch (entry : StubEntry) (made : Outcome) (old new : M) : Type 0 where
    pub answer : Result (List ℕ) FetchRefusal
    pub is : made ≡ outcome.Fetched entry answer
    pub some : answer ≢ Err fetching.Memory
    pub fetches : FetchesFrom entry answer old new
    pub so : IsSo made

-- the drive of that volume has changed so, and no other
abbrev pub OnDriveOf : {M : Type 0} → ℕ → (M → M → Type 0) → List M → List M → Type 0
OnDriveOf {M = M} volume changes old new = let number : ℕ = drive_of volume old in
    (before : M) × (after : M) × (slice_get old number ≡ Some before) × changes before after × (new ≡ slice_set old number after)

-- ---- any act

module _ {D M : Type 0} (g : disk.Ghosts D) (h : drive.Ghosts M) (daemon : Daemon) where
  -- The daemon has given the act, and it was performed. It hears next what came of that.
  abbrev pub Performs : Run D M → Act → Run D M → Type 0
  Performs old (Dm sid call) new = Answers g daemon sid call old.system new.system × (new ≡ record old { system = new.system })
  Performs old (Copy volume handle segment bytes) new =
      (copied : Result StubEntry CopyRefusal) × (copied ≢ Err copying.Memory) × (new.system ≡ hearing daemon (heard.Copied copied) old.system)
      × OnDriveOf volume (CopiesTo h volume handle segment bytes copied) old.drives new.drives
  Performs old (Fetch entry) new =
      (fetched : Result (List ℕ) FetchRefusal) × (fetched ≢ Err fetching.Memory) × (new.system ≡ hearing daemon (heard.Fetched fetched) old.system)
      × OnDriveOf (entry_place entry).volume (FetchesFrom h entry fetched) old.drives new.drives
  Performs old Idle new = new ≡ record old { system = hearing daemon heard.Nothing old.system }

  -- It stopped the run. The daemon hears nothing of it.
  abbrev pub Stops : Run D M → Act → Stop → Run D M → Type 0
  Stops old (Dm sid call) why new = StopsFor g daemon sid call why old.system new.system × (new ≡ record old { system = new.system })
  Stops old (Copy volume handle segment bytes) why new =
      (why ≡ stop.Memory) × (new.system ≡ hearing daemon heard.Nothing old.system) × OnDriveOf volume (CopiesTo h volume handle segment bytes (Err copying.Memory)) old.drives new.drives
  Stops old (Fetch entry) why new =
      (why ≡ stop.Memory) × (new.system ≡ hearing daemon heard.Nothing old.system)
      × OnDriveOf (entry_place entry).volume (FetchesFrom h entry (Err fetching.Memory)) old.drives new.drives
  Stops old Idle why new = ⊥
