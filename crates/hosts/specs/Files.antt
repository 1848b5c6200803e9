-- What contracts see of files and of disks over them.
use Rattle.std.specs.Prelude.{◌≡◌, ℕ, ◌+◌, ◌≤◌, List, length, slice_get, Bool, IfSome}
use Rattle.folder_drive.specs.Folders.{Folder}
use Rattle.disk_model.specs.Medium.{Recorded}

-- a file in memory
pub record MemFileSeen : Type 0 where
  pub disk : Recorded
  -- how many bytes a call moves at most
  pub most : ℕ
  -- nobody else has it
  pub is_free : Bool

-- a file as a disk
pub record FileSeen (F : Type 0) : Type 0 where
  pub file : F
  pub len : ℕ
  pub faults : ℕ

-- a host of files and folders, of which nothing is told of what they hold
pub record HostSeen : Type 0 where
  pub makes : ℕ
  pub openings : ℕ
  pub askings : ℕ
  pub faults : ℕ

-- these images, as far as they have this length
abbrev pub OfLength : ℕ → (List ℕ → Type 0) → List ℕ → Type 0
OfLength n images c = images c × (length c ≡ n)

-- the range lies within each image
abbrev pub Fits : ℕ → ℕ → (List ℕ → Type 0) → Type 0
Fits at n images = (c : List ℕ) → images c → at + n ≤ length c

-- the drives that share the volumes of a folder, by their numbers, without a fault
pub record AreShared (drives volumes capacity : ℕ) (ds : List Folder) : Type 0 where
  pub count : length ds ≡ drives
  pub each : (number : ℕ) → IfSome (slice_get ds number) (λ d. d ≡ record { number = number; drives = drives; volumes = volumes; capacity = capacity; faults = 0 })
