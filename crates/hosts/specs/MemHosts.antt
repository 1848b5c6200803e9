-- What contracts see of a host in memory.
use Rattle.std.specs.Prelude.{◌≡◌, ◌⊎◌, ℕ, ◌%◌, Bool, true, false, ◌&&◌, ◌==◌, List, [], length, slice_get, Contains, Option, Some, None, option_map}
use Rattle.std.specs.Prelude.{IfSome, Result, Ok, Err, String, map, replicate, string_bytes}
use Rattle.std.specs.declared.alloc.Global.{Global}
use Rattle.std.specs.Ordering.{nat_cmp}
use Rattle.std.specs.Cmp.Lexicographic.{slice_cmp}
use Rattle.std.specs.FinMap.{FinMap, get, remove, from_entries}
use Rattle.std.specs.BTreeMap.{BTreeMap}
use Rattle.std.specs.List.{AllByRecursion}
use Rattle.std.specs.Option.{IsSomeAnd}
use Rattle.media_model.specs.Objects.{Objects}
use Rattle.media_model.specs.Memory.{AreObjects}
use Rattle.media_model.specs.Faults.{Faulty}
use Rattle.media_model.specs.Sharing.{AreNew, have_room, have_volumes, share_only}
use Rattle.disk_model.specs.Images.{Within}
use Rattle.disk_model.specs.Calls.{raised, both_faults}
use Rattle.disk_model.specs.Fuse.{Fused}
use Rattle.disk_model.specs.Medium.{Recorded, medium_of, IsGiven, MayLeave}
use Rattle.hosts.specs.declared.outside.HostRefusal.{HostRefusal}
use Rattle.hosts.specs.declared.outside.HostRefusal.TheVariants.{Failed, Memory}

-- things by the bytes of their names
abbrev pub Named : Type 0 → Type 0
Named X = FinMap (slice_cmp nat_cmp) X

pub record Hosted : Type 0 where
  pub disks : Named (Fused Recorded)
  -- the drives of each folder
  pub folders : Named (List Faulty)
  -- the numbers of the calls that fail, from 0
  pub failing : List ℕ
  -- how many calls of `make`, of `disk` and of `drives` there were
  pub makes : ℕ
  pub openings : ℕ
  pub askings : ℕ
  pub faults : ℕ
  -- the fuse of a disk that is made
  pub fuse : Option ℕ

abbrev pub by_name : {X : Type 0} → BTreeMap (String Global) X → Named X
by_name m = from_entries (map (λ e. (string_bytes e.0, e.1)) m.entries)

abbrev pub EachIs : {X : Type 0} → (X → Type 0) → Named X → Type 0
EachIs Is things = (name : List ℕ) → IfSome (get things name) Is

-- a crash leaves what a read gives, and no fault is counted
pub record IsAtRest (d : Fused Recorded) : Type 0 where
  pub settled : Within (IsGiven d.inner) (MayLeave d.inner)
  pub faults : d.inner.faults ≡ 0
  pub blown : d.blown ≡ 0

-- no fault of the drives is counted
abbrev pub AreUnfailed : List Faulty → Type 0
AreUnfailed drives = AllByRecursion (λ d. d.faults ≡ 0) drives

-- what reads give of the disk of this name
abbrev pub image_at : Named (Fused Recorded) → List ℕ → Option (List ℕ)
image_at disks name = option_map (λ d. (medium_of d.inner).now) (get disks name)

-- the host has a disk of this name, and reads give this image of it
abbrev pub HasImage : Hosted → List ℕ → List ℕ → Type 0
HasImage h name image = image_at h.disks name ≡ Some image

-- the volume of this number has these objects in the folder of this name, each volume in the drive of its number mod that of the drives. A folder that
-- isn't there has none
abbrev pub StoredIn : Option (List Faulty) → ℕ → Objects → Type 0
StoredIn None v o = o ≡ []
StoredIn (Some drives) v o = IsSomeAnd (slice_get drives (v % length drives)) (λ d. AreObjects d.held v o)

abbrev pub HasObjects : Hosted → List ℕ → ℕ → Objects → Type 0
HasObjects h name v o = StoredIn (get h.folders name) v o

-- the drives with no fault counted
abbrev pub unfailed : List Faulty → List Faulty
unfailed drives = map (λ (d : Faulty). record d { faults = 0 }) drives

-- these are so many drives with just so many volumes, each with so much room
abbrev pub fit : List Faulty → ℕ → ℕ → ℕ → Bool
fit held drives volumes capacity = (length held == drives) && have_room held capacity && have_volumes held volumes && share_only held volumes

-- the disk on a machine that went on: all that was written is on the medium, and faults and calls are counted anew
abbrev pub at_rest : Fused Recorded → Fused Recorded
at_rest d = record {
  inner = record { first = (medium_of d.inner).now; calls = []; failing = d.inner.failing; faults = 0; missed = 0 };
  fuse = d.fuse;
  blown = 0;
}

-- a disk of so many zeros
abbrev pub blank : ℕ → Option ℕ → Fused Recorded
blank len fuse = record {
  inner = record { first = replicate len 0; calls = []; failing = []; faults = 0; missed = 0 };
  fuse = fuse;
  blown = 0;
}

-- the next call is to fail
abbrev pub IsToFail : Hosted → Type 0
IsToFail h = Contains h.failing (both_faults (both_faults h.makes h.openings) h.askings)

-- the host after a call of `make`
abbrev pub asked_to_make : Hosted → Hosted
asked_to_make h = record h { makes = raised h.makes }

-- after a call of `disk`
abbrev pub asked_for : Hosted → Hosted
asked_for h = record h { openings = raised h.openings }

-- after a call of `drives`
abbrev pub asked_for_drives : Hosted → Hosted
asked_for_drives h = record h { askings = raised h.askings }

-- with a fault more
abbrev pub faulted : Hosted → Hosted
faulted h = record h { faults = raised h.faults }

-- without the disk of this name
abbrev pub handed_out : List ℕ → Hosted → Hosted
handed_out name h = record h { disks = remove h.disks name }

-- without the drives of this folder
abbrev pub drives_handed : List ℕ → Hosted → Hosted
drives_handed name h = record h { folders = remove h.folders name }

-- what `make` answers, and what it leaves
abbrev pub Makes : List ℕ → ℕ → Hosted → Hosted → Result (Fused Recorded) HostRefusal → Type 0
Makes name len old new (Ok d) = ¬ (IsToFail old) × (d ≡ blank len old.fuse) × (new ≡ handed_out name (asked_to_make old))
Makes name len old new (Err Failed) = IsToFail old × (new ≡ faulted (asked_to_make old))
Makes name len old new (Err Memory) = ¬ (IsToFail old) × (new ≡ asked_to_make old)

-- what `disk` answers, and what it leaves
abbrev pub Gives : List ℕ → Hosted → Hosted → Result (Fused Recorded) HostRefusal → Type 0
Gives name old new (Ok d) = ¬ (IsToFail old) × (get old.disks name ≡ Some d) × (new ≡ handed_out name (asked_for old))
Gives name old new (Err Failed) = (IsToFail old ⊎ (get old.disks name ≡ None)) × (new ≡ faulted (asked_for old))
Gives name old new (Err Memory) = ⊥

-- what `drives` hands out of a folder: what it has, if that is what is asked for, or new drives
abbrev pub Handed : Option (List Faulty) → ℕ → ℕ → ℕ → List Faulty → Type 0
Handed None drives volumes capacity given = AreNew drives volumes capacity given
Handed (Some held) drives volumes capacity given = (given ≡ held) × (fit held drives volumes capacity ≡ true)

abbrev pub IsUnfit : Option (List Faulty) → ℕ → ℕ → ℕ → Type 0
IsUnfit None drives volumes capacity = ⊥
IsUnfit (Some held) drives volumes capacity = fit held drives volumes capacity ≡ false

-- what `drives` answers, and what it leaves
abbrev pub Hands : List ℕ → ℕ → ℕ → ℕ → Hosted → Hosted → Result (List Faulty) HostRefusal → Type 0
Hands name drives volumes capacity old new (Ok given) = ¬ (IsToFail old) × Handed (get old.folders name) drives volumes capacity given × (new ≡ drives_handed name (asked_for_drives old))
Hands name drives volumes capacity old new (Err Failed) = (IsToFail old ⊎ IsUnfit (get old.folders name) drives volumes capacity) × (new ≡ faulted (asked_for_drives old))
Hands name drives volumes capacity old new (Err Memory) = ¬ (IsToFail old) × (get old.folders name ≡ None) × (new ≡ asked_for_drives old)
