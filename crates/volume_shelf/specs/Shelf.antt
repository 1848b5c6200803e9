-- Copies of segments on volumes: what a copy leaves, and what a fetch tells.
use Rattle.std.specs.Prelude.{◌≡◌, ◌≢◌, ◌⊎◌, ℕ, ◌+◌, ◌<◌, ◌≤◌, true, false, List, [], length, drop, get_or, Result, Err}
use Rattle.disk_model.specs.Calls.{Rose, raised}
use Rattle.hsm_types.specs.Stubs.{print_of, entry_place, entry_print}
use Rattle.hsm_types.specs.declared.keys.Handle.{Handle}
use Rattle.hsm_types.specs.declared.media.CopyRefusal.{CopyRefusal}
use Rattle.hsm_types.specs.declared.media.CopyRefusal.TheVariants as refusal
use Rattle.hsm_types.specs.declared.media.FetchRefusal.{FetchRefusal}
use Rattle.hsm_types.specs.declared.media.FetchRefusal.TheVariants as missing
use Rattle.hsm_types.specs.declared.media.Fault.{Fault}
use Rattle.hsm_types.specs.declared.media.Fault.TheVariants as fault
use Rattle.hsm_types.specs.declared.stubs.Fingerprint.{Fingerprint}
use Rattle.hsm_types.specs.declared.stubs.StubEntry.{StubEntry}
use Rattle.media_model.specs.Objects.{Objects, size_of, Adds, AddsOne, Alike, Follows, KeepsVolumes}
use Rattle.media_model.specs.declared.drive.Drive as drive
use Rattle.volume_format.specs.Objects.{object_bytes}

-- the payload of an object is what follows its first 72 bytes
abbrev pub payload_in : ℕ → Objects → List ℕ
payload_in object objects = drop 72 (get_or objects object [])

-- each list that the volume may have has that object, and its payload has that fingerprint
abbrev pub HasPrint : (Objects → Type 0) → ℕ → Fingerprint → Type 0
HasPrint gives object print = (o : Objects) → gives o → (object < length o) × (print ≡ print_of (payload_in object o))

-- one object more, whose payload has that fingerprint
abbrev pub AddsPrint : Fingerprint → Objects → Objects → Type 0
AddsPrint print old new = (object : List ℕ) × Adds object old new × (print ≡ print_of (drop 72 object))

-- as before, or with one object more
abbrev pub MayGrow : Objects → Objects → Type 0
MayGrow old new = (new ≡ old) ⊎ AddsOne old new

-- the answer of a copy says that the drive failed
abbrev pub IsFailedCopy : {T : Type 0} → Result T CopyRefusal → Type 0
IsFailedCopy (Err (refusal.Failed before after)) = Unit {0}
IsFailedCopy other = ⊥

-- that of a fetch does
abbrev pub IsFailedFetch : {T : Type 0} → Result T FetchRefusal → Type 0
IsFailedFetch (Err (missing.Media (fault.Failed volume object before after))) = Unit {0}
IsFailedFetch other = ⊥

module _ {D : Type 0} (g : drive.Ghosts D) where
  -- calls that change no volume
  pub record Reads (old new : D) : Type 0 where
    pub same : (v : ℕ) → Alike (g.gives old v) (g.gives new v)
    pub volumes : KeepsVolumes (g.has old) (g.has new) (g.capacity_of old) (g.capacity_of new) (g.lasting old) (g.lasting new)
    pub faults : g.fault_count old ≤ g.fault_count new

  -- calls that may put one object more on a volume, and change no other
  pub record Grows (volume : ℕ) (old new : D) : Type 0 where
    pub one_more : Follows MayGrow (g.gives old volume) (g.gives new volume)
    pub others : (v : ℕ) → (v ≡ volume → ⊥) → Alike (g.gives old v) (g.gives new v)
    pub volumes : KeepsVolumes (g.has old) (g.has new) (g.capacity_of old) (g.capacity_of new) (g.lasting old) (g.lasting new)
    pub faults : g.fault_count old ≤ g.fault_count new

  -- the volume is there, and has room for so many bytes more
  pub record HasRoom (volume len : ℕ) (drive : D) : Type 0 where
    pub there : g.has drive volume ≡ true
    pub fits : (o : Objects) → g.gives drive volume o → size_of o + len ≤ g.capacity_of drive

  -- ---- copies

  -- What a copy of these bytes leaves, and names by its entry: one object more, whose payload, as the medium gives it, has their fingerprint, and which lasts.
  pub record Copied (volume : ℕ) (handle : Handle) (segment : ℕ) (bytes : List ℕ) (old new : D) (entry : StubEntry) : Type 0 where
    pub room : HasRoom volume (72 + length bytes) old
    pub on : (entry_place entry).volume ≡ volume
    pub number : (o : Objects) → g.gives old volume o → (entry_place entry).object ≡ length o
    pub print : entry_print entry ≡ print_of bytes
    pub given : Follows (AddsPrint (print_of bytes)) (g.gives old volume) (g.gives new volume)
    -- over drives of a sure type it is the object of that segment
    pub exact : g.sure ≡ true → Follows (Adds (object_bytes handle segment bytes)) (g.gives old volume) (g.gives new volume)
    pub lasts : (o : Objects) → g.gives new volume o → (entry_place entry).object < g.lasting new volume

  -- Why there is no copy of bytes with that fingerprint, whose object has so many. Where the drive failed, one call of it did.
  abbrev pub CopyRefused : ℕ → ℕ → Fingerprint → D → D → CopyRefusal → Type 0
  CopyRefused volume size print old new (refusal.Failed before after) = (before ≡ g.fault_count old) × (after ≡ g.fault_count new) × Rose before after × (after ≡ raised before)
  CopyRefused volume size print old new (refusal.Full used len capacity) = (g.has old volume ≡ true) × (len ≡ size) × (capacity ≡ g.capacity_of old) × (capacity < used + len) × ((o : Objects) → g.gives old volume o → used ≡ size_of o) × Alike (g.gives old volume) (g.gives new volume)
  CopyRefused volume size print old new (refusal.Damaged want got) = HasRoom volume size old × (want ≡ print) × (want ≢ got) × Follows (AddsPrint got) (g.gives old volume) (g.gives new volume) × (g.sure ≡ true → ⊥)
  CopyRefused volume size print old new refusal.NoVolume = (g.has old volume ≡ false) × Alike (g.gives old volume) (g.gives new volume)
  CopyRefused volume size print old new refusal.Memory = Alike (g.gives old volume) (g.gives new volume)

  -- ---- fetches

  -- the bytes have the entry's fingerprint, and are what the medium gives of the object's payload
  pub record Fetched (entry : StubEntry) (old : D) (bytes : List ℕ) : Type 0 where
    pub there : g.has old (entry_place entry).volume ≡ true
    pub print : print_of bytes ≡ entry_print entry
    pub given : (o : Objects) → g.gives old (entry_place entry).volume o → ((entry_place entry).object < length o) × (bytes ≡ payload_in (entry_place entry).object o)

  -- The fault came in a fetch by that entry: the drive's count rose in it from the one number to the other, which is one more, or the payload that the medium
  -- gives has another fingerprint than is wanted.
  abbrev pub IsCause : StubEntry → D → D → Fault → Type 0
  IsCause entry old new (fault.Failed volume object before after) = (volume ≡ (entry_place entry).volume) × (object ≡ (entry_place entry).object) × (before ≡ g.fault_count old) × (after ≡ g.fault_count new) × Rose before after × (after ≡ raised before)
  IsCause entry old new (fault.Damaged volume object want got) = (volume ≡ (entry_place entry).volume) × (object ≡ (entry_place entry).object) × (want ≡ entry_print entry) × (want ≢ got) × (g.has old (entry_place entry).volume ≡ true) × HasPrint (g.gives old (entry_place entry).volume) (entry_place entry).object got

  -- why nothing was fetched
  abbrev pub FetchRefused : StubEntry → D → D → FetchRefusal → Type 0
  FetchRefused entry old new (missing.Media cause) = IsCause entry old new cause
  FetchRefused entry old new (missing.NoObject volume object) = (volume ≡ (entry_place entry).volume) × (object ≡ (entry_place entry).object) × ((o : Objects) → g.gives old (entry_place entry).volume o → length o ≤ (entry_place entry).object)
  FetchRefused entry old new missing.Memory = Unit {0}
