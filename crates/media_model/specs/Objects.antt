-- The objects of a volume, numbered from 0, and what calls make of them.
use Rattle.std.specs.Prelude.{◌≡◌, ◌⊎◌, ⊤, ℕ, ◌+◌, ◌≤◌, List, [], ◌∷◌, ◌++◌, length, take, drop, sum_by, Bool, false, Result, Ok, Err, IsErrOf}
use Rattle.hsm_types.specs.Limits.{segment_bytes}
use Rattle.disk_model.specs.Calls.{raised}
use Rattle.media_model.specs.declared.drive.DriveRefusal.{DriveRefusal}
use Rattle.media_model.specs.declared.drive.DriveRefusal.TheVariants.{Failed, NoVolume, NoObject}

abbrev pub Objects : Type 0
Objects = List (List ℕ)

-- the bytes of the longest object: its frame, and the longest segment
abbrev pub longest_object : ℕ
longest_object = 72 + segment_bytes

-- how many bytes they have together
abbrev pub size_of : Objects → ℕ
size_of objects = sum_by length objects

-- the bytes that a read of at most so many gives from that place on
abbrev pub read_from : ℕ → ℕ → List ℕ → List ℕ
read_from at room object = take room (drop at object)

-- one object more
abbrev pub Adds : List ℕ → Objects → Objects → Type 0
Adds object old new = new ≡ old ++ object ∷ []

-- one object more, whatever it is
abbrev pub AddsOne : Objects → Objects → Type 0
AddsOne old new = (object : List ℕ) × Adds object old new

-- as before, or one more, which is a prefix of the bytes
abbrev pub MayAdd : List ℕ → Objects → Objects → Type 0
MayAdd bytes old new = (new ≡ old) ⊎ ((n : ℕ) × Adds (take n bytes) old new)

-- each list that a volume may have now comes by a step from one that it might have had before
abbrev pub Follows : (Objects → Objects → Type 0) → (Objects → Type 0) → (Objects → Type 0) → Type 0
Follows step old new = (now : Objects) → new now → (before : Objects) × old before × step before now

-- the same lists
abbrev pub Alike : (Objects → Type 0) → (Objects → Type 0) → Type 0
Alike old new = ((o : Objects) → new o → old o) × ((o : Objects) → old o → new o)

-- The count never falls, is one more where the call failed, and else is as it was; the volume isn't there exactly where that is told.
pub record HasCause {T : Type 0} (result : Result T DriveRefusal) (has : Bool) (before after : ℕ) : Type 0 where
  pub never_falls : before ≤ after
  pub failed : IsErrOf result Failed → after ≡ raised before
  pub quiet : (IsErrOf result Failed → ⊥) → after ≡ before
  pub missing : has ≡ false → IsErrOf result NoVolume ⊎ IsErrOf result Failed
  pub no_volume : IsErrOf result NoVolume → has ≡ false

-- the same volumes with as much room; what lasts goes on lasting
pub record KeepsVolumes (old_has new_has : ℕ → Bool) (old_capacity new_capacity : ℕ) (old_lasting new_lasting : ℕ → ℕ) : Type 0 where
  pub has : (v : ℕ) → new_has v ≡ old_has v
  pub capacity : new_capacity ≡ old_capacity
  pub lasting : (v : ℕ) → old_lasting v ≤ new_lasting v

-- a call that only asks for an object finds it, or has one of the three causes
abbrev pub IsAsked : {T : Type 0} → Result T DriveRefusal → Type 0
IsAsked (Ok x) = ⊤
IsAsked (Err why) = (why ≡ Failed) ⊎ (why ≡ NoVolume) ⊎ (why ≡ NoObject)
