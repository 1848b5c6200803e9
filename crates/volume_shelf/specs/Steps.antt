-- What the steps of a copy and of a fetch leave and answer.
use Rattle.std.specs.Prelude.{◌≡◌, ◌≢◌, ℕ, ◌<◌, true, List, length}
use Rattle.disk_model.specs.Calls.{raised}
use Rattle.hsm_types.specs.Stubs.{print_of, entry_place, entry_print}
use Rattle.hsm_types.specs.declared.media.CopyRefusal.{CopyRefusal}
use Rattle.hsm_types.specs.declared.media.CopyRefusal.TheVariants as refusal
use Rattle.hsm_types.specs.declared.media.FetchRefusal.{FetchRefusal}
use Rattle.hsm_types.specs.declared.media.FetchRefusal.TheVariants as missing
use Rattle.hsm_types.specs.declared.media.Fault.{Fault}
use Rattle.hsm_types.specs.declared.media.Fault.TheVariants as fault
use Rattle.hsm_types.specs.declared.stubs.Fingerprint.{Fingerprint}
use Rattle.hsm_types.specs.declared.stubs.StubEntry.{StubEntry}
use Rattle.media_model.specs.Objects.{Objects, Adds, AddsOne, Follows}
use Rattle.media_model.specs.declared.drive.Drive as drive
use Rattle.volume_shelf.specs.Shelf.{payload_in, HasRoom, CopyRefused}

module _ {D : Type 0} (g : drive.Ghosts D) where
  -- an append that was answered with that number
  pub record IsPut (volume : ℕ) (object : List ℕ) (old new : D) (number : ℕ) : Type 0 where
    pub room : HasRoom g volume (length object) old
    pub next : (o : Objects) → g.gives old volume o → number ≡ length o
    pub added : Follows AddsOne (g.gives old volume) (g.gives new volume)
    pub exact : g.sure ≡ true → Follows (Adds object) (g.gives old volume) (g.gives new volume)

  -- why an object of so many bytes wasn't put there, whatever the fingerprint of its payload
  abbrev pub NotPut : ℕ → ℕ → D → D → CopyRefusal → Type 0
  NotPut volume size old new why = (print : Fingerprint) → CopyRefused g volume size print old new why

  -- the bytes are the payload of an object that is there, where that has so many bytes
  abbrev pub IsPayload : ℕ → ℕ → ℕ → D → List ℕ → Type 0
  IsPayload volume object len drive bytes = (o : Objects) → g.gives drive volume o → object < length o → len ≡ length (payload_in object o) → bytes ≡ payload_in object o

  -- the payload of an object that is there has that fingerprint
  abbrev pub Prints : ℕ → ℕ → D → Fingerprint → Type 0
  Prints volume object drive print = (o : Objects) → g.gives drive volume o → object < length o → print ≡ print_of (payload_in object o)

  -- why what was put isn't what is read back
  abbrev pub IsUnlike : ℕ → ℕ → Fingerprint → ℕ → D → D → CopyRefusal → Type 0
  IsUnlike volume object print before old new (refusal.Failed b a) = (b ≡ before) × (a ≡ g.fault_count new) × (g.fault_count new ≡ raised (g.fault_count old))
  IsUnlike volume object print before old new (refusal.Full used len capacity) = ⊥
  IsUnlike volume object print before old new (refusal.Damaged want got) = (want ≡ print) × (want ≢ got) × Prints volume object old got
  IsUnlike volume object print before old new refusal.NoVolume = ⊥
  IsUnlike volume object print before old new refusal.Memory = ⊥

  -- a fault in a step of a fetch that began with that count of faults, where the object's payload has so many bytes
  abbrev pub IsFaultOf : StubEntry → ℕ → ℕ → D → D → Fault → Type 0
  IsFaultOf entry len begun old new (fault.Failed volume object before after) = (volume ≡ (entry_place entry).volume) × (object ≡ (entry_place entry).object) × (before ≡ begun) × (after ≡ g.fault_count new) × (after ≡ raised before)
  IsFaultOf entry len begun old new (fault.Damaged volume object want got) = (volume ≡ (entry_place entry).volume) × (object ≡ (entry_place entry).object) × (want ≡ entry_print entry) × (want ≢ got)
      × ((o : Objects) → g.gives old (entry_place entry).volume o → (entry_place entry).object < length o → len ≡ length (payload_in (entry_place entry).object o) → got ≡ print_of (payload_in (entry_place entry).object o))

  abbrev pub StepRefused : StubEntry → ℕ → ℕ → D → D → FetchRefusal → Type 0
  StepRefused entry len begun old new (missing.Media cause) = IsFaultOf entry len begun old new cause
  StepRefused entry len begun old new (missing.NoObject volume object) = ⊥
  StepRefused entry len begun old new missing.Memory = Unit {0}
