-- The faults of media that a history answers events for, and what the drives say of them.
use Rattle.std.specs.Prelude.{◌≡◌, ◌≢◌, ℕ, ◌%◌, ◌≤◌, List, [], ◌∷◌, length, slice_get, true, Option, None, Some, IfSome}
use Rattle.std.specs.List.{filter_map, AllByRecursion}
use Rattle.disk_model.specs.Calls.{Rose, raised}
use Rattle.media_model.specs.declared.drive.Drive as drive
use Rattle.hsm_types.specs.declared.dm.DmCall.TheVariants.{Respond}
use Rattle.hsm_types.specs.declared.dm.Response.TheVariants.{Media}
use Rattle.hsm_types.specs.declared.media.Fault.{Fault}
use Rattle.hsm_types.specs.declared.media.Fault.TheVariants.{Failed, Damaged}
use Rattle.plain_model.specs.declared.entries.Action.{Action}
use Rattle.plain_model.specs.declared.entries.Action.TheVariants.{Dm}
use Rattle.plain_model.specs.declared.entries.Entry.{Entry}
use Rattle.volume_shelf.specs.Shelf.{HasPrint}

-- the fault that an event is answered for
abbrev pub fault_in : Action → Option Fault
fault_in (Dm (Respond t (Media fault))) = Some fault
fault_in action = None

abbrev pub faults_in : List Entry → List Fault
faults_in history = filter_map (λ e. fault_in e.action) history

abbrev pub volume_of : Fault → ℕ
volume_of (Failed volume object before after) = volume
volume_of (Damaged volume object want got) = volume

-- With so many drives: of two faults of one drive the later one began where the earlier one had ended, or behind that.
abbrev pub IsApart : ℕ → Fault → Fault → Type 0
IsApart count (Failed volume object before after) (Failed later_volume later_object later_before later_after) = volume % count ≡ later_volume % count → after ≤ later_before
IsApart count fault later = Unit {0}

abbrev pub AreApart : ℕ → List Fault → Type 0
AreApart count [] = Unit {0}
AreApart count (fault ∷ faults) = AllByRecursion (IsApart count fault) faults × AreApart count faults

module _ {M : Type 0} (g : drive.Ghosts M) where
  -- The second number is one above the first, and no more than the drive counts; or the volume is there, the payload that the medium gives has
  -- the one fingerprint, and another is wanted.
  abbrev pub TellsFault : M → Fault → Type 0
  TellsFault d (Failed volume object before after) = Rose before after × (after ≤ g.fault_count d) × (after ≡ raised before)
  TellsFault d (Damaged volume object want got) = (want ≢ got) × (g.has d volume ≡ true) × HasPrint (g.gives d volume) object got

  -- the drive that has the volume tells the fault
  abbrev pub IsTrue : List M → Fault → Type 0
  IsTrue drives fault = IfSome (slice_get drives (volume_of fault % length drives)) (λ d. TellsFault d fault)

  pub record AreTrue (drives : List M) (faults : List Fault) : Type 0 where
    pub each : AllByRecursion (IsTrue drives) faults
    pub apart : AreApart (length drives) faults
