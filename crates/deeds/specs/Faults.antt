-- Faults of media that were heard, in the order of deeds. Failed fetches of one drive are apart.
use Rattle.std.specs.Prelude.{◌≡◌, ◌≤◌, ◌%◌, ℕ, List, [], ◌∷◌, ◌++◌, All, AllPairs, Option, None, Some, Err}
use Rattle.std.specs.List.{filter_map}
use Rattle.hsm_types.specs.declared.daemons.Act.{Act}
use Rattle.hsm_types.specs.declared.daemons.Act.TheVariants.{Fetch}
use Rattle.hsm_types.specs.declared.daemons.Daemon.{Daemon}
use Rattle.hsm_types.specs.declared.daemons.Heard.{Heard}
use Rattle.hsm_types.specs.declared.daemons.Heard.TheVariants.{Fetched}
use Rattle.hsm_types.specs.declared.media.Fault.{Fault}
use Rattle.hsm_types.specs.declared.media.Fault.TheVariants.{Failed}
use Rattle.hsm_types.specs.declared.media.FetchRefusal.TheVariants.{Media}
use Rattle.deeds.specs.Deeds.{Deed, Hears}

abbrev pub fault_told : Act → Heard → Option Fault
fault_told (Fetch entry) (Fetched (Err (Media fault))) = Some fault
fault_told asked told = None

abbrev pub fault_in : Deed → Option Fault
fault_in (Hears daemon asked told) = fault_told asked told
fault_in deed = None

abbrev pub faults_heard : List Deed → List Fault
faults_heard deeds = filter_map fault_in deeds

-- how many faults each drive has counted
abbrev pub Counts : Type 0
Counts = ℕ → ℕ

-- With so many drives. Volume v is in the drive v mod their number.
module _ (drives : ℕ) where
  -- the drive has counted so many by now
  abbrev pub IsOver : Counts → Fault → Type 0
  IsOver counts (Failed volume object before after) = after ≤ counts (volume % drives)
  IsOver counts fault = Unit {0}

  -- of two fetches of one drive the later began where the earlier had ended, or behind that
  abbrev pub IsApart : Fault → Fault → Type 0
  IsApart (Failed volume object before after) (Failed later_volume later_object later_before later_after) = volume % drives ≡ later_volume % drives → after ≤ later_before
  IsApart fault later = Unit {0}

  pub record AreApart (counts : Counts) (faults : List Fault) : Type 0 where
    pub over : All (IsOver counts) faults
    pub apart : AllPairs IsApart faults

  -- Whatever faults were heard before, with those of these deeds they are apart, and over by now.
  abbrev pub AddsFaults : List Deed → (old new : Counts) → Type 0
  AddsFaults deeds old new = (faults : List Fault) → AreApart old faults → AreApart new (faults ++ faults_heard deeds)

  -- No drive counts less. A fetch of which a fault is heard began at what its drive had counted, or behind that, and has ended.
  pub record Rises (asked : Act) (told : Heard) (old new : Counts) : Type 0 where
    pub grows : (drive : ℕ) → old drive ≤ new drive
    pub rose : (volume object before after : ℕ) → fault_told asked told ≡ Some (Failed volume object before after) → (old (volume % drives) ≤ before) × (after ≤ new (volume % drives))

  -- ---- the laws

  -- so from the first deed on
  abbrev pub HeardApart : List Deed → Type 0
  HeardApart deeds = (old new : Counts) → AddsFaults deeds old new → AreApart new (faults_heard deeds)

  -- what is heard of an act on drives adds its fault so
  abbrev pub AddsHeard : Daemon → Act → Heard → Type 0
  AddsHeard daemon asked told = (old new : Counts) → Rises asked told old new → AddsFaults (Hears daemon asked told ∷ []) old new

  -- deeds of which no fault is heard add none
  abbrev pub AddsNone : List Deed → Type 0
  AddsNone deeds = (old new : Counts) → faults_heard deeds ≡ [] → ((drive : ℕ) → old drive ≤ new drive) → AddsFaults deeds old new

  -- deeds behind others add both
  abbrev pub AddsBoth : List Deed → List Deed → Type 0
  AddsBoth deeds more = (a b c : Counts) → AddsFaults deeds a b → AddsFaults more b c → AddsFaults (deeds ++ more) a c
