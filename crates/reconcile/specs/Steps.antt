-- What the steps of counting classes find and leave.
use Rattle.std.specs.Prelude.{◌≡◌, ◌≢◌, ◌⊎◌, ℕ, ◌+◌, ◌*◌, ◌^◌, List, if◌then◌else◌, Option, Some, None, is_some, IfSome, option_map, Result, Ok, Err}
use Rattle.std.specs.List.Sorted.{IsPermutation, IsNonDecreasingBy}
use Rattle.disk_model.specs.Calls.{RoseByOne}
use Rattle.hsm_types.specs.Stubs.{print_of, entry_place}
use Rattle.hsm_types.specs.declared.media.Fault.TheVariants as fault
use Rattle.hsm_types.specs.declared.media.FetchRefusal.{FetchRefusal}
use Rattle.hsm_types.specs.declared.media.FetchRefusal.TheVariants as missing
use Rattle.hsm_types.specs.declared.stubs.Fingerprint.{Fingerprint}
use Rattle.hsm_types.specs.declared.stubs.StubEntry.{StubEntry}
use Rattle.media_model.specs.Objects.{Objects}
use Rattle.media_model.specs.declared.drive.Drive as drive
use Rattle.plain_model.specs.Segments.{same_print}
use Rattle.store_summary.specs.declared.summaries.ClassCounts.{ClassCounts}
use Rattle.reconcile.specs.Classes.{payload_at, payload_of, AreTold}
use Rattle.reconcile.specs.declared.refusals.ReconcileRefusal.{ReconcileRefusal}
use Rattle.reconcile.specs.declared.refusals.ReconcileRefusal.TheVariants.{Failed, Memory}
use Rattle.reconcile.specs.declared.walking.Seen.{Seen}
use Rattle.reconcile.specs.declared.walking.Walk.{Walk}

-- where the entry's object stands among those of all volumes
abbrev pub place : StubEntry → ℕ
place e = (entry_place e).volume * 2 ^ 32 + (entry_place e).object

-- the second list has the entries of the first in the order of their objects
pub record InOrder (given sorted : List StubEntry) : Type 0 where
  pub same : IsPermutation given sorted
  pub ascending : IsNonDecreasingBy place sorted

-- ---- what is found of an entry's object: the fingerprint of its payload, where it is there

abbrev pub print_at : StubEntry → Objects → Option Fingerprint
print_at e objects = option_map print_of (payload_at e objects)

abbrev pub print_on : ℕ → (ℕ → Objects) → StubEntry → Option Fingerprint
print_on volumes told e = option_map print_of (payload_of volumes told e)

-- what a fetch from the volume that was refused tells of it
abbrev pub told_by : ℕ → FetchRefusal → Result (Option Fingerprint) ReconcileRefusal
told_by volume (missing.Media (fault.Failed at object before after)) = Err (Failed volume)
told_by volume (missing.Media (fault.Damaged at object want got)) = Ok (Some got)
told_by volume (missing.NoObject at object) = Ok None
told_by volume missing.Memory = Err Memory

-- ---- what is counted by that

-- an entry more, for whose object that was found
abbrev pub counted : Fingerprint → Option Fingerprint → ClassCounts → ClassCounts
counted want None c = record c { missing = c.missing + 1 }
counted want (Some print) c = if same_print print want then record c { held = c.held + 1 } else record c { altered = c.altered + 1 }

abbrev pub seen : StubEntry → Option Fingerprint → Seen
seen e found = record { place = place e; print = found }

-- the last entry names the same object
abbrev pub Repeats : StubEntry → Option Fingerprint → Walk → Walk → Type 0
Repeats e found old new = (old.last ≡ Some (seen e found)) × (new ≡ old)

-- no entry named it so far, as the last one doesn't: a live object more, where it is there
abbrev pub with_object : StubEntry → Option Fingerprint → Walk → Walk
with_object e found w = record { counts = record w.counts { live = w.counts.live + (if is_some found then 1 else 0) }; last = Some (seen e found) }

module _ {D : Type 0} (g : drive.Ghosts D) where
  -- whatever the drives tell, that is found
  pub record IsFound (volumes : ℕ) (drives : List D) (e : StubEntry) (found : Option Fingerprint) : Type 0 where
    pub told : (told : ℕ → Objects) → AreTold g volumes drives told → found ≡ print_on volumes told e

  pub record Looks (volumes : ℕ) (drives : List D) (e : StubEntry) (old new : Walk) (found : Option Fingerprint) : Type 0 where
    pub apart : IfSome old.last (λ last. last.place ≢ place e)
    pub looked : IsFound volumes drives e found
    pub left : new ≡ with_object e found old

  abbrev pub Finds : ℕ → List D → StubEntry → Walk → Walk → Option Fingerprint → Type 0
  Finds volumes drives e old new found = Repeats e found old new ⊎ Looks volumes drives e old new found

  -- why one drive told nothing
  abbrev pub DriveRefused : ℕ → D → D → ReconcileRefusal → Type 0
  DriveRefused volume old new (Failed at) = (at ≡ volume) × RoseByOne (g.fault_count old) (g.fault_count new)
  DriveRefused volume old new Memory = Unit {0}
