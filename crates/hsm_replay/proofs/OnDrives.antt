-- What comes of a copy or a fetch on one drive.
use Rattle.std.proofs.Common.{◌≡◌, ◌≢◌, ◌<◌, ℕ, List, length, get_or, Result, Ok, Err, Some, IfOk, IfErr, refl, sym, ap, subst}
use Rattle.std.proofs.lemmas.Option.{slice_get_read}
use Rattle.std.specs.Prelude.{slice_get, slice_set}
use Rattle.media_model.specs.declared.drive.Drive as drive
use Rattle.hsm_types.specs.Stubs.{print_of}
use Rattle.hsm_types.specs.declared.keys.Handle.{Handle}
use Rattle.hsm_types.specs.declared.media.CopyRefusal.{CopyRefusal}
use Rattle.hsm_types.specs.declared.media.CopyRefusal.TheVariants as copying
use Rattle.hsm_types.specs.declared.media.Fault.{Fault}
use Rattle.hsm_types.specs.declared.media.Fault.TheVariants.{Failed, Damaged}
use Rattle.hsm_types.specs.declared.media.FetchRefusal.{FetchRefusal}
use Rattle.hsm_types.specs.declared.media.FetchRefusal.TheVariants as fetching
use Rattle.hsm_types.specs.declared.stubs.Fingerprint.{Fingerprint}
use Rattle.hsm_types.specs.declared.stubs.StubEntry.{StubEntry}
use Rattle.volume_shelf.specs.Shelf.{IsCause}
use Rattle.deeds.specs.Deeds.{IsOf}
use Rattle.hsm_system.specs.Awaiting.{IsSo}
use Rattle.hsm_system.specs.declared.awaited.Outcome.{Outcome}
use Rattle.hsm_system.specs.declared.awaited.Outcome.TheVariants as outcome
use Rattle.hsm_system.specs.declared.stops.Stop.{Stop}
use Rattle.hsm_system.specs.declared.stops.Stop.TheVariants as stop
use Rattle.hsm_replay.specs.Acts.{OnDriveOf, CopiesTo, FetchesFrom, ComesOfCopy, ComesOfFetch}
use Rattle.hsm_replay.specs.Systems.{drive_of}

-- the drive of that number was lent to what changed it
pub on_drive : {M : Type 0} (volume number : ℕ) (changes : M → M → Type 0) (drives : List M) (x y : M) → number ≡ drive_of volume drives → number < length drives → x ≡ get_or drives number x → changes x y
    → OnDriveOf volume changes drives (slice_set drives number y)
on_drive {M = M} volume number changes drives x y at there value change =
    (x, y, subst (λ (n : ℕ). slice_get drives n ≡ Some x) at (slice_get_read drives (length drives) number x refl there value), change, ap (λ (n : ℕ). slice_set drives n y) at)

module _ {M : Type 0} (g : drive.Ghosts M) (x y : M) where
  -- ---- a copy

  module _ (volume : ℕ) (handle : Handle) (segment : ℕ) (bytes : List ℕ) where
    pub copy_so : (answer : Result StubEntry CopyRefusal) → CopiesTo g volume handle segment bytes answer x y → answer ≢ Err copying.Memory → IsSo (outcome.Copied volume handle segment (print_of bytes) answer)
    copy_so (Ok entry) copies some = (copies.0.on, copies.0.print)
    copy_so (Err (copying.Damaged want got)) copies some = (copies.0.1, copies.0.2)
    copy_so (Err (copying.Failed before after)) copies some = copies.0.2
    copy_so (Err (copying.Full used len capacity)) copies some = copies.0.3
    copy_so (Err copying.NoVolume) copies some = tt
    copy_so (Err copying.Memory) copies some = absurd (some refl)

    module _ (print : Fingerprint) (prints : print ≡ print_of bytes) (answer : Result StubEntry CopyRefusal) (copies : CopiesTo g volume handle segment bytes answer x y) where
      pub copy_comes : (result : Result Outcome Stop) → IfOk result (λ came. (came ≡ outcome.Copied volume handle segment print answer) × (answer ≢ Err copying.Memory)) → IfOk result (λ came. ComesOfCopy g volume handle segment bytes came x y)
      copy_comes (Ok came) is =
          let same : came ≡ outcome.Copied volume handle segment (print_of bytes) answer = subst (λ (p : Fingerprint). came ≡ outcome.Copied volume handle segment p answer) prints is.0 in
          record { answer = answer; is = same; some = is.1; copies = copies; so = subst (λ (o : Outcome). IsSo o) (sym same) (copy_so answer copies is.1) }
      copy_comes (Err why) is = tt

      pub copy_lacks : (result : Result Outcome Stop) → IfErr result (λ why. (why ≡ stop.Memory) × (answer ≡ Err copying.Memory)) → IfErr result (λ why. (why ≡ stop.Memory) × CopiesTo g volume handle segment bytes (Err copying.Memory) x y)
      copy_lacks (Ok came) is = tt
      copy_lacks (Err why) is = (is.0, subst (λ (a : Result StubEntry CopyRefusal). CopiesTo g volume handle segment bytes a x y) is.1 copies)

  -- ---- a fetch

  module _ (entry : StubEntry) where
    fault_so : (fault : Fault) → IsCause g entry x y fault → IsOf entry fault
    fault_so (Failed volume object before after) cause = (cause.0, cause.1, cause.4)
    fault_so (Damaged volume object want got) cause = (cause.0, cause.1, cause.2, cause.3)

    pub fetch_so : (answer : Result (List ℕ) FetchRefusal) → FetchesFrom g entry answer x y → answer ≢ Err fetching.Memory → IsSo (outcome.Fetched entry answer)
    fetch_so (Ok bytes) fetches some = fetches.0.print
    fetch_so (Err (fetching.Media fault)) fetches some = fault_so fault fetches.0
    fetch_so (Err (fetching.NoObject volume object)) fetches some = (fetches.0.0, fetches.0.1)
    fetch_so (Err fetching.Memory) fetches some = absurd (some refl)

    module _ (answer : Result (List ℕ) FetchRefusal) (fetches : FetchesFrom g entry answer x y) where
      pub fetch_comes : (result : Result Outcome Stop) → IfOk result (λ came. (came ≡ outcome.Fetched entry answer) × (answer ≢ Err fetching.Memory)) → IfOk result (λ came. ComesOfFetch g entry came x y)
      fetch_comes (Ok came) is = record { answer = answer; is = is.0; some = is.1; fetches = fetches; so = subst (λ (o : Outcome). IsSo o) (sym is.0) (fetch_so answer fetches is.1) }
      fetch_comes (Err why) is = tt

      pub fetch_lacks : (result : Result Outcome Stop) → IfErr result (λ why. (why ≡ stop.Memory) × (answer ≡ Err fetching.Memory)) → IfErr result (λ why. (why ≡ stop.Memory) × FetchesFrom g entry (Err fetching.Memory) x y)
      fetch_lacks (Ok came) is = tt
      fetch_lacks (Err why) is = (is.0, subst (λ (a : Result (List ℕ) FetchRefusal). FetchesFrom g entry a x y) is.1 fetches)
