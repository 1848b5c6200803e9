-- Full volumes, while drives are used.
use Rattle.std.proofs.Common.{◌≡◌, ◌∙◌, ◌+◌, ◌%◌, ◌<◌, ◌≤◌, ℕ, Bool, true, false, List, length, Some, Result, Err}
use Rattle.std.proofs.Common.{inl, inr, refl, sym, ap, subst, length-set, arith}
use Rattle.std.specs.Prelude.{slice_get, slice_set}
use Rattle.std.proofs.lemmas.List.Sums.{sum_by-append}
use Rattle.disk_model.specs.Calls.{Rose}
use Rattle.media_model.specs.Objects.{Objects, longest_object, size_of}
use Rattle.media_model.specs.declared.drive.Drive as drive
use Rattle.hsm_types.specs.Limits.{segment_bytes}
use Rattle.hsm_types.specs.Stubs.{print_of}
use Rattle.hsm_types.specs.declared.daemons.Act.{Act}
use Rattle.hsm_types.specs.declared.daemons.Act.TheVariants.{Copy}
use Rattle.hsm_types.specs.declared.daemons.Heard.{Heard}
use Rattle.hsm_types.specs.declared.daemons.Heard.TheVariants as heard
use Rattle.hsm_types.specs.declared.keys.Handle.{Handle}
use Rattle.hsm_types.specs.declared.media.CopyRefusal.{CopyRefusal}
use Rattle.hsm_types.specs.declared.media.CopyRefusal.TheVariants as copying
use Rattle.hsm_types.specs.declared.stubs.StubEntry.{StubEntry}
use Rattle.volume_shelf.specs.Shelf.{CopyRefused}
use Rattle.migrate_daemon.specs.Passes.{copies}
use Rattle.hsm_replay.specs.Acts.{CopiesTo}
use Rattle.hsm_replay.specs.Drives.{Extends, HasGrown, HaveGrown}
use Rattle.hsm_replay.specs.Filling.{LacksRoom, IsFullVolume, HearsFull}
use Rattle.hsm_replay.specs.Systems.{drive_of}
use Rattle.hsm_replay.proofs.Fetching.{set_there}
use Rattle.hsm_replay.proofs.Growing.{grown_count, grows_grow}
use Rattle.hsm_replay.proofs.Sealing.{grown_to}

-- ---- what is plain

sizes_grow : (old new : Objects) → Extends old new → size_of old ≤ size_of new
sizes_grow old new more = let longer : size_of new ≡ size_of old + size_of more.0 = ap (λ (o : Objects). size_of o) more.1 ∙ sum_by-append length old more.0 in omega arith

lacks_for : (capacity used len most size : ℕ) → capacity < used + len → len ≡ 72 + size → size ≤ segment_bytes → used ≡ most → capacity < most + longest_object
lacks_for capacity used len most size over long short same = omega arith

not_true : (b : Bool) → (b ≡ true → ⊥) → b ≡ false
not_true true wrong = absurd (wrong refl)
not_true false wrong = refl

no_rise : (before after : ℕ) → before ≡ 0 → after ≡ 0 → Rose before after → ⊥
no_rise before after first last rose =
    let at_first : Rose 0 after = subst (λ (n : ℕ). Rose n after) first rose in
    let at_last : Rose 0 0 = subst (λ (n : ℕ). Rose 0 n) last at_first in
    let risen : 1 ≤ 0 = at_last in
    omega arith

module _ {M : Type 0} (g : drive.Ghosts M) where
  -- ---- drives that are used

  lacks_still : (volume : ℕ) (d e : M) → HasGrown g d e → LacksRoom g d volume → LacksRoom g e volume
  lacks_still volume d e grown (inl none) = inl (grown.volumes.has volume ∙ none)
  lacks_still volume d e grown (inr full) = inr (λ o gives.
      let before = grown.objects volume o gives in
      let longer : size_of before.0 ≤ size_of o = sizes_grow before.0 o before.2 in
      let same : g.capacity_of e ≡ g.capacity_of d = grown.volumes.capacity in
      let lacked : g.capacity_of d < size_of before.0 + longest_object = full before.0 before.1 in
      omega arith)

  pub full_volume_grows : (volume : ℕ) (ds es : List M) → HaveGrown g ds es → IsFullVolume g ds volume → IsFullVolume g es volume
  full_volume_grows volume ds es grown full =
      let is = grown_to g (volume % length ds) ds es full.0 grown full.1 in
      (is.0, subst (λ (n : ℕ). slice_get es (volume % n) ≡ Some is.0) (sym (grown_count g ds es grown)) is.1, lacks_still volume full.0 is.0 is.2 full.2)

  pub hears_grows : (ds es : List M) (asked : Act) (told : Heard) → HaveGrown g ds es → HearsFull g ds asked told → HearsFull g es asked told
  hears_grows ds es (Copy volume h segment bytes) (heard.Copied (Err (copying.Failed before after))) grown hears = hears
  hears_grows ds es (Copy volume h segment bytes) (heard.Copied (Err (copying.Damaged want got))) grown hears = hears
  hears_grows ds es (Copy volume h segment bytes) (heard.Copied (Err (copying.Full used len capacity))) grown hears = full_volume_grows volume ds es grown hears
  hears_grows ds es (Copy volume h segment bytes) (heard.Copied (Err copying.NoVolume)) grown hears = full_volume_grows volume ds es grown hears
  hears_grows ds es asked told grown hears = tt

  -- ---- a copy

  module _ (law : g.sure ≡ true → (d : M) → g.fault_count d ≡ 0) (ds : List M) (volume segment : ℕ) (handle : Handle) (bytes : List ℕ) (short : length bytes ≤ segment_bytes) (d e : M) (at : slice_get ds (drive_of volume ds) ≡ Some d) where
    abbrev pub left : List M
    left = slice_set ds (drive_of volume ds) e

    full_now : LacksRoom g d volume → HasGrown g d e → IsFullVolume g left volume
    full_now lacks grown =
        let number : drive_of volume left ≡ drive_of volume ds = ap (λ (n : ℕ). volume % n) (length-set ds (drive_of volume ds) e) in
        (e, ap (λ (n : ℕ). slice_get left n) number ∙ set_there (drive_of volume ds) ds d e at, lacks_still volume d e grown lacks)

    unsure : (before after : ℕ) → CopyRefused g volume (72 + length bytes) (print_of bytes) d e (copying.Failed before after) → g.sure ≡ false
    unsure before after refused = not_true g.sure (λ sure. no_rise before after (refused.0 ∙ law sure d) (refused.1 ∙ law sure e) refused.2)

    lacked : (used len capacity : ℕ) → CopyRefused g volume (72 + length bytes) (print_of bytes) d e (copying.Full used len capacity) → LacksRoom g d volume
    lacked used len capacity refused = inr (λ o gives. subst (λ (n : ℕ). n < size_of o + longest_object) refused.2 (lacks_for capacity used len (size_of o) (length bytes) refused.3 refused.1 short (refused.4 o gives)))

    pub full_of_copy : (copied : Result StubEntry CopyRefusal) → CopiesTo g volume handle segment bytes copied d e → HearsFull g left (Copy volume handle segment bytes) (heard.Copied copied)
    full_of_copy (Err (copying.Failed before after)) copies = unsure before after copies.0
    full_of_copy (Err (copying.Damaged want got)) copies = not_true g.sure copies.0.4
    full_of_copy (Err (copying.Full used len capacity)) copies = full_now (lacked used len capacity copies.0) (grows_grow g volume d e copies.1)
    full_of_copy (Err copying.NoVolume) copies = full_now (inl copies.0.0) (grows_grow g volume d e copies.1)
    full_of_copy copied copies = tt
