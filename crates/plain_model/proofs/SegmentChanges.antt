-- What a session does to segments is sound where nothing refuses it.
use Rattle.std.proofs.Common.{◌≡◌, ◌≤◌, ◌<◌, ◌+◌, ◌-◌, ◌*◌, ℕ, min, List, [], ◌∷◌, length, map, Bool, true, false, Option, Some, None, refl, ap, subst, arith}
use Rattle.std.proofs.lemmas.Bool.{eqb-true, false≢true, leb-true, ltb-true, and_parts}
use Rattle.std.proofs.lemmas.Slice.Eq.{bytes_eq-Decides}
use Rattle.std.specs.Prelude.{◌%◌, ◌&&◌, ◌==◌, nat_lt, nat_le, map, if◌then◌else◌, is_some}
use Rattle.std.specs.List.{list_any}
use Rattle.std.specs.Str.{bytes_eq}
use Rattle.hsm_types.specs.Limits.{segment_bytes}
use Rattle.hsm_types.specs.Regions.{covers}
use Rattle.hsm_types.specs.Segments.{from_on, segments_in, segments_met}
use Rattle.hsm_types.specs.Refusals.{first_refusal}
use Rattle.hsm_types.specs.Stubs.{print_of, stub_at, is_offline, offline_at, not_offline, not_sealed, not_covered, not_punched, entry_place, entry_print}
use Rattle.hsm_types.specs.declared.dm.DmRefusal.{DmRefusal}
use Rattle.hsm_types.specs.declared.dm.DmRefusal.TheVariants.{Changed, Offline, NotOffline, Uncovered, BadRange}
use Rattle.hsm_types.specs.declared.stores.Limits.{Limits}
use Rattle.hsm_types.specs.declared.stores.Superblock.{Superblock}
use Rattle.hsm_types.specs.declared.stubs.Fingerprint.{Fingerprint}
use Rattle.hsm_types.specs.declared.stubs.Stub.{Stub}
use Rattle.hsm_types.specs.declared.stubs.StubEntry.{StubEntry}
use Rattle.plain_model.specs.Effects.{Writes, Seals, Punches, Restores, punch_from, punch_to}
use Rattle.plain_model.specs.Plain.{segment}
use Rattle.plain_model.specs.Segments.{bad_access, past_size, past_end, bad_volume, ends_well, bad_punch, away, any_away, no_room, same_print}
use Rattle.plain_model.specs.Segments.{changed_bytes, changed_from, reading_refusal, writing_refusal, punch_refusal, seal_refusal, restore_refusal}
use Rattle.plain_model.specs.Sound.{IsFree, IsSound}
use Rattle.plain_model.specs.State.{FileState, Held}
use Rattle.plain_model.proofs.Judged.{none_first, passes}
use Rattle.plain_model.proofs.Unstopped.{none_from, unmet}

refuses : {R : Type 0} (b : Bool) (why : R) → (if b then Some why else None) ≡ None → b ≡ false
refuses true why is = cc
refuses false why is = refl

none_refused : (refusal : ℕ → Option DmRefusal) (p : ℕ → Bool) → ((j : ℕ) → refusal j ≡ None → p j ≡ false) → (js : List ℕ) → first_refusal (map refusal js) ≡ None → list_any p js ≡ false
none_refused refusal p each [] none = refl
none_refused refusal p each (j ∷ js) none = let parts = none_first (refusal j) (map refusal js) none in rw (each j parts.0) (none_refused refusal p each js parts.1)

nothing : (o : Option DmRefusal) → is_some o ≡ false → o ≡ None
nothing None is = refl
nothing (Some why) is = cc

print_same : (a b : Fingerprint) → same_print a b ≡ true → a ≡ b
print_same a b is =
    let parts = and_parts (a.len == b.len) (bytes_eq a.digest.0 b.digest.0) is in
    let len : a.len ≡ b.len = eqb-true a.len b.len parts.0 in
    let digest : a.digest.0 ≡ b.digest.0 = (bytes_eq-Decides a.digest.0 b.digest.0).0 parts.1 in
    λ i. record { len = len i; digest = record { 0 = digest i } }

print_unchanged : (want : Fingerprint) (bytes : List ℕ) → changed_bytes want bytes ≡ None → want ≡ print_of bytes
print_unchanged want bytes none = print_same want (print_of bytes) (passes (same_print want (print_of bytes)) (Changed want (print_of bytes)) none)

entry_away : (stub : Option Stub) (bytes : List ℕ) → is_offline stub ≡ true → changed_from stub bytes ≡ None → (x : Stub) × (stub ≡ Some x) × (entry_print x.entry ≡ print_of bytes)
entry_away None bytes is none = absurd (false≢true is)
entry_away (Some x) bytes is none = (x, refl, print_unchanged (entry_print x.entry) bytes none)

sealed_entry : (j : ℕ) (stub : Option Stub) → not_sealed j stub ≡ None → (x : Stub) × (stub ≡ Some x)
sealed_entry j None none = cc
sealed_entry j (Some x) none = (x, refl)

module _ (f : FileState) where
  -- the bytes of each segment that the range meets are here
  none_away : (from to : ℕ) → any_away f from to ≡ None → IsFree f.kept.stubs from to
  none_away from to none =
      unmet f.kept.stubs from to (none_refused (away f) (offline_at f.kept.stubs) (λ j is. refuses (offline_at f.kept.stubs j) (Offline j) is) (segments_met from to) none)

  pub reading_free : (offset len : ℕ) → reading_refusal f offset len ≡ None → IsFree f.kept.stubs offset (min (offset + len) (length f.body))
  reading_free offset len none =
      let to : ℕ = min (offset + len) (length f.body) in
      let past_length = none_first (bad_access len) (any_away f offset to ∷ []) none in
      let past_away = none_first (any_away f offset to) [] past_length.1 in
      none_away offset to past_away.0

  pub writing_sound : (s : Superblock) (h : Held) (offset : ℕ) (bytes : List ℕ) → writing_refusal s h f offset bytes ≡ None → (offset + length bytes ≤ length f.body) × IsSound (Writes offset bytes) f
  writing_sound s h offset bytes none =
      let end : ℕ = offset + length bytes in
      let room : Option DmRefusal = no_room s h f (Writes offset bytes) in
      let past_length = none_first (bad_access (length bytes)) (past_size end (length f.body) ∷ any_away f offset end ∷ room ∷ []) none in
      let past_end = none_first (past_size end (length f.body)) (any_away f offset end ∷ room ∷ []) past_length.1 in
      let past_away = none_first (any_away f offset end) (room ∷ []) past_end.1 in
      let within : offset + length bytes ≤ length f.body = leb-true end (length f.body) (passes (nat_le end (length f.body)) BadRange past_end.0) in
      let start : offset ≡ min offset (length f.body) = omega (arith, within) in
      (within, subst (λ n. IsFree f.kept.stubs n end) start (none_away offset end past_away.0))

  pub seal_sound : (j : ℕ) (entry : StubEntry) → seal_refusal f j entry ≡ None → IsSound (Seals j entry) f
  seal_sound j entry none =
      let change : Option DmRefusal = changed_bytes (entry_print entry) (segment j f.body) in
      let past_start = none_first (past_end j (length f.body)) (bad_volume (entry_place entry).volume ∷ away f j ∷ change ∷ []) none in
      let past_volume = none_first (bad_volume (entry_place entry).volume) (away f j ∷ change ∷ []) past_start.1 in
      let past_away = none_first (away f j) (change ∷ []) past_volume.1 in
      let past_change = none_first change [] past_away.1 in (
        ltb-true (segment_bytes * j) (length f.body) (passes (nat_lt (segment_bytes * j) (length f.body)) BadRange past_start.0),
        refuses (offline_at f.kept.stubs j) (Offline j) past_away.0,
        print_unchanged (entry_print entry) (segment j f.body) past_change.0,
      )

  pub restore_sound : (s : Superblock) (h : Held) (j : ℕ) (bytes : List ℕ) → restore_refusal s h f j bytes ≡ None → IsSound (Restores j bytes) f
  restore_sound s h j bytes none =
      let stub : Option Stub = stub_at j f.kept.stubs in
      let room : Option DmRefusal = no_room s h f (Restores j bytes) in
      let past_start = none_first (past_end j (length f.body)) (not_offline j stub ∷ changed_from stub bytes ∷ room ∷ []) none in
      let past_here = none_first (not_offline j stub) (changed_from stub bytes ∷ room ∷ []) past_start.1 in
      let past_change = none_first (changed_from stub bytes) (room ∷ []) past_here.1 in (
        ltb-true (segment_bytes * j) (length f.body) (passes (nat_lt (segment_bytes * j) (length f.body)) BadRange past_start.0),
        entry_away stub bytes (passes (offline_at f.kept.stubs j) (NotOffline j) past_here.0) past_change.0,
      )

  may_be_punched : (j : ℕ) → not_punched f.kept.regions f.kept.stubs j ≡ None → (stub : Stub) × (stub_at j f.kept.stubs ≡ Some stub) × (covers f.kept.regions j ≡ true)
  may_be_punched j none =
      let past_away = none_first (away f j) (not_sealed j (stub_at j f.kept.stubs) ∷ not_covered j f.kept.regions ∷ []) none in
      let past_sealed = none_first (not_sealed j (stub_at j f.kept.stubs)) (not_covered j f.kept.regions ∷ []) past_away.1 in
      let past_covered = none_first (not_covered j f.kept.regions) [] past_sealed.1 in
      let x = sealed_entry j (stub_at j f.kept.stubs) past_sealed.0 in
      (x.0, x.1, passes (covers f.kept.regions j) (Uncovered j) past_covered.0)

  -- a segment of the file from the first up to the second
  each_punched : (from to : ℕ) → first_refusal (map (not_punched f.kept.regions f.kept.stubs) (from_on from (min to (segments_in (length f.body)) - from))) ≡ None → (j : ℕ) → from ≤ j → j < to → segment_bytes * j < length f.body → not_punched f.kept.regions f.kept.stubs j ≡ None
  each_punched from to none j low high within =
      let count : ℕ = min to (segments_in (length f.body)) - from in
      nothing (not_punched f.kept.regions f.kept.stubs j) (none_from (λ i. is_some (not_punched f.kept.regions f.kept.stubs i)) from count j (none_refused (not_punched f.kept.regions f.kept.stubs) (λ i. is_some (not_punched f.kept.regions f.kept.stubs i)) (λ i is. ap is_some is) (from_on from count) none) low (omega (arith, low, high, within)))

  pub punch_sound : (limits : Limits) (offset len : ℕ) → punch_refusal limits f offset len ≡ None → IsSound (Punches (punch_from offset) (punch_to offset len)) f
  punch_sound limits offset len none =
      let from : ℕ = punch_from offset in
      let to : ℕ = punch_to offset len in
      let segments : Option DmRefusal = first_refusal (map (not_punched f.kept.regions f.kept.stubs) (from_on from (min to (segments_in (length f.body)) - from))) in
      let past_bounds = none_first (bad_punch limits offset len (length f.body)) (segments ∷ []) none in
      let past_segments = none_first segments [] past_bounds.1 in
      let ends : Bool = ends_well limits offset len (length f.body) in
      let bounds = and_parts (offset % segment_bytes == 0 && nat_lt offset (length f.body)) ends (passes (offset % segment_bytes == 0 && nat_lt offset (length f.body) && ends) BadRange past_bounds.0) in
      let start = and_parts (offset % segment_bytes == 0) (nat_lt offset (length f.body)) bounds.0 in
      let below : offset < length f.body = ltb-true offset (length f.body) start.1 in
      (omega (arith, below), λ j low high within. may_be_punched j (each_punched from to past_segments.0 j low high within))
