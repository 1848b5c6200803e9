-- What refuses a session's call, where files are seen: but for the bytes of a seal it goes by all else of them.
use Rattle.std.proofs.Common.{◌≡◌, ℕ, ◌+◌, ◌-◌, min, List, [], ◌∷◌, length, map, Option, None, refl, sym, ◌∙◌, ap, arith}
use Rattle.std.proofs.lemmas.List.Sums.{sum_by-cons}
use Rattle.hsm_types.specs.Refusals.{first_refusal}
use Rattle.hsm_types.specs.Segments.{segments_met}
use Rattle.hsm_types.specs.Stubs.{stub_at, already_offline, entry_place, entry_print}
use Rattle.hsm_types.specs.declared.keys.FileKey.{FileKey}
use Rattle.hsm_types.specs.declared.stubs.StubEntry.{StubEntry}
use Rattle.hsm_types.specs.declared.dm.DmRefusal.{DmRefusal}
use Rattle.plain_model.specs.Plain.{segment}
use Rattle.plain_model.specs.Seen.{blank, IsSeen}
use Rattle.plain_model.specs.Segments.{bad_access, bad_volume, past_end, changed_bytes, reading_refusal, seal_refusal}
use Rattle.plain_model.specs.Services.{kept_of, stub_total, other_stubs}
use Rattle.plain_model.specs.State.{FileState, Held, file_at, bytes_of}
use Rattle.hsm_core.specs.Services.{unread_refusals}
use Rattle.plain_model.proofs.Alike.{size_alike, kept_alike}
use Rattle.hsm_core.proofs.Refusing.{all_pass, alone}

-- ---- by a file

stubs_blank : (files : List FileState) → stub_total (map blank files) ≡ stub_total files
stubs_blank [] = refl
stubs_blank (f ∷ files) =
    grind (arith, sum_by-cons (λ (f : FileState). length f.kept.stubs) f files, sum_by-cons (λ (f : FileState). length f.kept.stubs) (blank f) (map blank files), stubs_blank files)

module _ {Told : Type 0} (h seen : Held) (is : IsSeen Told h seen) (k : FileKey) where
  pub kept_seen : kept_of k seen.files ≡ kept_of k h.files
  kept_seen = kept_alike h seen is.alike k

  size_seen : length (bytes_of k seen.files) ≡ length (bytes_of k h.files)
  size_seen = size_alike h seen is.alike k

  pub other_stubs_seen : other_stubs k seen.files ≡ other_stubs k h.files
  other_stubs_seen =
      let total : stub_total seen.files ≡ stub_total h.files = sym (stubs_blank seen.files) ∙ ap (λ (x : Held). stub_total x.files) is.alike ∙ stubs_blank h.files in
      λ i. total i - length (kept_seen i).stubs

  pub reading_seen : (offset len : ℕ) → reading_refusal (file_at k seen.files) offset len ≡ reading_refusal (file_at k h.files) offset len
  reading_seen offset len = λ i.
      first_refusal (bad_access len ∷ first_refusal (map (λ j. already_offline j (stub_at j (kept_seen i).stubs)) (segments_met offset (min (offset + len) (size_seen i)))) ∷ [])

  unread_seen : (j : ℕ) (entry : StubEntry) → unread_refusals (file_at k seen.files) j entry ≡ unread_refusals (file_at k h.files) j entry
  unread_seen j entry = λ i. past_end j (size_seen i) ∷ bad_volume (entry_place entry).volume ∷ already_offline j (stub_at j (kept_seen i).stubs) ∷ []

  -- where nothing else refuses a seal, the bytes decide
  pub seal_seen : (j : ℕ) (entry : StubEntry) → first_refusal (unread_refusals (file_at k h.files) j entry) ≡ None → seal_refusal (file_at k seen.files) j entry ≡ changed_bytes (entry_print entry) (segment j (bytes_of k seen.files))
  seal_seen j entry none =
      let own : Option DmRefusal = changed_bytes (entry_print entry) (segment j (bytes_of k seen.files)) in
      all_pass (unread_refusals (file_at k seen.files) j entry) (own ∷ []) (ap first_refusal (unread_seen j entry) ∙ none) ∙ alone own
