-- Sealing a segment of a live file: that its record can come; and of the bytes by which one comes back.
use Rattle.file_store.proofs.Names.{arith, ◌≡◌, ◌+◌, ◌*◌, ◌<◌, ◌≤◌, ℕ, List, length, true, false, Some, refl, sym, ◌∙◌, ap, subst, IsSome, FileKey}
use Rattle.file_store.proofs.Names.{find_key, bytes_of, Record, Stub, geometry_of, key_on, CanStand, Meta, IsMeta, IsHeldFiles, HeldBody, held_with}
use Rattle.file_store.proofs.Names.{bytes_with, IsBodiless, Kept, each-found, IsCatalogFile, size-few}
use Rattle.std.specs.Prelude.{IfSome}
use Rattle.std.proofs.lemmas.Option.{same_Some}
use Rattle.hsm_types.specs.Limits.{file_bytes, segment_bytes, last_volume}
use Rattle.hsm_types.specs.Segments.{segment_len}
use Rattle.hsm_types.specs.Stubs.{stub_at, offline_at, print_of, entry_place, entry_print}
use Rattle.hsm_types.specs.declared.stubs.StubEntry.{StubEntry}
use Rattle.plain_model.proofs.Bodies.{length-read}
use Rattle.plain_model.specs.Plain.{segment}
use Rattle.plain_model.specs.Services.{kept_of}
use Rattle.snapshot_text.specs.Files.{HasLengths}
use Rattle.file_store.specs.Effects.{IsSeal}
use Rattle.file_store.proofs.Loaded.{entry-has}
use Rattle.file_store.proofs.SoundChanges.{restores-lawful, of-length}
use Rattle.file_store.proofs.FilesBy.{kept-found, key_on-live}
use Rattle.file_store.proofs.WithBodies.{IsFound, live-held, body-held, is-body}

abbrev sealing : ℕ → StubEntry → FileKey → Record
sealing j entry k = Stub k.ino j (Some (record { entry = entry; offline = false }))

module _ {bs : List HeldBody} {m : Meta} (is : IsHeldFiles bs m) (k : FileKey) (live : IsSome (find_key (λ f. f.key) k (held_with bs m.current).files)) (j : ℕ) (entry : StubEntry) where
  at : IsFound (length bs) m.current k
  at = live-held is k live

  key : key_on k.ino m.current ≡ k
  key = key_on-live m.current k at.file is.catalog at.found

  module _ (resident : offline_at (kept_of k (held_with bs m.current).files).stubs j ≡ false) (start : segment_bytes * j < length (bytes_of k (held_with bs m.current).files)) (volume : (entry_place entry).volume ≤ last_volume)
      (len : (entry_print entry).len ≡ length (segment j (bytes_of k (held_with bs m.current).files))) where
    here : offline_at at.file.kept.stubs j ≡ false
    here = ap (λ (x : Kept). offline_at x.stubs j) (sym (kept-found (bytes_with bs) m.current k at.file at.found)) ∙ resident

    size : length (bytes_of k (held_with bs m.current).files) ≡ at.file.size
    size = ap length (body-held bs m.current k at.file at.found) ∙ (is-body is at).size

    of_length : (entry_print entry).len ≡ segment_len at.file.size j
    of_length =
        let body : List ℕ = bytes_of k (held_with bs m.current).files in
        len ∙ length-read (segment_bytes * j) segment_bytes body ∙ ap (λ n. segment_len n j) size

    pub seals : IsBodiless k (sealing j entry k) m.current
    seals = (key, λ f found. let same : at.file ≡ f = same_Some at.file f (sym at.found ∙ (rw key at found)) in subst (IsSeal j (record { entry = entry; offline = false })) same (record { stays = refl; here = here; len = of_length }))

    pub can_seal : CanStand (sealing j entry k) m.current
    can_seal = (at.file, ap (λ (i : FileKey). find_key (λ f. f.key) i m.current.files) key ∙ at.found, record { fits = grind (arith, size, start, volume); turns = grind (arith, here) })

-- ---- the bytes by which a segment comes back

-- they are as many as the entry says, which has the length of its segment
pub comes_back : {bs : List HeldBody} {m : Meta} → IsHeldFiles bs m → IsMeta m → (k : FileKey) → IsSome (find_key (λ f. f.key) k (held_with bs m.current).files) → (j : ℕ) (bytes : List ℕ)
    → offline_at (kept_of k (held_with bs m.current).files).stubs j ≡ true → IfSome (stub_at j (kept_of k (held_with bs m.current).files).stubs) (λ stub. entry_print stub.entry ≡ print_of bytes)
    → segment_bytes * j < length (bytes_of k (held_with bs m.current).files) → (1 ≤ length bytes) × (length bytes ≤ segment_bytes) × (segment_bytes * j + length bytes ≤ file_bytes)
comes_back {bs} {m} is lawful k live j bytes off print start =
    let at = live-held is k live in
    let lengths = each-found HasLengths k at.file m.current.files lawful.stored.now at.found in
    let file = each-found (IsCatalogFile (geometry_of m.current.geometry)) k at.file m.current.files lawful.current.each at.found in
    let kept = kept-found (bytes_with bs) m.current k at.file at.found in
    let size : length (bytes_of k (held_with bs m.current).files) ≡ at.file.size = ap length (body-held bs m.current k at.file at.found) ∙ (is-body is at).size in
    let long = of-length (stub_at j at.file.kept.stubs) bytes (segment_len at.file.size j) (rw kept at off) (rw kept at print) (entry-has (λ x. (entry_print x.1.entry).len ≡ segment_len at.file.size x.0) j at.file.kept.stubs lengths) in
    restores-lawful at.file.size j (length bytes) long (rw size at start) (size-few m.current.geometry at.file file)
