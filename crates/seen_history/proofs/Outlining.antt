-- What is known of files without their bytes: it tells their names, which of them live and how many bytes they have, and it follows each effect.
use Rattle.std.proofs.Common.{◌≡◌, ◌<◌, ◌-◌, ◌*◌, ℕ, min, List, [], ◌∷◌, length, map, replicate, Option, Some, None}
use Rattle.std.proofs.Common.{refl, sym, ◌∙◌, ap, subst, arith}
use Rattle.std.proofs.lemmas.List.{length-replicate}
use Rattle.std.specs.Prelude.{is_some, IfSome}
use Rattle.std.specs.Option.{option_map}
use Rattle.hsm_types.specs.Keyed.{find_key, change_key, put_key, drop_key}
use Rattle.hsm_types.specs.Limits.{segment_bytes}
use Rattle.hsm_types.specs.Segments.{segment_len}
use Rattle.hsm_types.specs.declared.keys.FileKey.{FileKey}
use Rattle.plain_model.specs.Blocks.{size_after}
use Rattle.plain_model.specs.Effects.{Effect, Leaves, Makes, Drops, Writes, Resizes, Punches, Restores}
use Rattle.plain_model.specs.Plain.{File, Listed, listing, rebody, body_or_none, body_of, affected}
use Rattle.plain_model.specs.State.{FileState, new_file, names_of, file_or_new, bytes_of, rebody_held, remade, affected_held}
use Rattle.plain_model.proofs.Bodies.{length-resized, length-written}
use Rattle.seen_history.specs.Outlines.{Outline, outline, held_outline, outlines, held_outlines}
use Rattle.seen_history.proofs.Mapped.{find_mapped, put_mapped, drop_mapped, change_mapped, change_kept}

-- ---- what it tells

abbrev name_of : Outline → Listed
name_of o = record { key = o.key; name = o.name }

held_names : (fs : List FileState) → map name_of (held_outlines fs) ≡ names_of fs
held_names [] = refl
held_names (f ∷ fs) = ap (λ (xs : List Listed). record { key = f.key; name = f.name } ∷ xs) (held_names fs)

plain_names : (gs : List File) → map name_of (outlines gs) ≡ listing gs
plain_names [] = refl
plain_names (g ∷ gs) = ap (λ (xs : List Listed). record { key = g.key; name = g.name } ∷ xs) (plain_names gs)

abbrev found : FileKey → List Outline → Option Outline
found k os = find_key (λ o. o.key) k os

abbrev size_or_none : Option Outline → ℕ
size_or_none None = 0
size_or_none (Some o) = o.size

held_size : (k : FileKey) (o : Option FileState) → size_or_none (option_map held_outline o) ≡ length (file_or_new k o).body
held_size k None = refl
held_size k (Some f) = refl

plain_size : (o : Option File) → size_or_none (option_map outline o) ≡ length (body_or_none o)
plain_size None = refl
plain_size (Some g) = refl

lives : {F : Type 0} (of : F → Outline) (o : Option F) → is_some (option_map of o) ≡ is_some o
lives of None = refl
lives of (Some f) = refl

module _ (fs : List FileState) (gs : List File) (same : held_outlines fs ≡ outlines gs) where
  pub names_same : names_of fs ≡ listing gs
  names_same = sym (held_names fs) ∙ ap (map name_of) same ∙ plain_names gs

  same_found : (k : FileKey) → option_map held_outline (find_key (λ f. f.key) k fs) ≡ option_map outline (find_key (λ g. g.key) k gs)
  same_found k = sym (find_mapped (λ (o : Outline). o.key) held_outline k fs) ∙ ap (found k) same ∙ find_mapped (λ (o : Outline). o.key) outline k gs

  pub size_same : (k : FileKey) → length (bytes_of k fs) ≡ length (body_of k gs)
  size_same k = sym (held_size k (find_key (λ f. f.key) k fs)) ∙ ap size_or_none (same_found k) ∙ plain_size (find_key (λ g. g.key) k gs)

  pub live_same : (k : FileKey) → is_some (find_key (λ f. f.key) k fs) ≡ is_some (find_key (λ g. g.key) k gs)
  live_same k = sym (lives held_outline (find_key (λ f. f.key) k fs)) ∙ ap is_some (same_found k) ∙ lives outline (find_key (λ g. g.key) k gs)

-- ---- after an effect

-- what comes back fills its segment, and what is punched begins within the file
abbrev pub FitsSize : Effect → ℕ → Type 0
FitsSize (Restores j bytes) size = (segment_bytes * j < size) × (length bytes ≡ segment_len size j)
FitsSize (Punches from to) size = segment_bytes * from < size
FitsSize effect size = Unit {0}

abbrev resized_by : Effect → Outline → Outline
resized_by e o = record o { size = size_after e o.size }

abbrev affected_outline : Effect → FileKey → List Outline → List Outline
affected_outline Leaves k os = os
affected_outline (Makes name) k os = put_key (λ o. o.key) (record { key = k; name = name; size = 0 }) os
affected_outline Drops k os = drop_key (λ o. o.key) k os
affected_outline e k os = change_key (λ o. o.key) k (resized_by e) os

held_length : (e : Effect) (body : List ℕ) → FitsSize e (length body) → length (rebody_held e body) ≡ size_after e (length body)
held_length (Writes o bytes) body fits = length-written o bytes body
held_length (Resizes n) body fits = length-resized n body
held_length (Restores j bytes) body fits = omega (arith, fits.0, fits.1, length-written (segment_bytes * j) bytes body)
held_length (Punches from to) body fits =
    let count : ℕ = min (segment_bytes * to) (length body) - segment_bytes * from in
    omega (arith, fits, length-written (segment_bytes * from) (replicate count 0) body, length-replicate {A = ℕ} count 0)
held_length e body fits = refl

plain_length : (e : Effect) (body : List ℕ) → FitsSize e (length body) → length (rebody e body) ≡ size_after e (length body)
plain_length (Writes o bytes) body fits = length-written o bytes body
plain_length (Resizes n) body fits = length-resized n body
plain_length (Restores j bytes) body fits = omega (arith, fits.0, fits.1, length-written (segment_bytes * j) bytes body)
plain_length e body fits = refl

implied : {F : Type 0} (P Q : F → Type 0) (o : Option F) → ((f : F) → P f → Q f) → IfSome o P → IfSome o Q
implied P Q None each is = tt
implied P Q (Some f) each is = each f is

held_changed : (e : Effect) (k : FileKey) (fs : List FileState) → IfSome (find_key (λ f. f.key) k fs) (λ f. FitsSize e (length f.body))
    → held_outlines (change_key (λ f. f.key) k (remade e) fs) ≡ change_key (λ o. o.key) k (resized_by e) (held_outlines fs)
held_changed e k fs fits =
    change_mapped (λ (o : Outline). o.key) held_outline k (remade e) (resized_by e) fs
    (implied (λ f. FitsSize e (length f.body)) (λ f. held_outline (remade e f) ≡ resized_by e (held_outline f)) (find_key (λ f. f.key) k fs)
    (λ f is. ap (λ (n : ℕ). record { key = f.key; name = f.name; size = n }) (held_length e f.body is)) fits)

held_affected : (e : Effect) (k : FileKey) (fs : List FileState) → IfSome (find_key (λ f. f.key) k fs) (λ f. FitsSize e (length f.body)) → held_outlines (affected_held e k fs) ≡ affected_outline e k (held_outlines fs)
held_affected Leaves k fs fits = refl
held_affected (Makes name) k fs fits = put_mapped (λ (o : Outline). o.key) held_outline (new_file k name) fs
held_affected Drops k fs fits = drop_mapped (λ (o : Outline). o.key) held_outline k fs
held_affected e k fs fits = held_changed e k fs fits

plain_changed : (e : Effect) (k : FileKey) (gs : List File) → IfSome (find_key (λ g. g.key) k gs) (λ g. FitsSize e (length g.body))
    → outlines (change_key (λ g. g.key) k (λ g. record g { body = rebody e g.body }) gs) ≡ change_key (λ o. o.key) k (resized_by e) (outlines gs)
plain_changed e k gs fits =
    change_mapped (λ (o : Outline). o.key) outline k (λ g. record g { body = rebody e g.body }) (resized_by e) gs
    (implied (λ g. FitsSize e (length g.body)) (λ g. outline (record g { body = rebody e g.body }) ≡ resized_by e (outline g)) (find_key (λ g. g.key) k gs)
    (λ g is. ap (λ (n : ℕ). record { key = g.key; name = g.name; size = n }) (plain_length e g.body is)) fits)

plain_affected : (e : Effect) (k : FileKey) (gs : List File) → IfSome (find_key (λ g. g.key) k gs) (λ g. FitsSize e (length g.body)) → outlines (affected e k gs) ≡ affected_outline e k (outlines gs)
plain_affected Leaves k gs fits = refl
plain_affected (Makes name) k gs fits = put_mapped (λ (o : Outline). o.key) outline (record { key = k; name = name; body = [] }) gs
plain_affected Drops k gs fits = drop_mapped (λ (o : Outline). o.key) outline k gs
plain_affected (Writes o bytes) k gs fits = plain_changed (Writes o bytes) k gs fits
plain_affected (Resizes n) k gs fits = plain_changed (Resizes n) k gs fits
plain_affected (Restores j bytes) k gs fits = plain_changed (Restores j bytes) k gs fits
plain_affected e k gs fits = sym (change_kept (λ (o : Outline). o.key) k (resized_by e) (outlines gs) (λ o. refl))

held_found : (k : FileKey) (P : ℕ → Type 0) (o : Option FileState) → P (length (file_or_new k o).body) → IfSome o (λ f. P (length f.body))
held_found k P None is = tt
held_found k P (Some f) is = is

plain_found : (P : ℕ → Type 0) (o : Option File) → P (length (body_or_none o)) → IfSome o (λ g. P (length g.body))
plain_found P None is = tt
plain_found P (Some g) is = is

-- the store's files and the map's are the same but for bytes after the same effect
pub affected_same : (e : Effect) (k : FileKey) (fs : List FileState) (gs : List File) → held_outlines fs ≡ outlines gs → FitsSize e (length (bytes_of k fs)) → held_outlines (affected_held e k fs) ≡ outlines (affected e k gs)
affected_same e k fs gs same fits =
    held_affected e k fs (held_found k (FitsSize e) (find_key (λ f. f.key) k fs) fits) ∙ ap (affected_outline e k) same
    ∙ sym (plain_affected e k gs (plain_found (FitsSize e) (find_key (λ g. g.key) k gs) (subst (FitsSize e) (size_same fs gs same k) fits)))

-- so are two maps of which one gets back other bytes than the other
pub restored_same : (j : ℕ) (bytes other : List ℕ) (k : FileKey) (gs : List File) → FitsSize (Restores j bytes) (length (body_of k gs)) → length other ≡ length bytes
    → outlines (affected (Restores j other) k gs) ≡ outlines (affected (Restores j bytes) k gs)
restored_same j bytes other k gs fits many =
    plain_affected (Restores j other) k gs (plain_found (FitsSize (Restores j other)) (find_key (λ g. g.key) k gs) (fits.0, many ∙ fits.1))
    ∙ sym (plain_affected (Restores j bytes) k gs (plain_found (FitsSize (Restores j bytes)) (find_key (λ g. g.key) k gs) fits))
