-- Stub entries fit their files after each effect that fits these.
use Rattle.std.proofs.Common.{◌≡◌, ◌≤◌, ◌<◌, ◌+◌, ◌-◌, ◌*◌, ℕ, min, max, List, [], ◌∷◌, length, replicate, Bool, true, false, Option, Some, None}
use Rattle.std.proofs.Common.{refl, sym, ◌∙◌, ap, subst, ⊎_elim, arith}
use Rattle.std.proofs.lemmas.List.{length-replicate}
use Rattle.std.proofs.lemmas.Bool.{eqb-true, false≢true, cases_lt, leb-true, ltb-true, and_parts}
use Rattle.std.specs.Prelude.{◌&&◌, ◌==◌, nat_lt, nat_le, if◌then◌else◌, IfSome}
use Rattle.std.specs.List.{AllByRecursion}
use Rattle.hsm_types.specs.Keyed.{same_key, find_key}
use Rattle.hsm_types.specs.Kept.{Kept}
use Rattle.hsm_types.specs.Limits.{segment_bytes}
use Rattle.hsm_types.specs.Regions.{covers}
use Rattle.hsm_types.specs.Segments.{segment_len, meets_segment}
use Rattle.hsm_types.specs.Stubs.{stub_at, is_offline, offline_at, entry_print}
use Rattle.hsm_types.specs.declared.keys.FileKey.{FileKey}
use Rattle.hsm_types.specs.declared.regions.Region.{Region}
use Rattle.hsm_types.specs.declared.stubs.Stub.{Stub}
use Rattle.hsm_types.proofs.Stubbing.{set_away, seal_of, stub_at-unsealed, stub_at-sealed, stub_at-punched, stub_at-restored}
use Rattle.plain_model.specs.Effects.{Effect, Leaves, Makes, Drops, Writes, Resizes, Manages, Seals, Punches, Restores}
use Rattle.plain_model.specs.State.{FileState, new_file, file_or_new, file_at, remade, affected_held}
use Rattle.plain_model.proofs.Bodies.{length-resized, length-written}
use Rattle.plain_model.proofs.Meeting.{behind}
use Rattle.seen_history.specs.Outlines.{FitsSegment, FitStubs}
use Rattle.seen_history.proofs.Mapped.{put_all, drop_all, change_all}
use Rattle.seen_history.proofs.Outlining.{FitsSize}

-- The effect fits a file of that size with which that is kept. A segment is sealed by an entry of its length; each that goes away is covered, and regions
-- cover each one that is away; what comes back fills its segment.
abbrev pub Fits : Effect → ℕ → Kept → Type 0
Fits (Manages regions) size kept = (j : ℕ) → offline_at kept.stubs j ≡ true → covers regions j ≡ true
Fits (Seals j entry) size kept = (segment_bytes * j < size) × ((entry_print entry).len ≡ segment_len size j)
Fits (Punches from to) size kept = (segment_bytes * from < size) × ((j : ℕ) → from ≤ j → j < to → segment_bytes * j < size → covers kept.regions j ≡ true)
Fits (Restores j bytes) size kept = (segment_bytes * j < size) × (length bytes ≡ segment_len size j)
Fits effect size kept = Unit {0}

pub fits_size : (e : Effect) (size : ℕ) (kept : Kept) → Fits e size kept → FitsSize e size
fits_size (Punches from to) size kept fits = fits.0
fits_size (Restores j bytes) size kept fits = fits
fits_size e size kept fits = tt

-- ---- one file

-- by the entry that each segment has, and the size
fit_by : (f : FileState) (size : ℕ) (now : ℕ → Option Stub) → length f.body ≡ size → ((j : ℕ) → stub_at j f.kept.stubs ≡ now j) → ((j : ℕ) → IfSome (now j) (FitsSegment size f.kept.regions j)) → FitStubs f
fit_by f size now many is fits j =
    subst (λ n. IfSome (stub_at j f.kept.stubs) (FitsSegment n f.kept.regions j)) (sym many) (subst (λ o. IfSome o (FitsSegment size f.kept.regions j)) (sym (is j)) (fits j))

-- a segment that a write doesn't meet has as many bytes as before
written_len : (o n size j : ℕ) → meets_segment (min o size) (o + n) j ≡ false → segment_bytes * j < size → segment_len (max size (o + n)) j ≡ segment_len size j
written_len o n size j none start =
    ⊎_elim (λ (grows : size < o + n). let below = behind (min o size) (o + n) j none (omega arith) (omega arith) in omega arith) (λ (within : o + n ≤ size). ap (λ m. segment_len m j) (omega arith)) (cases_lt size (o + n))

resized_len : (n size j : ℕ) → meets_segment (min n size) (max n size) j ≡ false → segment_bytes * j < size → (segment_bytes * j < n) × (segment_len n j ≡ segment_len size j)
resized_len n size j none start =
    ⊎_elim (λ (grows : size < n). let below = behind (min n size) (max n size) j none (omega arith) (omega arith) in (omega arith, omega arith))
    (λ (not_longer : n ≤ size).
    ⊎_elim (λ (shrinks : n < size). let below = behind (min n size) (max n size) j none (omega arith) (omega arith) in (omega arith, omega arith)) (λ (same : size ≤ n). (omega arith, ap (λ m. segment_len m j) (omega arith)))
    (cases_lt n size)) (cases_lt size n)

-- an entry that may have been dropped
left_fits : (b : Bool) (size now : ℕ) (regions : List Region) (j : ℕ) (stub : Option Stub) → (b ≡ false → segment_bytes * j < size → (segment_bytes * j < now) × (segment_len now j ≡ segment_len size j))
    → IfSome stub (FitsSegment size regions j) → IfSome (if b then None else stub) (FitsSegment now regions j)
left_fits true size now regions j stub same fits = tt
left_fits false size now regions j None same fits = tt
left_fits false size now regions j (Some x) same fits = let is = same refl fits.start in record { start = is.0; len = fits.len ∙ sym is.1; covered = fits.covered }

-- one whose segment is here then
here_fits : (size : ℕ) (regions : List Region) (j : ℕ) (stub : Option Stub) → IfSome stub (FitsSegment size regions j) → IfSome (set_away false stub) (FitsSegment size regions j)
here_fits size regions j None fits = tt
here_fits size regions j (Some x) fits = record { start = fits.start; len = fits.len; covered = λ away. absurd (false≢true away) }

-- one whose segment is away then
away_fits : (size : ℕ) (regions : List Region) (j : ℕ) (stub : Option Stub) → (segment_bytes * j < size → covers regions j ≡ true) → IfSome stub (FitsSegment size regions j) → IfSome (set_away true stub) (FitsSegment size regions j)
away_fits size regions j None covered fits = tt
away_fits size regions j (Some x) covered fits = record { start = fits.start; len = fits.len; covered = λ away. covered fits.start }

managed_fits : (size : ℕ) (regions now : List Region) (j : ℕ) (stub : Option Stub) → (IfSome stub (λ x. x.offline ≡ true → covers now j ≡ true)) → IfSome stub (FitsSegment size regions j) → IfSome stub (FitsSegment size now j)
managed_fits size regions now j None covered fits = tt
managed_fits size regions now j (Some x) covered fits = record { start = fits.start; len = fits.len; covered = covered }

covered_if : (stub : Option Stub) (P : Type 0) → (is_offline stub ≡ true → P) → IfSome stub (λ x. x.offline ≡ true → P)
covered_if None P is = tt
covered_if (Some x) P is = is

either : (P : Option Stub → Type 0) (b : Bool) (x y : Option Stub) → (b ≡ true → P x) → (b ≡ false → P y) → P (if b then x else y)
either P true x y on off = on refl
either P false x y on off = off refl

pub remade_fits : (e : Effect) (f : FileState) → Fits e (length f.body) f.kept → FitStubs f → FitStubs (remade e f)
remade_fits (Writes o bytes) f sound fit =
    let from : ℕ = min o (length f.body) in
    let to : ℕ = o + length bytes in
    let now : ℕ = max (length f.body) to in
    fit_by (remade (Writes o bytes) f) now (λ j. if meets_segment from to j then None else stub_at j f.kept.stubs) (length-written o bytes f.body) (stub_at-unsealed from to f.kept.stubs)
    (λ j. left_fits (meets_segment from to j) (length f.body) now f.kept.regions j (stub_at j f.kept.stubs) (λ none start. (omega arith, written_len o (length bytes) (length f.body) j none start)) (fit j))
remade_fits (Resizes n) f sound fit =
    let from : ℕ = min n (length f.body) in
    let to : ℕ = max n (length f.body) in
    fit_by (remade (Resizes n) f) n (λ j. if meets_segment from to j then None else stub_at j f.kept.stubs) (length-resized n f.body) (stub_at-unsealed from to f.kept.stubs)
    (λ j. left_fits (meets_segment from to j) (length f.body) n f.kept.regions j (stub_at j f.kept.stubs) (λ none start. resized_len n (length f.body) j none start) (fit j))
remade_fits (Restores j bytes) f sound fit =
    fit_by (remade (Restores j bytes) f) (length f.body) (λ q. if q == j then set_away false (stub_at q f.kept.stubs) else stub_at q f.kept.stubs)
    (omega (arith, sound.0, sound.1, length-written (segment_bytes * j) bytes f.body)) (stub_at-restored j f.kept.stubs)
    (λ q. either (λ o. IfSome o (FitsSegment (length f.body) f.kept.regions q)) (q == j) (set_away false (stub_at q f.kept.stubs)) (stub_at q f.kept.stubs)
    (λ it. here_fits (length f.body) f.kept.regions q (stub_at q f.kept.stubs) (fit q)) (λ other. fit q))
remade_fits (Seals j entry) f sound fit =
    let new : Option Stub = Some (seal_of entry) in
    fit_by (remade (Seals j entry) f) (length f.body) (λ q. if q == j then new else stub_at q f.kept.stubs) refl (stub_at-sealed j entry f.kept.stubs)
    (λ q. either (λ o. IfSome o (FitsSegment (length f.body) f.kept.regions q)) (q == j) new (stub_at q f.kept.stubs)
    (λ it. subst (λ n. FitsSegment (length f.body) f.kept.regions n (seal_of entry)) (sym (eqb-true q j it)) (record { start = sound.0; len = sound.1; covered = λ away. absurd (false≢true away) })) (λ other. fit q))
remade_fits (Punches from to) f sound fit =
    let count : ℕ = min (segment_bytes * to) (length f.body) - segment_bytes * from in
    fit_by (remade (Punches from to) f) (length f.body) (λ q. if nat_le from q && nat_lt q to then set_away true (stub_at q f.kept.stubs) else stub_at q f.kept.stubs)
    (omega (arith, sound.0, length-written (segment_bytes * from) (replicate count 0) f.body, length-replicate {A = ℕ} count 0)) (stub_at-punched from to f.kept.stubs)
    (λ q. either (λ o. IfSome o (FitsSegment (length f.body) f.kept.regions q)) (nat_le from q && nat_lt q to) (set_away true (stub_at q f.kept.stubs)) (stub_at q f.kept.stubs)
    (λ inside. let parts = and_parts (nat_le from q) (nat_lt q to) inside in away_fits (length f.body) f.kept.regions q (stub_at q f.kept.stubs) (sound.1 q (leb-true from q parts.0) (ltb-true q to parts.1)) (fit q)) (λ out. fit q))
remade_fits (Manages regions) f sound fit =
    λ j. managed_fits (length f.body) f.kept.regions regions j (stub_at j f.kept.stubs) (covered_if (stub_at j f.kept.stubs) (covers regions j ≡ true) (sound j)) (fit j)
remade_fits e f sound fit = fit

-- ---- all files

new_fits : (k : FileKey) (name : List ℕ) → FitStubs (new_file k name)
new_fits k name j = tt

fits_found : (e : Effect) (k : FileKey) (o : Option FileState) → Fits e (length (file_or_new k o).body) (file_or_new k o).kept → IfSome o (λ f. Fits e (length f.body) f.kept)
fits_found e k None is = tt
fits_found e k (Some f) is = is

pub affected_fits : (e : Effect) (k : FileKey) (fs : List FileState) → Fits e (length (file_at k fs).body) (file_at k fs).kept → AllByRecursion FitStubs fs → AllByRecursion FitStubs (affected_held e k fs)
affected_fits Leaves k fs sound all = all
affected_fits (Makes name) k fs sound all = put_all FitStubs (λ f. f.key) (new_file k name) fs (new_fits k name) all
affected_fits Drops k fs sound all = drop_all FitStubs (λ f. f.key) k fs all
affected_fits e k fs sound all =
    change_all FitStubs (λ f. Fits e (length f.body) f.kept) (λ f. f.key) k (remade e) fs (remade_fits e) (fits_found e k (find_key (λ f. f.key) k fs) sound) all

file_if : (k : FileKey) (b : Bool) (f : FileState) (o : Option FileState) → FitStubs f → FitStubs (file_or_new k o) → FitStubs (file_or_new k (if b then Some f else o))
file_if k true f o here there = here
file_if k false f o here there = there

-- the file with that key
pub file_fits : (k : FileKey) (fs : List FileState) → AllByRecursion FitStubs fs → FitStubs (file_at k fs)
file_fits k [] all = new_fits k []
file_fits k (f ∷ fs) all = file_if k (same_key f.key k) f (find_key (λ x. x.key) k fs) all.0 (file_fits k fs all.1)
