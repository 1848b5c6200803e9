-- A change of the bytes of a file that is sound: which of its segments are here, before it and after it, and that its entries keep their lengths.
use Rattle.file_store.proofs.Names.{◌≡◌, ℕ, ◌+◌, ◌-◌, ◌*◌, ◌/◌, ◌<◌, ◌≤◌, min, max, List, [], ◌∷◌, length, Bool, true, false, ◌&&◌, Option, Some}
use Rattle.file_store.proofs.Names.{None, refl, sym, ◌∙◌, ap, subst, arith, ltb, AllByRecursion, false≢true, and_parts, ltb-true, and_from, Rewrite}
use Rattle.file_store.proofs.Names.{Write, Resize, Restore, effect_of, unseals, IsRewrite, IsWithin, HasEntry, BringsOffline, BringsAway, HasRoom}
use Rattle.file_store.proofs.Names.{HasRange, brings, spares, touched, rekept, remapped, Mapping, CatalogFile, IsCatalogFile, file_by, HeldBody}
use Rattle.file_store.proofs.Names.{is_away, IsHere, Geometry}
use Rattle.std.specs.Prelude.{not, nat_lt, IfSome}
use Rattle.std.specs.Option.{option_map}
use Rattle.std.proofs.lemmas.Bool.Decides.{nat_tests}
use Rattle.std.proofs.Math.Bool.{and-true, and-false}
use Rattle.std.proofs.lemmas.Bool.{ltb-false, cases_eq, eq-eqb, ne_eqb}
use Rattle.hsm_types.specs.Limits.{file_bytes, segment_bytes, segment_blocks}
use Rattle.hsm_types.specs.Segments.{segment_len, meets_segment}
use Rattle.hsm_types.specs.Stubs.{Stubs, print_of, stub_at, is_offline, offline_at, moved, restored, unsealed, entry_print}
use Rattle.hsm_types.specs.declared.stubs.Fingerprint.{Fingerprint}
use Rattle.hsm_types.specs.declared.stubs.Stub.{Stub as StubOf}
use Rattle.hsm_types.proofs.Stubbing.{stub_at-unsealed, stub_at-restored}
use Rattle.plain_model.specs.Sound.{IsSound}
use Rattle.snapshot_text.specs.Files.{HasLengths}
use Rattle.snapshot_text.proofs.StubLists.{each-at as stub-each}
use Rattle.file_store.proofs.ByteChanges.{touched-each}
use Rattle.file_store.proofs.Loaded.{offline-some}
use Rattle.file_store.proofs.UnsealedEntries.{each-filter}

-- ---- what soundness says of the file of a catalog

pub record Allowed (change : Rewrite) (f : CatalogFile) : Type 0 where
  pub within : IsWithin change f.size
  pub entry : HasEntry change f.kept.stubs
  pub free : (j : ℕ) → unseals change f.size j ≡ true → offline_at f.kept.stubs j ≡ false
  pub starts : (j : ℕ) → offline_at f.kept.stubs j ≡ true → segment_bytes * j < f.size

-- a segment with an entry begins within the file
offline-starts : (geometry : Geometry) (f : CatalogFile) → IsCatalogFile geometry f → (j : ℕ) → offline_at f.kept.stubs j ≡ true → segment_bytes * j < f.size
offline-starts geometry f lawful j off = grind (arith, offline-some, stub-each)

unless : (b : Bool) → (b ≡ true → b ≡ false) → b ≡ false
unless true step = step refl
unless false step = refl

meets-parts : (from to j : ℕ) → meets_segment from to j ≡ true → (from < to) × (from < segment_bytes * j + segment_bytes) × (segment_bytes * j < to)
meets-parts from to j meets = grind arith

meets-from : (from to j : ℕ) → from < to → from < segment_bytes * j + segment_bytes → segment_bytes * j < to → meets_segment from to j ≡ true
meets-from from to j some low high = grind arith

module _ (B : CatalogFile → List ℕ) (f : CatalogFile) (geometry : Geometry) (lawful : IsCatalogFile geometry f) (lengths : HasLengths f) (size : length (B f) ≡ f.size) where
  pub allowed : (change : Rewrite) → IsSound (effect_of change) (file_by B f) → Allowed change f
  allowed (Write offset bytes) sound = record { within = tt; entry = tt; free = λ j drops. sound j (rw size drops); starts = offline-starts geometry f lawful }
  allowed (Resize to) sound = record {
    within = tt;
    entry = tt;
    free = λ j drops.
        let parts = and_parts (meets_segment (min to f.size) (max to f.size) j) (ltb (segment_bytes * j) to) drops in
        let meets = meets-parts (min to f.size) (max to f.size) j parts.0 in
        let low = ltb-true (segment_bytes * j) to parts.1 in
        let around = rw size at sound in
        unless (offline_at f.kept.stubs j) (λ off. let start = offline-starts geometry f lawful j off in let some = meets.0 in let inside = meets.1 in around (λ same. absurd (omega arith)) j (omega arith) inside);
    starts = offline-starts geometry f lawful;
  }
  allowed (Restore segment bytes) sound = grind (arith, stub-each, offline-starts)

-- bytes that come back: some, no more than a segment has, and within the longest file
pub restores-lawful : (size segment len : ℕ) → len ≡ segment_len size segment → segment_bytes * segment < size → size ≤ file_bytes → (1 ≤ len) × (len ≤ segment_bytes) × (segment_bytes * segment + len ≤ file_bytes)
restores-lawful size segment len is start few = (omega (arith, is), omega (arith, is), omega (arith, is))

-- those of an entry of that fingerprint
pub of-entry : (P : StubOf → Type 0) (o : Option StubOf) → is_offline o ≡ true → IfSome o P → (stub : StubOf) × (o ≡ Some stub) × P stub
of-entry P None off is = absurd (false≢true off)
of-entry P (Some stub) off is = (stub, refl, is)

-- bytes of the fingerprint of an entry have the length that it says
pub of-length : (o : Option StubOf) (bytes : List ℕ) (len : ℕ) → is_offline o ≡ true → IfSome o (λ stub. entry_print stub.entry ≡ print_of bytes) → IfSome o (λ stub. (entry_print stub.entry).len ≡ len) → length bytes ≡ len
of-length None bytes len off print is = absurd (false≢true off)
of-length (Some stub) bytes len off print is = sym (ap (λ (p : Fingerprint). p.len) print) ∙ is

-- ---- entries keep their lengths

abbrev HasLen : ℕ → ℕ × StubOf → Type 0
HasLen size x = (entry_print x.1.entry).len ≡ segment_len size x.0

written-len : (size from end j : ℕ) → from < end → from ≤ size → not (meets_segment from end j) ≡ true → segment_len size j ≡ segment_len (max size end) j
written-len size from end j some low apart = grind (arith, nat_tests)

resized-len : (size to j : ℕ) → not (meets_segment (min to size) (max to size) j) ≡ true → segment_len size j ≡ segment_len to j
resized-len size to j apart = grind (arith, nat_tests)

moved-lens : (b : Bool) (from to size : ℕ) (stubs : Stubs) → AllByRecursion (HasLen size) stubs → AllByRecursion (HasLen size) (moved b from to stubs)
moved-lens b from to size [] all = tt
moved-lens b from to size (x ∷ stubs) all = grind (arith, moved-lens b from to size stubs all.1)

pub lengths-after : (change : Rewrite) (ms : List Mapping) (f : CatalogFile) → IsRewrite change → HasLengths f → HasLengths (remapped change f.size ms f)
lengths-after (Write offset bytes) ms f may lengths =
    let end : ℕ = offset + length bytes.now in
    let some = may.0 in
    each-filter (λ (x : ℕ × StubOf). not (meets_segment (min offset f.size) end x.0)) (HasLen f.size) (HasLen (max f.size end)) f.kept.stubs (λ x apart len. len ∙ written-len f.size (min offset f.size) end x.0 (omega arith) (omega arith) apart) lengths
lengths-after (Resize to) ms f may lengths =
    each-filter (λ (x : ℕ × StubOf). not (meets_segment (min to f.size) (max to f.size) x.0)) (HasLen f.size) (HasLen to) f.kept.stubs (λ x apart len. len ∙ resized-len f.size to x.0 apart) lengths
lengths-after (Restore segment bytes) ms f may lengths = moved-lens false segment (segment + 1) f.size f.kept.stubs lengths

-- ---- touched blocks are of segments that are here then

unsealed-here : (from to : ℕ) (stubs : Stubs) (j : ℕ) → meets_segment from to j ≡ true → offline_at (unsealed from to stubs) j ≡ false
unsealed-here from to stubs j meets = ap is_offline (stub_at-unsealed from to stubs j) ∙ rw meets refl

unsealed-stays : (from to : ℕ) (stubs : Stubs) (j : ℕ) → meets_segment from to j ≡ false → offline_at (unsealed from to stubs) j ≡ offline_at stubs j
unsealed-stays from to stubs j apart = ap is_offline (stub_at-unsealed from to stubs j) ∙ rw apart refl

-- entries that go where the range meets no segment that is offline
unsealed-free : (from to : ℕ) (stubs : Stubs) (j : ℕ) → (meets_segment from to j ≡ true → offline_at stubs j ≡ false) → offline_at (unsealed from to stubs) j ≡ offline_at stubs j
unsealed-free from to stubs j free = grind (arith, unsealed-here, unsealed-stays)

-- and where the file is resized, which leaves what is offline below the new end
cut-away : (size to : ℕ) (stubs : Stubs) (j : ℕ) → ((meets_segment (min to size) (max to size) j && nat_lt (segment_bytes * j) to) ≡ true → offline_at stubs j ≡ false) → (offline_at stubs j ≡ true → segment_bytes * j < size)
    → (offline_at stubs j && nat_lt (segment_bytes * j) to) ≡ offline_at (unsealed (min to size) (max to size) stubs) j
cut-away size to stubs j free starts = grind (arith, and-true, and_from, unsealed-here, and-false, unsealed-stays, unless, ltb-false, meets-from)

never-offline : (o : Option StubOf) → is_offline (option_map (λ (x : StubOf). record x { offline = false }) o) ≡ false
never-offline None = refl
never-offline (Some stub) = refl

restored-here : (k : ℕ) (stubs : Stubs) → offline_at (restored k stubs) k ≡ false
restored-here k stubs = grind (arith, stub_at-restored, eq-eqb, never-offline)

restored-stays : (k : ℕ) (stubs : Stubs) (j : ℕ) → (j ≡ k → ⊥) → offline_at (restored k stubs) j ≡ offline_at stubs j
restored-stays k stubs j other = grind (arith, stub_at-restored, ne_eqb)

-- a block of it
abbrev HereThen : Rewrite → CatalogFile → ℕ → Type 0
HereThen change f b = offline_at (rekept (effect_of change) f.size f.kept).stubs (b / segment_blocks) ≡ false

pub touched-here : (change : Rewrite) (f : CatalogFile) → IsRewrite change → AllByRecursion (HereThen change f) (touched (effect_of change) f.size)
touched-here (Write offset bytes) f may =
    let some = may.0 in
    touched-each _ (Write offset bytes) f.size
    (λ b is. let low = is.0 in let high = is.1 in unsealed-here (min offset f.size) (offset + length bytes.now) f.kept.stubs (b / segment_blocks) (meets-from (min offset f.size) (offset + length bytes.now) (b / segment_blocks) (omega arith) (omega arith) (omega arith)))
touched-here (Resize to) f may = grind (arith, touched-each, unsealed-here, meets-from)
touched-here (Restore segment bytes) f may =
    let most = may.1 in
    touched-each _ (Restore segment bytes) f.size
    (λ b is. let low = is.0 in let high = is.1 in let same : b / segment_blocks ≡ segment = omega arith in subst (λ (j : ℕ). offline_at (restored segment f.kept.stubs) j ≡ false) (sym same) (restored-here segment f.kept.stubs))

-- ---- bodies

-- what comes back is away
pub brings-away : (change : Rewrite) (f : CatalogFile) (body : HeldBody) → IsHere body f → BringsOffline change f.kept.stubs → BringsAway change body
brings-away (Write offset bytes) f body here off = tt
brings-away (Resize to) f body here off = tt
brings-away (Restore segment bytes) f body here off = here segment ∙ off

-- a body that has room for the change, of one whose segments were away exactly where they are offline
module _ (change : Rewrite) (f : CatalogFile) (is : Allowed change f) (old room : HeldBody) (here : IsHere old f) (has : HasRoom change old room) where
  -- bytes are put only where they are here
  pub has-range : IsRewrite change → HasRange change room
  has-range may = grind arith

  -- and what is away after the change is what is offline then
  pub here-after : (new : HeldBody) (ms : List Mapping) → ((j : ℕ) → is_away new j ≡ (is_away room j && spares change j)) → IsHere new (remapped change f.size ms f)
  here-after new ms away j = grind (arith, and-true, unsealed-free, cut-away, eq-eqb, and-false, restored-here, ne_eqb, restored-stays, cases_eq)
