-- Extents whose blocks are as wide as records may make them are those of a snapshot.
use Rattle.std.proofs.Common.{◌≡◌, ℕ, ◌+◌, ◌*◌, ◌<◌, not, ◌&&◌, ◌||◌, List, [], ◌∷◌, map, drop, length, get_or, refl, sym, ◌∙◌, ap, arith, add-one, drop-cons}
use Rattle.std.specs.Prelude.{filter, nat_lt, nat_le}
use Rattle.std.specs.BTreeMap.{insert_entry}
use Rattle.std.specs.Ordering.{nat_cmp}
use Rattle.std.proofs.lemmas.Bool.Decides.{nat_tests}
use Rattle.snapshot_text.specs.declared.snapshot.Mapping.{Mapping}
use Rattle.snapshot_text.specs.FileRecords.{mappings_from}
use Rattle.meta_store.specs.Batches.{with_extent, with_extents, extents_below, extents_without}
use Rattle.journal_fold.specs.FoldedFiles.{mapping_of}
use Rattle.hsm_types.specs.Limits.{segment_blocks}

pub widened : (xs : List Mapping) → map mapping_of (map (λ (x : Mapping). (x.block, x.place)) xs) ≡ xs
widened [] = refl
widened (x ∷ xs) = ap (λ (l : List Mapping). x ∷ l) (widened xs)

-- one more, in its place
pub put_one : (es : List (ℕ × ℕ)) (b p : ℕ) → map mapping_of (insert_entry nat_cmp es b p) ≡ with_extent (record { block = b; place = p }) (map mapping_of es)
put_one [] b p = refl
put_one (e ∷ es) b p = grind (arith, nat_tests, put_one es b p)

pub below : (es : List (ℕ × ℕ)) (n : ℕ) → map mapping_of (filter (λ (e : ℕ × ℕ). nat_lt e.0 n) es) ≡ extents_below n (map mapping_of es)
below [] n = refl
below (e ∷ es) n = grind (arith, below es n)

pub outside : (es : List (ℕ × ℕ)) (low high : ℕ) → map mapping_of (filter (λ (e : ℕ × ℕ). nat_lt e.0 low || nat_le high e.0) es) ≡ filter (λ (x : Mapping). not (nat_le low x.block && nat_lt x.block high)) (map mapping_of es)
outside [] low high = refl
outside (e ∷ es) low high = grind (arith, nat_tests, outside es low high)

pub outside_segment : (es : List (ℕ × ℕ)) (low high j : ℕ) → low ≡ segment_blocks * j → high ≡ segment_blocks * j + segment_blocks → map mapping_of (filter (λ (e : ℕ × ℕ). nat_lt e.0 low || nat_le high e.0) es) ≡ extents_without j (map mapping_of es)
outside_segment es low high j from to = outside es low high ∙ rw (from, to) refl

-- a run goes on with its next block
pub run_goes_on : (places : List ℕ) (i b : ℕ) (es new : List (ℕ × ℕ)) (all : List Mapping) → i < length places → new ≡ insert_entry nat_cmp es b (get_or places i 0)
    → with_extents (mappings_from b (drop i places)) (map mapping_of es) ≡ all → with_extents (mappings_from (b + 1) (drop (i + 1) places)) (map mapping_of new) ≡ all
run_goes_on places i b es new all lt new_is left =
    let next : drop i places ≡ get_or places i 0 ∷ drop (i + 1) places = rw (add-one, drop-cons places i 0) refl in
    ap (λ (l : List (ℕ × ℕ)). with_extents (mappings_from (b + 1) (drop (i + 1) places)) (map mapping_of l)) new_is
    ∙ ap (with_extents (mappings_from (b + 1) (drop (i + 1) places))) (put_one es b (get_or places i 0))
    ∙ sym (ap (λ (l : List ℕ). with_extents (mappings_from b l) (map mapping_of es)) next)
    ∙ left
