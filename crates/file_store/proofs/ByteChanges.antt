-- A change of the bytes of a file: of a body that was lengthened by zeros before it, and of the flags of the blocks that it touches.
use Rattle.file_store.proofs.Names.{grown, new_size, rules, ◌≡◌, ℕ, ◌+◌, ◌-◌, ◌*◌, ◌<◌, ◌≤◌, min, max, List, [], length, ltb, refl, arith}
use Rattle.file_store.proofs.Names.{length-append, replicate, zero, suc, ◌∷◌, map, take, set, false, eqb, Option, Some, None, ap, is_some, ◌/◌, ◌%◌}
use Rattle.file_store.proofs.Names.{cond_both, ltb-true, length-replicate, same_lists, places, map-append, map-set, take-map, length-map, resized}
use Rattle.file_store.proofs.Names.{rebody, old_end, touched, size_after, from_on, blocks_in, with_mapped, fitted, mapped_after, Rewrite, Write}
use Rattle.file_store.proofs.Names.{Resize, Restore, IsWithin, written, effect_of, AllByRecursion, Ascend, places_fitted, places_set, Mapping}
use Rattle.file_store.proofs.Names.{length-written, length-resized, Effect}
use Rattle.hsm_types.specs.Limits.{block_bytes, segment_bytes}

pub length-grown : (size : ℕ) (body : List ℕ) → length (grown size body) ≡ max size (length body)
length-grown size body = grind (arith, length-append, length-replicate)

-- ---- what is left after a change

pub length-changed : (change : Rewrite) (body : List ℕ) → IsWithin change (length body) → length (rebody (effect_of change) body) ≡ new_size change body
length-changed (Write offset bytes) body within = length-written offset bytes.now body
length-changed (Resize size) body within = length-resized size body
length-changed (Restore segment bytes) body within = grind (arith, length-written)

-- none for the size that it has
pub grown-none : (body : List ℕ) → grown (length body) body ≡ body
grown-none body = search (rules, same_lists)

pub changed-grown : (change : Rewrite) (body : List ℕ) → rebody (effect_of change) (grown (new_size change body) body) ≡ rebody (effect_of change) body
changed-grown (Write offset bytes) body = same_lists _ _ (search (rules, places)) (λ i d h. grind (arith, places))
changed-grown (Resize size) body = same_lists _ _ (search (rules, places)) (λ i d h. grind (arith, places))
changed-grown (Restore segment bytes) body = ap (written (segment_bytes * segment) bytes.now) (grown-none body)

-- the body is long enough for it
pub grown-enough : (change : Rewrite) (body : List ℕ) → new_size change (grown (new_size change body) body) ≤ length (grown (new_size change body) body)
grown-enough (Write offset bytes) body = grind (arith, length-grown)
grown-enough (Resize size) body = omega (arith, length-grown size body)
grown-enough (Restore segment bytes) body = omega arith

pub within-grown : (change : Rewrite) (size : ℕ) (body : List ℕ) → IsWithin change (length body) → IsWithin change (length (grown size body))
within-grown (Write offset bytes) size body within = tt
within-grown (Resize to) size body within = tt
within-grown (Restore segment bytes) size body within = omega (arith, length-grown size body, within)

-- and no longer than after it, where it touches blocks
pub grown-no_more : (change : Rewrite) (body : List ℕ) → 0 < length (touched (effect_of change) (length body))
    → length (grown (new_size change body) body) ≤ new_size change (grown (new_size change body) body)
grown-no_more (Write offset bytes) body some = omega arith
grown-no_more (Resize size) body some = grind (arith, cond_both, ltb-true, length-grown)
grown-no_more (Restore segment bytes) body some = omega arith

-- a cut takes the zeros away again
pub grown-back : (size : ℕ) (body : List ℕ) → resized (length body) (grown size body) ≡ body
grown-back size body = same_lists _ _ (search (rules, places)) (λ i d h. grind (arith, places))

-- ---- flags of places

flags-holes : (n : ℕ) → map is_some (replicate {A = Option ℕ} n None) ≡ replicate n false
flags-holes zero = refl
flags-holes (suc n) = ap (λ bs. false ∷ bs) (flags-holes n)

flags-fitted : (size : ℕ) (ps : List (Option ℕ)) → map is_some (places_fitted size ps) ≡ fitted size (map is_some ps)
flags-fitted size ps = grind (arith, map-append, is_some, flags-holes, take-map, length-map)

flags-set : (ms : List Mapping) (ps : List (Option ℕ)) → map is_some (places_set ms ps) ≡ with_mapped (map (λ m. m.block) ms) (map is_some ps)
flags-set [] ps = refl
flags-set (m ∷ ms) ps = grind (arith, map-set, is_some, flags-set ms (set ps m.block (Some m.place)))

pub flags-mapped : (effect : Effect) (size to : ℕ) (ms : List Mapping) (ps : List (Option ℕ)) → map (λ m. m.block) ms ≡ touched effect size → to ≡ size_after effect size → map is_some (places_set ms (places_fitted to ps)) ≡ mapped_after effect size (map is_some ps)
flags-mapped effect size to ms ps blocks after = grind (arith, flags-set, flags-fitted)

-- ---- the touched blocks ascend, and are some of the file's

-- bytes of the block are changed, or it was the last one of a file that grows
abbrev pub IsTouched : Rewrite → ℕ → ℕ → Type 0
IsTouched (Write offset bytes) size b = (min offset size < block_bytes * b + block_bytes) × (block_bytes * b < offset + length bytes.now)
IsTouched (Resize to) size b = (size < to) × (b ≡ size / block_bytes)
IsTouched (Restore segment bytes) size b = (segment_bytes * segment < block_bytes * b + block_bytes) × (block_bytes * b < segment_bytes * segment + length bytes.now)

abbrev RunOf : Rewrite → ℕ → ℕ → ℕ → Type 0
RunOf change size a n = (b : ℕ) → a ≤ b → b < a + n → IsTouched change size b

-- of what is true of the run, and of the block of an old end before it
touched_by : (P : List ℕ → Type 0) (change : Rewrite) (size : ℕ) → ((a n : ℕ) → RunOf change size a n → P (from_on a n))
    → ((a n : ℕ) → size / block_bytes < a → IsTouched change size (size / block_bytes) → RunOf change size a n → P ((size / block_bytes) ∷ from_on a n)) → P (touched (effect_of change) size)
touched_by P (Write offset bytes) size run behind = grind arith
touched_by P (Resize to) size run behind =
    let none : P [] = run 0 0 (λ b low high. absurd (omega arith)) in
    cond_both (ltb size to) (old_end size) [] P
    (λ grows.
    cond_both (eqb (size % block_bytes) 0) [] ((size / block_bytes) ∷ []) P (λ whole. none) (λ cut. behind (size / block_bytes + 1) 0 (omega arith) (ltb-true size to grows, refl) (λ b low high. absurd (omega arith))))
    (λ other. none)
touched_by P (Restore segment bytes) size run behind = grind arith

run-each : (P : ℕ → Type 0) (a n : ℕ) → ((b : ℕ) → a ≤ b → b < a + n → P b) → AllByRecursion P (from_on a n)
run-each P a zero all = tt
run-each P a (suc n) all = grind (arith, run-each P (a + 1) n (λ b low high. all b (omega arith) (omega arith)))

pub touched-each : (P : ℕ → Type 0) (change : Rewrite) (size : ℕ) → ((b : ℕ) → IsTouched change size b → P b) → AllByRecursion P (touched (effect_of change) size)
touched-each P change size step =
    touched_by (AllByRecursion P) change size (λ a n all. run-each P a n (λ b low high. step b (all b low high))) (λ a n apart one all. (step (size / block_bytes) one, run-each P a n (λ b low high. step b (all b low high))))

is-below : (change : Rewrite) (size : ℕ) → IsWithin change size → (b : ℕ) → IsTouched change size b → b < blocks_in (size_after (effect_of change) size)
is-below (Write offset bytes) size within b is = omega (arith, is.1)
is-below (Resize to) size within b is = omega (arith, is.0, is.1)
is-below (Restore segment bytes) size within b is = omega (arith, is.1, within)

pub touched-below : (change : Rewrite) (size : ℕ) → IsWithin change size → AllByRecursion (λ b. b < blocks_in (size_after (effect_of change) size)) (touched (effect_of change) size)
touched-below change size within = search (rules, touched-each, is-below)

run-ascends : (low a n : ℕ) → low ≤ a → Ascend low (from_on a n)
run-ascends low a zero le = tt
run-ascends low a (suc n) le = (le, run-ascends (a + 1) (a + 1) n (omega arith))

pub touched-ascends : (change : Rewrite) (size : ℕ) → Ascend 0 (touched (effect_of change) size)
touched-ascends change size = grind (arith, touched_by, run-ascends)
