-- Places of blocks, one by one, and those of a segment that is cleared.
use Rattle.std.proofs.Common.{◌≡◌, ℕ, zero, suc, ◌+◌, ◌-◌, ◌*◌, ◌<◌, ◌≤◌, List, [], ◌∷◌, ◌++◌, length, take, drop, set, get_or, Bool, Option, Some}
use Rattle.std.proofs.Common.{None, ◌⊎◌, refl, ◌∙◌, ap, arith, append_assoc, get_or-set_other}
use Rattle.std.specs.Prelude.{replicate, min, if◌then◌else◌}
use Rattle.std.proofs.lemmas.Grind.{common_steps}
use Rattle.hsm_types.specs.Limits.{segment_blocks}
use Rattle.snapshot_text.specs.Files.{present, places_in_segment}
use Rattle.snapshot_text.specs.FileRecords.{places_fitted, places_set, mappings_from, places_without}
use Rattle.snapshot_text.proofs.BlockUses.{uses}

hole-at : (ps : List (Option ℕ)) → present ps ≡ [] → (i : ℕ) → get_or ps i None ≡ None
hole-at [] none i = refl
hole-at (p ∷ ps) none zero = grind arith
hole-at (p ∷ ps) none (suc i) = grind (arith, hole-at ps)

pub away-at : (n m : ℕ) (ps : List (Option ℕ)) → present (take n (drop m ps)) ≡ [] → (i : ℕ) → m ≤ i → i < m + n → get_or ps i None ≡ None
away-at n m ps away i from to = let here = hole-at (take n (drop m ps)) away (i - m) in grind (arith, common_steps, here)

holes-at : (ps : List (Option ℕ)) → ((i : ℕ) → get_or ps i None ≡ None) → present ps ≡ []
holes-at [] at = refl
holes-at (p ∷ ps) at = grind (arith, at 0, holes-at ps (λ i. at (suc i)))

pub at-away : (n m : ℕ) (ps : List (Option ℕ)) → ((i : ℕ) → m ≤ i → i < m + n → get_or ps i None ≡ None) → present (take n (drop m ps)) ≡ []
at-away n m ps at = holes-at (take n (drop m ps)) (λ i. grind (arith, common_steps, at (m + i)))

none-holes : (n i : ℕ) → get_or {A = Option ℕ} (replicate n None) i None ≡ None
none-holes n i = grind (arith, common_steps)

pub none-fitted : (size : ℕ) (ps : List (Option ℕ)) (i : ℕ) → get_or ps i None ≡ None → get_or (places_fitted size ps) i None ≡ None
none-fitted size ps i is = grind (arith, common_steps, none-holes)

pub get_or-mapped : (block : ℕ) (new : List ℕ) (ps : List (Option ℕ)) (i : ℕ) → (block ≤ i → i < block + length new → ⊥) → get_or (places_set (mappings_from block new) ps) i None ≡ get_or ps i None
get_or-mapped block [] ps i out = refl
get_or-mapped block (p ∷ new) ps i out =
    get_or-mapped (block + 1) new (set ps block (Some p)) i (λ from to. out (omega arith) (omega arith)) ∙ get_or-set_other ps block i (Some p) None (λ same. out (omega arith) (omega arith))

-- n blocks from the first number on are holes
abbrev pub cleared : ℕ → ℕ → List (Option ℕ) → List (Option ℕ)
cleared m n [] = []
cleared zero zero (p ∷ ps) = p ∷ ps
cleared zero (suc n) (p ∷ ps) = None ∷ cleared zero n ps
cleared (suc m) n (p ∷ ps) = p ∷ cleared m n ps

cleared-is : (m n k holes : ℕ) (ps : List (Option ℕ)) → k ≡ m + n → holes ≡ min n (length ps - m) → take m ps ++ (replicate holes None ++ drop k ps) ≡ cleared m n ps
cleared-is (suc m) n (suc k) holes (p ∷ ps) end is = ap (λ (qs : List (Option ℕ)). p ∷ qs) (cleared-is m n k holes ps (omega arith) (omega arith))
cleared-is zero (suc n) (suc k) (suc holes) (p ∷ ps) end is = ap (λ (qs : List (Option ℕ)). None ∷ qs) (cleared-is zero n k holes ps (omega arith) (omega arith))
cleared-is zero zero k holes (p ∷ ps) end is = let none : holes ≡ 0 = omega arith in let at : k ≡ 0 = omega arith in rw (none, at) refl
cleared-is m n k holes ps end is = grind (arith, common_steps)

pub length-cleared : (m n : ℕ) (ps : List (Option ℕ)) → length (cleared m n ps) ≡ length ps
length-cleared zero (suc n) (p ∷ ps) = ap suc (length-cleared zero n ps)
length-cleared (suc m) n (p ∷ ps) = ap suc (length-cleared m n ps)
length-cleared zero zero (p ∷ ps) = refl
length-cleared m n ps = refl

count-cleared : (m n : ℕ) (ps : List (Option ℕ)) → length (present (take n (drop m ps))) + length (present (cleared m n ps)) ≡ length (present ps)
count-cleared zero (suc n) (p ∷ ps) = grind (arith, count-cleared zero n ps)
count-cleared (suc m) n (p ∷ ps) = grind (arith, count-cleared m n ps)
count-cleared zero zero (p ∷ ps) = grind arith
count-cleared m n ps = grind (arith, common_steps)

uses-cleared : (u m n : ℕ) (ps : List (Option ℕ)) → uses u (present (cleared m n ps)) ≤ uses u (present ps)
uses-cleared u zero (suc n) (p ∷ ps) = grind (arith, uses-cleared u zero n ps)
uses-cleared u (suc m) n (p ∷ ps) = grind (arith, uses-cleared u m n ps)
uses-cleared u zero zero (p ∷ ps) = omega arith
uses-cleared u m n ps = omega arith

none-cleared : (m n : ℕ) (ps : List (Option ℕ)) (i : ℕ) → (get_or ps i None ≡ None) ⊎ (m ≤ i) × (i < m + n) → get_or (cleared m n ps) i None ≡ None
none-cleared m n [] i is = refl
none-cleared zero (suc n) (p ∷ ps) (suc i) is = none-cleared zero n ps i (grind arith)
none-cleared (suc m) n (p ∷ ps) (suc i) is = none-cleared m n ps i (grind arith)
none-cleared m n (p ∷ ps) i is = grind arith

pub cleared-nothing : (m n : ℕ) (ps : List (Option ℕ)) → n ≡ 0 → cleared m n ps ≡ ps
cleared-nothing zero (suc n) (p ∷ ps) none = absurd (omega arith)
cleared-nothing (suc m) n (p ∷ ps) none = ap (λ (qs : List (Option ℕ)). p ∷ qs) (cleared-nothing m n ps none)
cleared-nothing zero zero (p ∷ ps) none = refl
cleared-nothing m n ps none = refl

pub without-cleared : (j : ℕ) (ps : List (Option ℕ)) → places_without j ps ≡ cleared (segment_blocks * j) segment_blocks ps
without-cleared j ps = append_assoc (take (segment_blocks * j) ps) (replicate (min segment_blocks (length ps - segment_blocks * j)) None) (drop (segment_blocks * j + segment_blocks) ps) ∙ cleared-is (segment_blocks * j) segment_blocks (segment_blocks * j + segment_blocks) (min segment_blocks (length ps - segment_blocks * j)) ps refl refl

-- where it may be one
abbrev pub gone_if : Bool → ℕ → List (Option ℕ) → List (Option ℕ)
gone_if b j ps = if b then places_without j ps else ps

pub length-gone_if : (b : Bool) (j : ℕ) (ps : List (Option ℕ)) → length (gone_if b j ps) ≡ length ps
length-gone_if b j ps = grind (arith, without-cleared, length-cleared)

pub uses-gone_if : (n : ℕ) (b : Bool) (j : ℕ) (ps : List (Option ℕ)) → uses n (present (gone_if b j ps)) ≤ uses n (present ps)
uses-gone_if n b j ps = grind (arith, without-cleared, uses-cleared)

-- a hole stays one, and the segment has holes alone
pub none-without : (j : ℕ) (ps : List (Option ℕ)) (i : ℕ) → (get_or ps i None ≡ None) ⊎ (segment_blocks * j ≤ i) × (i < segment_blocks * j + segment_blocks) → get_or (places_without j ps) i None ≡ None
none-without j ps i is = rw without-cleared (none-cleared (segment_blocks * j) segment_blocks ps i is)

pub count-without : (j : ℕ) (ps : List (Option ℕ)) → length (present (places_in_segment j ps)) + length (present (places_without j ps)) ≡ length (present ps)
count-without j ps = rw without-cleared (count-cleared (segment_blocks * j) segment_blocks ps)
