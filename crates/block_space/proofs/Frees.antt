-- The free blocks of two maps.
use Rattle.std.proofs.Common.{◌≡◌, ℕ, zero, suc, ◌+◌, ◌<◌, List, [], ◌∷◌, length, get_or, set, Bool, true, false, ◌||◌, eqb, ⊎_elim, refl, sym, ap}
use Rattle.std.proofs.Common.{◌∙◌, arith, get_or-set_other}
use Rattle.std.specs.Prelude.{replicate}
use Rattle.std.proofs.lemmas.Bool.{cond_both, false≢true, eqb-true, or_parts, eq-eqb, or_cases, or_left, or_right}
use Rattle.plain_model.specs.Distinct.{Distinct}
use Rattle.block_space.specs.Space.{marked, free_in}
use Rattle.block_space.proofs.Members.{has, Ascend, Ascend-low}

pub Ascend-free_in : (n : ℕ) (cs ds : List Bool) → Ascend n (free_in n cs ds)
Ascend-free_in n [] ds = tt
Ascend-free_in n (c ∷ cs) [] = tt
Ascend-free_in n (c ∷ cs) (d ∷ ds) =
    cond_both (c || d) (free_in (n + 1) cs ds) (n ∷ free_in (n + 1) cs ds) (Ascend n)
    (λ used. Ascend-low n (n + 1) (free_in (n + 1) cs ds) (omega arith) (Ascend-free_in (n + 1) cs ds))
    (λ unused. (omega arith, Ascend-free_in (n + 1) cs ds))

-- a block that both maps have, and neither uses, so many places on
pub record Unused (n b : ℕ) (cs ds : List Bool) : Type 0 where
  pub place : ℕ
  pub is : b ≡ n + place
  pub within : place < length cs
  pub current : get_or cs place true ≡ false
  pub durable : get_or ds place true ≡ false

pub unused : (n b : ℕ) (cs ds : List Bool) → has b (free_in n cs ds) ≡ true → Unused n b cs ds
unused n b [] ds h = absurd (false≢true h)
unused n b (c ∷ cs) [] h = absurd (false≢true h)
unused n b (c ∷ cs) (d ∷ ds) h =
    let on : has b (free_in (n + 1) cs ds) ≡ true → Unused n b (c ∷ cs) (d ∷ ds) = λ later.
    let u = unused (n + 1) b cs ds later in
    record { place = suc u.place; is = omega arith; within = omega arith; current = u.current; durable = u.durable } in
    cond_both (c || d) (free_in (n + 1) cs ds) (n ∷ free_in (n + 1) cs ds) (λ r. has b r ≡ true → Unused n b (c ∷ cs) (d ∷ ds))
    (λ used. on)
    (λ free is. ⊎_elim
    (λ (e : eqb n b ≡ true).
    let same = eqb-true n b e in
    let both = or_parts c d free in
    record { place = 0; is = omega arith; within = omega arith; current = both.0; durable = both.1 })
    on
    (or_cases (eqb n b) (has b (free_in (n + 1) cs ds)) is))
    h

-- and each such block is listed
pub listed : (n k : ℕ) (cs ds : List Bool) → get_or cs k true ≡ false → get_or ds k true ≡ false → has (n + k) (free_in n cs ds) ≡ true
listed n k [] ds c d = cc
listed n k (true ∷ cs) [] c d = cc
listed n k (false ∷ cs) [] c d = cc
listed n zero (true ∷ cs) (d' ∷ ds) c d = cc
listed n zero (false ∷ cs) (true ∷ ds) c d = cc
listed n zero (false ∷ cs) (false ∷ ds) c d = or_left (eqb n (n + 0)) (has (n + 0) (free_in (n + 1) cs ds)) (eq-eqb n (n + 0) (omega arith))
listed n (suc k) (c' ∷ cs) (d' ∷ ds) c d =
    let next : n + 1 + k ≡ n + suc k = omega arith in
    let later : has (n + suc k) (free_in (n + 1) cs ds) ≡ true = rw (← next) (listed (n + 1) k cs ds c d) in
    cond_both (c' || d') (free_in (n + 1) cs ds) (n ∷ free_in (n + 1) cs ds) (λ r. has (n + suc k) r ≡ true) (λ used. later) (λ unused. or_right (eqb n (n + suc k)) (has (n + suc k) (free_in (n + 1) cs ds)) later)

-- ---- how many blocks are free

-- a block that is marked was free before
one_less : (n b : ℕ) (fs : List Bool) → get_or fs b true ≡ false → length (free_in n (set fs b true) (set fs b true)) + 1 ≡ length (free_in n fs fs)
one_less n b [] u = cc
one_less n zero (true ∷ fs) u = cc
one_less n zero (false ∷ fs) u = omega arith
one_less n (suc b) (true ∷ fs) u = one_less (n + 1) b fs u
one_less n (suc b) (false ∷ fs) u = let e = one_less (n + 1) b fs u in omega arith

pub count-marked : (n : ℕ) (bs : List ℕ) (fs : List Bool) → Distinct bs → ((b : ℕ) → has b bs ≡ true → get_or fs b true ≡ false)
    → length (free_in n (marked bs fs) (marked bs fs)) + length bs ≡ length (free_in n fs fs)
count-marked n [] fs d each = omega arith
count-marked n (b ∷ bs) fs d each =
    let less = one_less n b fs (each b (or_left_here b bs)) in
    let rest = count-marked n bs (set fs b true) d.1 (λ c h.
    get_or-set_other fs b c true true (λ e. let no_more = d.0 in apart b c bs e h no_more) ∙ each c (or_right (eqb b c) (has c bs) h)) in
    omega arith
  where
    or_left_here : (b : ℕ) (bs : List ℕ) → has b (b ∷ bs) ≡ true
    or_left_here b bs = rw (eq-eqb b b refl) refl

    apart : (b c : ℕ) (bs : List ℕ) → c ≡ b → has c bs ≡ true → has b bs ≡ false → ⊥
    apart b c bs e h g = let same = ap (λ x. has x bs) e in false≢true (sym g ∙ sym same ∙ h)

pub count-unused : (n m : ℕ) → length (free_in n (replicate m false) (replicate m false)) ≡ m
count-unused n zero = refl
count-unused n (suc m) = ap suc (count-unused (n + 1) m)
