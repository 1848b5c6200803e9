-- Runs of blocks: where the bytes of each lie, and uses of one run after another.
use Rattle.std.proofs.Common.{◌≡◌, ℕ, zero, suc, ◌+◌, ◌-◌, ◌*◌, ◌<◌, ◌≤◌, true, false, List, [], ◌∷◌, length, take, drop, get_or, refl, ◌∙◌, ap, subst, arith}
use Rattle.std.specs.Prelude.{Result, Ok, Err, OnOk, OnErr}
use Rattle.std.specs.List.{AllByRecursion}
use Rattle.std.proofs.lemmas.List.{length-take-le, length-drop, get_or-drop, get_or-take, take_rest}
use Rattle.disk_model.specs.Images.{part}
use Rattle.disk_model.proofs.Parts.{part_part}
use Rattle.block_cache.specs.Cached.{AreNeighbours, LiesOn, has, used_last, all_used_last, AreIn, HasStopped}

-- what holds anyway
pub on_err : {T E P : Type 0} (r : Result T E) → P → OnErr r P
on_err (Ok x) p = tt
on_err (Err e) p = p

-- what follows of an answer
pub ok_then : {T E P Q : Type 0} (r : Result T E) → (P → Q) → OnOk r P → OnOk r Q
ok_then (Ok x) f p = f p
ok_then (Err e) f p = tt

-- what follows of a refusal
pub err_then : {T E P Q : Type 0} (r : Result T E) → (P → Q) → OnErr r P → OnErr r Q
err_then (Ok x) f p = tt
err_then (Err e) f p = f p

-- the bytes of one block among those of a run
pub piece_shown : (at first i : ℕ) (content bytes run : List ℕ) → AreNeighbours first run → i < length run → bytes ≡ part content (at + 4096 * first) (4096 * length run)
    → take (i * 4096 + 4096 - i * 4096) (drop (i * 4096) bytes) ≡ part content (at + 4096 * get_or run i 0) 4096
unfolding part
piece_shown at first i content bytes run next lt same =
    let count : i * 4096 + 4096 - i * 4096 ≡ 4096 = omega arith in
    let fits : i * 4096 + 4096 ≤ 4096 * length run = omega (arith, lt) in
    let place : at + 4096 * first + i * 4096 ≡ at + 4096 * get_or run i 0 = omega (arith, next i lt) in
    ap (λ (n : ℕ). take n (drop (i * 4096) bytes)) count
    ∙ ap (λ (l : List ℕ). take 4096 (drop (i * 4096) l)) same
    ∙ part_part content (at + 4096 * first) (4096 * length run) (i * 4096) 4096 fits
    ∙ ap (λ (k : ℕ). part content k 4096) place

nil_take : (n : ℕ) → take {A = ℕ} n [] ≡ []
nil_take zero = refl
nil_take (suc n) = refl

-- uses of some blocks, and then of others
pub used_both : (m n : ℕ) (bs ks : List ℕ) → all_used_last (take n (drop m bs)) (all_used_last (take m bs) ks) ≡ all_used_last (take (m + n) bs) ks
used_both zero n bs ks = let none : 0 + n ≡ n = omega arith in rw none refl
used_both (suc m) n [] ks = rw (nil_take n, nil_take (suc m + n)) refl
used_both (suc m) n (b ∷ bs) ks = let shift : suc m + n ≡ suc (m + n) = omega arith in rw shift (used_both m n bs _)

-- a use stopped at a block of the front of a list
pub stopped_within : (n : ℕ) (bs new old was : List ℕ) → n ≤ length bs → was ≡ old → HasStopped (take n bs) was new → HasStopped bs old new
stopped_within n bs new old was within same (m, lt, is, gone) =
    let short : m < n = omega (arith, lt, length-take-le n bs within) in
    let front : take m (take n bs) ≡ take m bs = front_of m n bs (omega (arith, short)) in
    let one : get_or (take n bs) m 0 ≡ get_or bs m 0 = get_or-take n bs m 0 short in (
      m,
      omega (arith, short, within),
      is ∙ ap (λ (l : List ℕ). all_used_last l was) front ∙ ap (λ (l : List ℕ). all_used_last (take m bs) l) same,
      subst (λ (b : ℕ). has b new ≡ false) one gone,
    )
  where
    front_of : (m n : ℕ) (bs : List ℕ) → m ≤ n → take m (take n bs) ≡ take m bs
    front_of zero n bs le = refl
    front_of (suc m) zero bs le = absurd (omega (arith, le))
    front_of (suc m) (suc n) [] le = refl
    front_of (suc m) (suc n) (b ∷ bs) le = ap (λ (l : List ℕ). b ∷ l) (front_of m n bs (omega (arith, le)))

-- some were used of what is left of a list
pub used_on : (done n : ℕ) (bs new mid old : List ℕ) → mid ≡ all_used_last (take done bs) old → new ≡ all_used_last (take n (take (length bs - done) (drop done bs))) mid → new ≡ all_used_last (take (done + n) bs) old
used_on done n bs new mid old was now =
    now ∙ ap (λ (l : List ℕ). all_used_last (take n l) mid) (take_rest bs done) ∙ ap (λ (l : List ℕ). all_used_last (take n (drop done bs)) l) was ∙ used_both done n bs old

-- a use stopped at a block of what is left of a list
pub stopped_on : (done : ℕ) (bs new mid old : List ℕ) → done ≤ length bs → mid ≡ all_used_last (take done bs) old → HasStopped (take (length bs - done) (drop done bs)) mid new → HasStopped bs old new
stopped_on done bs new mid old within was (n, lt, is, gone) =
    let rest : take (length bs - done) (drop done bs) ≡ drop done bs = take_rest bs done in
    let one : get_or (take (length bs - done) (drop done bs)) n 0 ≡ get_or bs (done + n) 0 = ap (λ (l : List ℕ). get_or l n 0) rest ∙ get_or-drop done bs n 0 in (
      done + n,
      omega (arith, lt, ap (λ (l : List ℕ). length l) rest, length-drop done bs, within),
      used_on done n bs new mid old was is,
      subst (λ (b : ℕ). has b new ≡ false) one gone,
    )

-- how many are used then
pub within_on : (done n : ℕ) (bs : List ℕ) → done < length bs → n ≤ length (take (length bs - done) (drop done bs)) → done + n ≤ length bs
within_on done n bs lt le = omega (arith, lt, le, ap (λ (l : List ℕ). length l) (take_rest bs done), length-drop done bs)

-- where all are there, the first of those that are left is too
pub first_there : (n : ℕ) (bs ks : List ℕ) → n < length bs → AreIn bs ks → has (get_or (take (length bs - n) (drop n bs)) 0 0) ks ≡ true
first_there n bs ks lt are = rw (take_rest bs n) (first n bs lt are)
  where
    first : (n : ℕ) (bs : List ℕ) → n < length bs → AreIn bs ks → has (get_or (drop n bs) 0 0) ks ≡ true
    first n [] lt are = absurd (omega (arith, lt))
    first zero (b ∷ bs) lt are = are.0
    first (suc n) (b ∷ bs) lt are = first n bs (omega (arith, lt)) are.1

-- what holds of each block holds of those that are left
pub lie_behind : (at len n : ℕ) (bs : List ℕ) → AllByRecursion (LiesOn at len) bs → AllByRecursion (LiesOn at len) (drop n bs)
lie_behind at len zero bs lie = lie
lie_behind at len (suc n) [] lie = lie
lie_behind at len (suc n) (b ∷ bs) lie = lie_behind at len n bs lie.1

-- each block does
pub lies_at : (at len i : ℕ) (bs : List ℕ) → i < length bs → AllByRecursion (LiesOn at len) bs → LiesOn at len (get_or bs i 0)
lies_at at len i [] lt all = absurd (omega (arith, lt))
lies_at at len zero (b ∷ bs) lt all = all.0
lies_at at len (suc i) (b ∷ bs) lt all = lies_at at len i bs (omega (arith, lt)) all.1

-- a run lies on the disk, as its last block does
pub run_lies : (at len first : ℕ) (bs : List ℕ) (n : ℕ) → AllByRecursion (LiesOn at len) bs → 0 < n → n ≤ length bs → AreNeighbours first (take n bs)
    → at + 4096 * first + 4096 * length (take n bs) ≤ len
run_lies at len first bs n lie some within next =
    let size : length (take n bs) ≡ n = length-take-le n bs within in
    let last : get_or (take n bs) (n - 1) 0 ≡ first + (n - 1) = next (n - 1) (omega (arith, size, some)) in
    let same : get_or (take n bs) (n - 1) 0 ≡ get_or bs (n - 1) 0 = get_or-take n bs (n - 1) 0 (omega (arith, some)) in
    let lies : LiesOn at len (get_or bs (n - 1) 0) = lies_at at len (n - 1) bs (omega (arith, some, within)) lie in
    omega (arith, size, last, same, lies, some)

-- the first of a run is the first of the list
pub run_first : (n : ℕ) (bs : List ℕ) → 0 < n → get_or (take n bs) 0 0 ≡ get_or bs 0 0
run_first n bs some = get_or-take n bs 0 0 some

-- a use of the first block
pub used_first : (bs ks : List ℕ) → 0 < length bs → all_used_last (take 1 bs) ks ≡ used_last (get_or bs 0 0) ks
used_first [] ks some = absurd (omega (arith, some))
used_first (b ∷ bs) ks some = refl
