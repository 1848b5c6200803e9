-- The free blocks from a place on.
use Rattle.std.proofs.Common.{◌≡◌, ℕ, zero, suc, ◌+◌, ◌-◌, ◌<◌, List, [], ◌∷◌, ◌++◌, length, take, drop, get_or, Bool, true, false, cond, ◌||◌, refl}
use Rattle.std.proofs.Common.{sym, ap, ◌∙◌, arith}
use Rattle.std.proofs.lemmas.Bool.{cond-true, cond-false}
use Rattle.std.proofs.lemmas.List.{drop_more, append_assoc}
use Rattle.block_space.specs.Space.{free_in, UsedBelow}

-- what is free from a place on, by the flags at it
at : (n k : ℕ) (cs ds : List Bool) → k < length cs → k < length ds
    → free_in n (drop k cs) (drop k ds) ≡ cond (get_or cs k false || get_or ds k false) (free_in (n + 1) (drop (k + 1) cs) (drop (k + 1) ds)) (n ∷ free_in (n + 1) (drop (k + 1) cs) (drop (k + 1) ds))
at n k cs ds l m = rw (drop_more cs k false l, drop_more ds k false m) refl

pub used_at : (k : ℕ) (cs ds : List Bool) → length ds ≡ length cs → k < length cs → (get_or cs k false || get_or ds k false) ≡ true
    → free_in k (drop k cs) (drop k ds) ≡ free_in (k + 1) (drop (k + 1) cs) (drop (k + 1) ds)
used_at k cs ds same l used = at k k cs ds l (omega arith) ∙ cond-true (get_or cs k false || get_or ds k false) _ _ used

pub free_at : (k : ℕ) (cs ds : List Bool) → length ds ≡ length cs → k < length cs → (get_or cs k false || get_or ds k false) ≡ false
    → free_in k (drop k cs) (drop k ds) ≡ k ∷ free_in (k + 1) (drop (k + 1) cs) (drop (k + 1) ds)
free_at k cs ds same l unused = at k k cs ds l (omega arith) ∙ cond-false (get_or cs k false || get_or ds k false) _ _ unused

-- what is used below a place leaves the free blocks from there on
from : (n low : ℕ) (cs ds : List Bool) → length ds ≡ length cs → UsedBelow low cs ds → free_in n cs ds ≡ free_in (n + low) (drop low cs) (drop low ds)
from n zero cs ds same used = let e : n ≡ n + 0 = omega arith in ap (λ m. free_in m cs ds) e
from n (suc low) [] ds same used = refl
from n (suc low) (c ∷ cs) [] same used = absurd (omega arith)
from n (suc low) (c ∷ cs) (d ∷ ds) same used =
    let next : n + 1 + low ≡ n + suc low = omega arith in
    cond-true (c || d) (free_in (n + 1) cs ds) (n ∷ free_in (n + 1) cs ds) (used 0 (omega arith))
    ∙ from (n + 1) low cs ds (omega arith) (λ b l. used (suc b) (omega arith))
    ∙ ap (λ m. free_in m (drop low cs) (drop low ds)) next

pub free_from : (low : ℕ) (cs ds : List Bool) → length ds ≡ length cs → UsedBelow low cs ds → free_in low (drop low cs) (drop low ds) ≡ free_in 0 cs ds
free_from low cs ds same used = let e : low ≡ 0 + low = omega arith in sym (from 0 low cs ds same used ∙ ap (λ m. free_in m (drop low cs) (drop low ds)) (sym e))

-- one block more is taken
pub taken_more : (bs : List ℕ) (n m k : ℕ) (ks : List ℕ) → m < n → (bs ++ k ∷ []) ++ take (n - (m + 1)) ks ≡ bs ++ take (n - m) (k ∷ ks)
taken_more bs n m k ks l = let left : n - m ≡ suc (n - (m + 1)) = omega arith in rw (left, append_assoc) refl
