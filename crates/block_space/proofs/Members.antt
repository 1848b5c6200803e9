-- Numbers that stand in lists.
use Rattle.std.proofs.Common.{◌≡◌, ℕ, zero, suc, ◌+◌, ◌<◌, ◌≤◌, List, [], ◌∷◌, ◌++◌, length, take, get_or, Bool, true, false, ◌==◌, eqb, ⊎_elim, refl}
use Rattle.std.proofs.Common.{sym, ◌∙◌, subst, arith, add-one}
use Rattle.std.specs.List.{All, list_any}
use Rattle.std.specs.List.Sorted.{IsStrictlyIncreasing}
use Rattle.std.proofs.lemmas.Bool.{false≢true, eqb-true, eqb-false, eq-eqb, ne_eqb, or_parts, or_from, or_left, or_right, or_cases}
use Rattle.std.proofs.lemmas.List.Elements.{All-head, All-tail}
use Rattle.std.proofs.lemmas.List.Folds.{list_any_at, list_any-append}
use Rattle.plain_model.specs.Distinct.{Distinct}

-- whether a number stands in the list
abbrev pub has : ℕ → List ℕ → Bool
has b xs = list_any (λ m. m == b) xs

pub All-has : (P : ℕ → Type 0) (xs : List ℕ) (b : ℕ) → All P xs → has b xs ≡ true → P b
All-has P [] b all is = absurd (false≢true is)
All-has P (x ∷ xs) b all is =
    ⊎_elim (λ (e : eqb x b ≡ true). subst P (eqb-true x b e) (All-head P x xs all)) (λ (h : has b xs ≡ true). All-has P xs b (All-tail P x xs all) h) (or_cases (eqb x b) (has b xs) is)

pub All-from_has : (P : ℕ → Type 0) (xs : List ℕ) → ((b : ℕ) → has b xs ≡ true → P b) → All P xs
All-from_has P xs each = λ k d l. each (get_or xs k d) (list_any_at (λ m. eqb m (get_or xs k d)) xs k d l (eq-eqb (get_or xs k d) (get_or xs k d) refl))

-- ---- distinct numbers

-- a number that stands between others is none of them
pub Distinct-apart : (xs : List ℕ) (b : ℕ) (ys : List ℕ) → Distinct (xs ++ b ∷ ys) → has b (xs ++ ys) ≡ false
Distinct-apart [] b ys d = d.0
Distinct-apart (x ∷ xs) b ys d = or_from (eqb x b) (has b (xs ++ ys)) (ne_eqb x b (λ e. between xs b ys x d.0 (sym e))) (Distinct-apart xs b ys d.1)
  where
    between : (xs : List ℕ) (b : ℕ) (ys : List ℕ) (x : ℕ) → has x (xs ++ b ∷ ys) ≡ false → b ≡ x → ⊥
    between [] b ys x h e = eqb-false b x (or_parts (eqb b x) (has x ys) h).0 e
    between (z ∷ xs) b ys x h e = between xs b ys x (or_parts (eqb z x) (has x (xs ++ b ∷ ys)) h).1 e

pub Distinct-without : (xs : List ℕ) (b : ℕ) (ys : List ℕ) → Distinct (xs ++ b ∷ ys) → Distinct (xs ++ ys)
Distinct-without [] b ys d = d.1
Distinct-without (x ∷ xs) b ys d = (others xs b ys x d.0, Distinct-without xs b ys d.1)
  where
    others : (xs : List ℕ) (b : ℕ) (ys : List ℕ) (x : ℕ) → has x (xs ++ b ∷ ys) ≡ false → has x (xs ++ ys) ≡ false
    others [] b ys x h = (or_parts (eqb b x) (has x ys) h).1
    others (z ∷ xs) b ys x h = let parts = or_parts (eqb z x) (has x (xs ++ b ∷ ys)) h in or_from (eqb z x) (has x (xs ++ ys)) parts.0 (others xs b ys x parts.1)

pub Distinct-append : (xs ys : List ℕ) → Distinct xs → Distinct ys → ((b : ℕ) → has b xs ≡ true → has b ys ≡ false) → Distinct (xs ++ ys)
Distinct-append [] ys d e apart = e
Distinct-append (x ∷ xs) ys d e apart = (
  list_any-append (λ m. eqb m x) xs ys ∙ or_from (has x xs) (has x ys) d.0 (apart x (or_left (eqb x x) (has x xs) (eq-eqb x x refl))),
  Distinct-append xs ys d.1 e (λ b h. apart b (or_right (eqb x b) (has b xs) h)),
)

-- ---- ascending numbers

-- the numbers ascend, from that one on
abbrev pub Ascend : ℕ → List ℕ → Type 0
Ascend low [] = Unit {0}
Ascend low (b ∷ bs) = (low ≤ b) × Ascend (b + 1) bs

pub Ascend-low : (m n : ℕ) (bs : List ℕ) → m ≤ n → Ascend n bs → Ascend m bs
Ascend-low m n [] le a = tt
Ascend-low m n (b ∷ bs) le a = let low = a.0 in (omega arith, a.1)

pub Ascend-take : (m n : ℕ) (bs : List ℕ) → Ascend m bs → Ascend m (take n bs)
Ascend-take m zero bs a = tt
Ascend-take m (suc n) [] a = tt
Ascend-take m (suc n) (b ∷ bs) a = (a.0, Ascend-take (b + 1) n bs a.1)

absent : (m b : ℕ) (bs : List ℕ) → Ascend m bs → b < m → has b bs ≡ false
absent m b [] a l = refl
absent m b (x ∷ bs) a l = let low = a.0 in or_from (eqb x b) (has b bs) (ne_eqb x b (λ e. absurd (omega arith))) (absent (x + 1) b bs a.1 (omega arith))

pub Distinct-from_Ascend : (m : ℕ) (bs : List ℕ) → Ascend m bs → Distinct bs
Distinct-from_Ascend m [] a = tt
Distinct-from_Ascend m (b ∷ bs) a = (absent (b + 1) b bs a.1 (omega arith), Distinct-from_Ascend (b + 1) bs a.1)

pub Increasing-from_Ascend : (m : ℕ) (bs : List ℕ) → Ascend m bs → IsStrictlyIncreasing bs
Increasing-from_Ascend m bs a = λ k l. rw add-one (at m bs k a (omega arith))
  where
    at : (m : ℕ) (bs : List ℕ) (k : ℕ) → Ascend m bs → suc k < length bs → get_or bs k 0 < get_or bs (suc k) 0
    at m [] k a l = absurd (omega arith)
    at m (b ∷ []) k a l = absurd (omega arith)
    at m (b ∷ c ∷ bs) zero a l = let low = a.1.0 in omega arith
    at m (b ∷ c ∷ bs) (suc k) a l = at (b + 1) (c ∷ bs) k a.1 (omega arith)
