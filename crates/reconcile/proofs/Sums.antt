-- Sums over numbers in a row, and counts of objects.
use Rattle.std.proofs.Common.{◌≡◌, ◌⊎◌, inl, inr, ℕ, zero, suc, ◌+◌, ◌<◌, ◌≤◌, Bool, true, false, cond, not, List, [], ◌∷◌, length, sum_by, count_by}
use Rattle.std.proofs.Common.{refl, sym, ap, ◌∙◌, arith, rules, add-zero, add-one, zero-add}
use Rattle.std.proofs.lemmas.List.Sums.{sum_by-cons}
use Rattle.std.specs.List.{range_with_len}
use Rattle.media_model.specs.Objects.{Objects}
use Rattle.reconcile.specs.Classes.{count_objects}

sum_more : (f : ℕ → ℕ) (a n : ℕ) → sum_by f (range_with_len a (suc n)) ≡ sum_by f (range_with_len a n) + f (a + n)
sum_more f a zero = ap (λ k. 0 + f k) (sym (add-zero a))
sum_more f a (suc n) =
    let at : f ((a + 1) + n) ≡ f (a + suc n) = ap f (omega arith) in
    omega (arith, sum_by-cons f a (range_with_len (a + 1) (suc n)), sum_by-cons f a (range_with_len (a + 1) n), sum_more f (a + 1) n, at)

pub sum_up : (f : ℕ → ℕ) (n : ℕ) → sum_by f (range_with_len 0 (n + 1)) ≡ sum_by f (range_with_len 0 n) + f n
sum_up f n = rw add-one (sum_more f 0 n ∙ ap (λ k. sum_by f (range_with_len 0 n) + f k) (zero-add n))

pub zero_sum : (f : ℕ → ℕ) → ((i : ℕ) → f i ≡ 0) → (l : List ℕ) → sum_by f l ≡ 0
zero_sum f zeros [] = refl
zero_sum f zeros (x ∷ xs) = omega (arith, sum_by-cons f x xs, zeros x, zero_sum f zeros xs)

-- the terms from a on are the same
pub same_sum : (f h : ℕ → ℕ) (a n : ℕ) → ((i : ℕ) → a ≤ i → i < a + n → h i ≡ f i) → sum_by h (range_with_len a n) ≡ sum_by f (range_with_len a n)
same_sum f h a zero same = refl
same_sum f h a (suc n) same =
    let first : h a ≡ f a = same a (omega arith) (omega arith) in
    let rest : sum_by h (range_with_len (a + 1) n) ≡ sum_by f (range_with_len (a + 1) n) = same_sum f h (a + 1) n (λ i low high. same i (omega arith) (omega arith)) in
    omega (arith, sum_by-cons h a (range_with_len (a + 1) n), sum_by-cons f a (range_with_len (a + 1) n), first, rest)

here_or_later : (a k : ℕ) → a ≤ k → (a ≡ k) ⊎ (a < k)
here_or_later a k low = search rules

-- the term at k is one more, and the others are the same
pub one_more : (f h : ℕ → ℕ) (k : ℕ) → ((i : ℕ) → (i ≡ k → ⊥) → h i ≡ f i) → h k ≡ f k + 1 → (a n : ℕ) → a ≤ k → k < a + n → sum_by h (range_with_len a n) ≡ sum_by f (range_with_len a n) + 1
one_more f h k others more a zero low high = absurd (omega arith)
one_more f h k others more a (suc n) low high =
    elim (here_or_later a k low) [
      | inl here ↦
          let first : h a ≡ f a + 1 = rw here more in
          let rest : sum_by h (range_with_len (a + 1) n) ≡ sum_by f (range_with_len (a + 1) n) = same_sum f h (a + 1) n (λ i from to. others i (λ is. omega arith)) in
          omega (arith, sum_by-cons h a (range_with_len (a + 1) n), sum_by-cons f a (range_with_len (a + 1) n), first, rest)
      | inr later ↦
          let first : h a ≡ f a = others a (λ is. omega arith) in
          let rest : sum_by h (range_with_len (a + 1) n) ≡ sum_by f (range_with_len (a + 1) n) + 1 = one_more f h k others more (a + 1) n (omega arith) (omega arith) in
          omega (arith, sum_by-cons h a (range_with_len (a + 1) n), sum_by-cons f a (range_with_len (a + 1) n), first, rest)
    ]

-- the terms of two sums make those of a third
pub both_sums : (f h t : ℕ → ℕ) → ((i : ℕ) → f i + h i ≡ t i) → (l : List ℕ) → sum_by f l + sum_by h l ≡ sum_by t l
both_sums f h t both [] = refl
both_sums f h t both (x ∷ xs) = omega (arith, sum_by-cons f x xs, sum_by-cons h x xs, sum_by-cons t x xs, both x, both_sums f h t both xs)

ones : (a n : ℕ) → sum_by (λ (i : ℕ). 1) (range_with_len a n) ≡ n
ones a zero = refl
ones a (suc n) = omega (arith, sum_by-cons (λ (i : ℕ). 1) a (range_with_len (a + 1) n), ones (a + 1) n)

one_or_other : (b : Bool) → cond b 1 0 + cond (not b) 1 0 ≡ 1
one_or_other true = refl
one_or_other false = refl

-- those that pass a test and those that fail it are all
pub all_objects : (p : ℕ → ℕ → Bool) (volumes : ℕ) (told : ℕ → Objects) → count_objects p volumes told + count_objects (λ v o. not (p v o)) volumes told ≡ sum_by (λ v. length (told v)) (range_with_len 0 volumes)
all_objects p volumes told =
    both_sums (λ v. count_by (p v) (range_with_len 0 (length (told v)))) (λ v. count_by (λ o. not (p v o)) (range_with_len 0 (length (told v)))) (λ v. length (told v))
    (λ v. both_sums (λ o. cond (p v o) 1 0) (λ o. cond (not (p v o)) 1 0) (λ o. 1) (λ o. one_or_other (p v o)) (range_with_len 0 (length (told v))) ∙ ones 0 (length (told v))) (range_with_len 0 volumes)

-- two tests that the objects pass alike
pub same_count : (p q : ℕ → ℕ → Bool) (volumes : ℕ) (told : ℕ → Objects) → ((v o : ℕ) → v < volumes → o < length (told v) → q v o ≡ p v o) → count_objects q volumes told ≡ count_objects p volumes told
same_count p q volumes told same =
    same_sum (λ v. count_by (p v) (range_with_len 0 (length (told v)))) (λ v. count_by (q v) (range_with_len 0 (length (told v)))) 0 volumes
    (λ v from to. same_sum (λ o. cond (p v o) 1 0) (λ o. cond (q v o) 1 0) 0 (length (told v)) (λ o low high. ap (λ b. cond b 1 0) (same v o (omega arith) (omega arith))))

-- a test that one object more passes
pub count_more : (p q : ℕ → ℕ → Bool) (volumes : ℕ) (told : ℕ → Objects) (v o : ℕ) → v < volumes → o < length (told v) → p v o ≡ false → q v o ≡ true → ((w n : ℕ) → (w ≡ v → n ≡ o → ⊥) → q w n ≡ p w n)
    → count_objects q volumes told ≡ count_objects p volumes told + 1
count_more p q volumes told v o there has was is others =
    one_more (λ w. count_by (p w) (range_with_len 0 (length (told w)))) (λ w. count_by (q w) (range_with_len 0 (length (told w)))) v
    (λ w apart. same_sum (λ n. cond (p w n) 1 0) (λ n. cond (q w n) 1 0) 0 (length (told w)) (λ n low high. ap (λ b. cond b 1 0) (others w n (λ e. absurd (apart e)))))
    (one_more (λ n. cond (p v n) 1 0) (λ n. cond (q v n) 1 0) o (λ n apart. ap (λ b. cond b 1 0) (others v n (λ e f. apart f))) (rw (was, is) refl) 0 (length (told v)) (omega arith) (omega arith)) 0 volumes (omega arith) (omega arith)
