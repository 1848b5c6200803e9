-- How many callers have an access.
use Rattle.std.proofs.Common.{◌≡◌, ℕ, zero, suc, ◌+◌, ◌<◌, ◌≤◌, Bool, cond, count_by, Option, None, Some, is_some, refl, sym, ◌∙◌, ap, add-zero, ⊎_elim, arith}
use Rattle.std.proofs.lemmas.Bool.{cases_eq}
use Rattle.std.proofs.lemmas.Bool.Decides.{nat_tests}
use Rattle.std.proofs.lemmas.List.Sums.{sum_by-cons, count_by-le-length}
use Rattle.std.specs.List.{range_with_len}
use Rattle.hsm_types.specs.Limits.{callers}
use Rattle.hsm_types.specs.declared.dm.Response.{Response}
use Rattle.hsm_types.specs.declared.keys.Token.{Token}
use Rattle.hsm_types.specs.Callers.{IsCallerNumber}
use Rattle.hsm_types.specs.Keyed.{set_at}
use Rattle.access_park.specs.declared.access.Access.{Access}
use Rattle.access_park.specs.Laws.{CountsWaiting}
use Rattle.access_park.specs.Pending.{answered, nobody, waiting_in}
use Rattle.access_park.proofs.Answering.{some-answered}

one : Option Access → ℕ
one p = cond (is_some p) 1 0

-- of the n callers from a on
count : (ℕ → Option Access) → ℕ → ℕ → ℕ
count pending a n = count_by (λ c. is_some (pending c)) (range_with_len a n)

count-suc : (pending : ℕ → Option Access) (a n : ℕ) → count pending a (suc n) ≡ one (pending a) + count pending (a + 1) n
unfolding one count
count-suc pending a n = sum_by-cons (λ c. cond (is_some (pending c)) 1 0) a (range_with_len (a + 1) n)

module _ (pending : ℕ → Option Access) (c : ℕ) (p : Option Access) where
  at_c : set_at c p pending c ≡ p
  at_c = grind (arith, nat_tests)

  apart : (d : ℕ) → (d ≡ c → ⊥) → set_at c p pending d ≡ pending d
  apart d ne = grind (arith, nat_tests)

  count-past : (a n : ℕ) → c < a → count (set_at c p pending) a n ≡ count pending a n
  unfolding count
  count-past a zero past = refl
  count-past a (suc n) past =
      let here : one (set_at c p pending a) ≡ one (pending a) = ap one (apart a (λ same. omega arith)) in
      let rest = count-past (a + 1) n (omega arith) in
      omega (arith, count-suc (set_at c p pending) a n, count-suc pending a n)

  count-at : (a n : ℕ) → a ≤ c → c < a + n → count (set_at c p pending) a n + one (pending c) ≡ count pending a n + one p
  count-at a zero from to = absurd (omega arith)
  count-at a (suc n) from to =
      ⊎_elim
      (λ (same : a ≡ c).
      let here : one (set_at c p pending a) ≡ one p = ap one (rw same at_c) in
      let there : one (pending a) ≡ one (pending c) = ap (λ d. one (pending d)) same in
      let rest = count-past (a + 1) n (omega arith) in
      omega (arith, count-suc (set_at c p pending) a n, count-suc pending a n))
      (λ (ne : a ≡ c → ⊥).
      let here : one (set_at c p pending a) ≡ one (pending a) = ap one (apart a ne) in
      let rest = count-at (a + 1) n (omega arith) (omega arith) in
      omega (arith, count-suc (set_at c p pending) a n, count-suc pending a n))
      (cases_eq a c)

  waiting-set_at : IsCallerNumber c → waiting_in (set_at c p pending) + cond (is_some (pending c)) 1 0 ≡ waiting_in pending + cond (is_some p) 1 0
  unfolding waiting_in one count
  waiting-set_at is = count-at 1 callers is.0 (omega arith)

pub waiting-nobody : waiting_in nobody ≡ 0
unfolding waiting_in
waiting-nobody = refl

waiting-answered : (t : Token) (r : Response) (pending : ℕ → Option Access) → waiting_in (λ c. answered t r (pending c)) ≡ waiting_in pending
unfolding waiting_in
waiting-answered t r pending = ap (λ (test : ℕ → Bool). count_by test (range_with_len 1 callers)) (λ k c. some-answered t r (pending c) k)

few : (pending : ℕ → Option Access) → waiting_in pending ≤ callers
unfolding waiting_in
few pending = count_by-le-length (λ c. is_some (pending c)) (range_with_len 1 callers)

pub counts_waiting : (pending : ℕ → Option Access) → CountsWaiting pending
counts_waiting pending = record {
  few = few pending;
  parked = λ c a is none. sym (add-zero (waiting_in (set_at c (Some a) pending))) ∙ (rw none at (waiting-set_at pending c (Some a) is));
  ended = λ c is. waiting-set_at pending c None is ∙ add-zero (waiting_in pending);
  kept = λ t r. waiting-answered t r pending;
}
