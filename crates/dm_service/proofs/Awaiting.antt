-- How many tokens are open.
use Rattle.std.proofs.Common.{◌≡◌, ℕ, zero, suc, ◌+◌, ◌<◌, ◌≤◌, Bool, true, false, inl, inr, refl, sym, ◌∙◌, ap, arith}
use Rattle.std.proofs.lemmas.Bool.{eqb-true, cases_lt}
use Rattle.std.proofs.lemmas.Bool.Decides.{nat_tests}
use Rattle.std.specs.Prelude.{◌==◌, if◌then◌else◌}
use Rattle.hsm_types.specs.Keyed.{set_at}
use Rattle.plain_model.specs.State.{State}
use Rattle.plain_model.specs.Stands.{InOrder}
use Rattle.dm_service.specs.Tables.{open_among}

same_among : (n : ℕ) (f g : ℕ → Bool) → ((m : ℕ) → m ≤ n → f m ≡ g m) → open_among n f ≡ open_among n g
same_among zero f g same = refl
same_among (suc n) f g same = λ i. same_among n f g (λ m within. same m (omega arith)) i + (if same (suc n) (omega arith) i then 1 else 0)

-- elsewhere it is as before
apart : (t : ℕ) (b : Bool) (f : ℕ → Bool) (n : ℕ) → (n == t) ≡ false → set_at t b f n ≡ f n
apart t b f n is = rw is refl

here : (t : ℕ) (b : Bool) (f : ℕ → Bool) (n : ℕ) → (n == t) ≡ true → set_at t b f n ≡ b
here t b f n is = rw is refl

pub closed : (n t : ℕ) (f : ℕ → Bool) → 0 < t → t ≤ n → f t ≡ true → open_among n (set_at t false f) + 1 ≡ open_among n f
closed zero t f some within is = absurd (omega arith)
closed (suc n) t f some within is = elim (cases_lt n t) [
  | inl last ↦
      let now : (suc n == t) ≡ true = grind (arith, nat_tests) in
      let below = same_among n (set_at t false f) f (λ m small. apart t false f m (grind (arith, nat_tests))) in
      let was : f (suc n) ≡ true = ap f (eqb-true (suc n) t now) ∙ is in
      rw (here t false f (suc n) now, was) (omega (arith, below))
  | inr before ↦
      let later : (suc n == t) ≡ false = grind (arith, nat_tests) in
      let below = closed n t f some before is in
      rw (apart t false f (suc n) later) (omega (arith, below))
]

pub opened : (n : ℕ) (f : ℕ → Bool) → open_among (n + 1) (set_at (n + 1) true f) ≡ open_among n f + 1
opened n f =
    let now : (suc n == (n + 1)) ≡ true = grind (arith, nat_tests) in
    let below = same_among n (set_at (n + 1) true f) f (λ m small. apart (n + 1) true f m (grind (arith, nat_tests))) in
    let next : n + 1 ≡ suc n = omega arith in
    ap (λ k. open_among k (set_at (n + 1) true f)) next ∙ rw (here (n + 1) true f (suc n) now) (omega (arith, below))

pub few_open : (n : ℕ) (f : ℕ → Bool) → open_among n f ≤ n
few_open zero f = omega arith
few_open (suc n) f = let below = few_open n f in elim (f (suc n)) as (λ b. open_among n f + (if b then 1 else 0) ≤ suc n) [ true ↦ omega arith | false ↦ omega arith ]

pub within_top : (st : State) (t : ℕ) → InOrder st → st.ledger.open t ≡ true → t ≤ st.ledger.top
within_top st t ordered is = elim (cases_lt st.ledger.top t) [
  | inl past ↦ absurd (let wrong : true ≡ false = sym is ∙ ordered.given t past in cc wrong)
  | inr within ↦ within
]
