-- Whether a segment is offline among those that are looked at one after the other.
use Rattle.std.proofs.Common.{◌≡◌, ◌≤◌, ◌<◌, ◌+◌, ◌-◌, ℕ, zero, suc, Bool, true, false, Option, None, Some, is_some, refl, sym, ⊎_elim, subst, arith}
use Rattle.std.proofs.lemmas.Bool.{cases_lt}
use Rattle.std.specs.Prelude.{◌||◌, MatchOption}
use Rattle.std.specs.List.{list_any}
use Rattle.hsm_types.specs.Segments.{from_on}
use Rattle.hsm_types.specs.Stubs.{Stubs, offline_at}
use Rattle.stub_map.specs.States.{HereBetween, IsFirstOffline}

all_here : (p : ℕ → Bool) (from n : ℕ) → ((k : ℕ) → from ≤ k → k < from + n → p k ≡ false) → list_any p (from_on from n) ≡ false
all_here p from zero here = refl
all_here p from (suc n) here = rw (here from (omega arith) (omega arith)) (all_here p (from + 1) n (λ k low high. here k (omega arith) (omega arith)))

or_later : (b c : Bool) → c ≡ true → (b || c) ≡ true
or_later true c is = refl
or_later false c is = is

one_away : (p : ℕ → Bool) (from n j : ℕ) → from ≤ j → j < from + n → p j ≡ true → list_any p (from_on from n) ≡ true
one_away p from zero j low high is = absurd (omega arith)
one_away p from (suc n) j low high is =
    ⊎_elim (λ (later : from < j). or_later (p from) (list_any p (from_on (from + 1) n)) (one_away p (from + 1) n j (omega arith) (omega arith) is))
    (λ (first : j ≤ from). let same : j ≡ from = omega arith in let away : p from ≡ true = subst (λ k. p k ≡ true) same is in rw away refl) (cases_lt from j)

-- there is a first one where there is any
pub any_first : (stubs : Stubs) (from to : ℕ) (first : Option ℕ) → MatchOption first (HereBetween from to stubs) (IsFirstOffline from to stubs) → is_some first ≡ list_any (offline_at stubs) (from_on from (to - from))
any_first stubs from to None here = sym (all_here (offline_at stubs) from (to - from) (λ k low high. here k low (omega (arith, low, high))))
any_first stubs from to (Some j) is = sym (one_away (offline_at stubs) from (to - from) j is.0 (omega (arith, is.0, is.1)) is.2)
