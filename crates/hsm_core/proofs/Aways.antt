-- The first segment whose bytes are away, as what refuses the segments that are met.
use Rattle.std.proofs.Common.{◌≡◌, ◌≤◌, ◌+◌, ◌-◌, ℕ, zero, suc, ◌∷◌, true, false, List, Option, Some, None, refl, ◌∙◌, ap, arith}
use Rattle.std.specs.Prelude.{map, MatchOption}
use Rattle.std.specs.Option.{option_map}
use Rattle.hsm_types.specs.Refusals.{first_refusal}
use Rattle.hsm_types.specs.Segments.{from_on}
use Rattle.hsm_types.specs.Stubs.{Stubs, stub_at, is_offline, already_offline}
use Rattle.hsm_types.specs.declared.dm.DmRefusal.{DmRefusal}
use Rattle.hsm_types.specs.declared.dm.DmRefusal.TheVariants.{Offline}
use Rattle.hsm_types.specs.declared.stubs.Stub.{Stub}
use Rattle.stub_map.specs.States.{HereBetween, IsFirstOffline}

-- what refuses so many segments from that one on
abbrev away_from : Stubs → ℕ → ℕ → Option DmRefusal
away_from stubs from n = first_refusal (map (λ j. already_offline j (stub_at j stubs)) (from_on from n))

-- ---- one segment

here_first : (j : ℕ) (stub : Option Stub) (rest : List (Option DmRefusal)) → is_offline stub ≡ false → first_refusal (already_offline j stub ∷ rest) ≡ first_refusal rest
here_first j None rest is = refl
here_first j (Some x) rest is = rw is refl

away_first : (j : ℕ) (stub : Option Stub) (rest : List (Option DmRefusal)) → is_offline stub ≡ true → first_refusal (already_offline j stub ∷ rest) ≡ Some (Offline j)
away_first j None rest is = absurd cc
away_first j (Some x) rest is = rw is refl

-- ---- a run of them

-- those that are here are passed
skip : (stubs : Stubs) (k from n : ℕ) → HereBetween from (from + k) stubs → k ≤ n → away_from stubs from n ≡ away_from stubs (from + k) (n - k)
skip stubs zero from n here le =
    let at : from ≡ from + zero = omega arith in
    let left : n ≡ n - zero = omega arith in
    λ i. away_from stubs (at i) (left i)
skip stubs (suc k) from zero here le = absurd (omega (arith, le))
skip stubs (suc k) from (suc n) here le =
    let at : from + 1 + k ≡ from + suc k = omega arith in
    let left : n - k ≡ suc n - suc k = omega arith in
    here_first from (stub_at from stubs) (map (λ j. already_offline j (stub_at j stubs)) (from_on (from + 1) n)) (here from (omega arith) (omega arith))
    ∙ skip stubs k (from + 1) n (λ j low high. here j (omega (arith, low)) (omega (arith, high))) (omega (arith, le))
    ∙ (λ i. away_from stubs (at i) (left i))

pub first_is : (stubs : Stubs) (from end : ℕ) (first : Option ℕ) → MatchOption first (HereBetween from end stubs) (IsFirstOffline from end stubs) → away_from stubs from (end - from) ≡ option_map Offline first
first_is stubs from end None here =
    let none : end - from - (end - from) ≡ 0 = omega arith in
    skip stubs (end - from) from (end - from) (λ j low high. here j low (omega (arith, low, high))) (omega arith) ∙ ap (away_from stubs (from + (end - from))) none
first_is stubs from end (Some j) is =
    let at : from + (j - from) ≡ j = omega (arith, is.0) in
    let left : end - from - (j - from) ≡ suc (end - (j + 1)) = omega (arith, is.0, is.1) in
    skip stubs (j - from) from (end - from) (λ k low high. is.3 k low (omega (arith, high, at))) (omega (arith, is.1))
    ∙ (λ i. away_from stubs (at i) (left i))
    ∙ away_first j (stub_at j stubs) (map (λ k. already_offline k (stub_at k stubs)) (from_on (j + 1) (end - (j + 1)))) is.2
