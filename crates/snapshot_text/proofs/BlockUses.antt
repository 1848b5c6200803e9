-- How often a number stands in a list, and lists in which none stands twice.
use Rattle.std.proofs.Common.{◌≡◌, ℕ, ◌+◌, ◌≤◌, List, [], ◌∷◌, ◌++◌, false, cond, eqb, refl, arith}
use Rattle.std.specs.List.{list_any, AllByRecursion}
use Rattle.plain_model.specs.Distinct.{Distinct}

-- 1 where the numbers are one
abbrev pub is_one : ℕ → ℕ → ℕ
is_one m n = cond (eqb m n) 1 0

-- how often n stands there
abbrev pub uses : ℕ → List ℕ → ℕ
uses n [] = 0
uses n (m ∷ ms) = is_one m n + uses n ms

pub uses-append : (n : ℕ) (a b : List ℕ) → uses n (a ++ b) ≡ uses n a + uses n b
uses-append n [] b = omega arith
uses-append n (m ∷ a) b = omega (arith, uses-append n a b)

pub uses-absent : (n : ℕ) (ms : List ℕ) → list_any (λ m. eqb m n) ms ≡ false → uses n ms ≡ 0
uses-absent n [] none = refl
uses-absent n (m ∷ ms) none = grind (arith, uses-absent n ms)

pub absent-unused : (n : ℕ) (ms : List ℕ) → uses n ms ≡ 0 → list_any (λ m. eqb m n) ms ≡ false
absent-unused n [] none = refl
absent-unused n (m ∷ ms) none = grind (arith, absent-unused n ms)

pub distinct-uses : (ms : List ℕ) → Distinct ms → (n : ℕ) → uses n ms ≤ 1
distinct-uses [] d n = omega arith
distinct-uses (m ∷ ms) d n = grind (arith, distinct-uses ms d.1 n, uses-absent n ms)

pub uses-distinct : (ms : List ℕ) → ((n : ℕ) → uses n ms ≤ 1) → Distinct ms
uses-distinct [] h = tt
uses-distinct (m ∷ ms) h = (absent-unused m ms (grind (arith, h m)), uses-distinct ms (λ n. omega (arith, h n)))

-- what is true of each is true of each number that stands there, and back
pub each-used : (P : ℕ → Type 0) (ms : List ℕ) → AllByRecursion P ms → (n : ℕ) → 1 ≤ uses n ms → P n
each-used P [] each n used = absurd (omega arith)
each-used P (m ∷ ms) each n used = grind (arith, each.0, each-used P ms each.1 n)

pub used-each : (P : ℕ → Type 0) (ms : List ℕ) → ((n : ℕ) → 1 ≤ uses n ms → P n) → AllByRecursion P ms
used-each P [] at = tt
used-each P (m ∷ ms) at = (at m (grind arith), used-each P ms (λ n used. at n (omega arith)))
