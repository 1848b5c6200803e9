-- Stub entries after a change of the bytes of their file: those of segments that it touches go, first by the new size, and then one by one.
use Rattle.file_store.proofs.Names.{◌≡◌, ℕ, ◌+◌, ◌*◌, ◌<◌, min, max, List, [], ◌∷◌, length, Bool, true, false, ◌&&◌, ◌||◌, refl, sym, ◌∙◌, subst}
use Rattle.file_store.proofs.Names.{arith, cond_both, eqb, list_any, AllByRecursion, false≢true, eqb-true, is_some}
use Rattle.std.specs.Prelude.{filter, not, nat_lt}
use Rattle.std.proofs.lemmas.Bool.Decides.{nat_tests}
use Rattle.std.proofs.lemmas.Bool.{eq-eqb}
use Rattle.hsm_types.specs.Limits.{segment_bytes}
use Rattle.hsm_types.specs.Segments.{segments_in, meets_segment}
use Rattle.hsm_types.specs.Stubs.{Stubs, stub_at, offline_at, without_stub, stubs_below, unsealed}
use Rattle.hsm_types.specs.declared.stubs.Stub.{Stub as StubOf}
use Rattle.hsm_types.proofs.Stubbing.{stub_at-without, stub_at-below}
use Rattle.file_store.proofs.EachOf.{each-both}

-- ---- lists of which some are left

filter-twice : {X : Type 0} (p q : X → Bool) (xs : List X) → filter p (filter q xs) ≡ filter (λ x. q x && p x) xs
filter-twice p q [] = refl
filter-twice p q (x ∷ xs) = grind (arith, filter-twice p q xs)

pub filter-same : {X : Type 0} (p q : X → Bool) (xs : List X) → AllByRecursion (λ x. p x ≡ q x) xs → filter p xs ≡ filter q xs
filter-same p q [] all = refl
filter-same p q (x ∷ xs) all = rw (all.0, filter-same p q xs all.1) refl

pub each-filter : {X : Type 0} (p : X → Bool) (P Q : X → Type 0) (xs : List X) → ((x : X) → p x ≡ true → P x → Q x) → AllByRecursion P xs → AllByRecursion Q (filter p xs)
each-filter p P Q [] weaker all = tt
each-filter p P Q (x ∷ xs) weaker all = grind (arith, each-filter p P Q xs weaker all.1)

-- ---- entries that go one by one

abbrev has : List ℕ → ℕ → Bool
has js j = list_any (λ s. eqb s j) js

abbrev pub without_all : List ℕ → Stubs → Stubs
without_all [] stubs = stubs
without_all (j ∷ js) stubs = without_all js (without_stub j stubs)

without-is : (js : List ℕ) (p : ℕ → Bool) (stubs : Stubs) → without_all js (filter (λ x. p x.0) stubs) ≡ filter (λ x. p x.0 && not (has js x.0)) stubs
without-is [] p stubs = grind arith
without-is (j ∷ js) p stubs = grind (arith, filter-twice, filter-same, nat_tests, without-is js (λ q. p q && not (eqb q j)) stubs)

-- an entry that goes leaves others as they are
pub here-without : (k : ℕ) (stubs : Stubs) (j : ℕ) → offline_at stubs j ≡ false → offline_at (without_stub k stubs) j ≡ false
here-without k stubs j here = grind (arith, stub_at-without, cond_both)

pub here-below : (n : ℕ) (stubs : Stubs) (j : ℕ) → offline_at stubs j ≡ false → offline_at (stubs_below n stubs) j ≡ false
here-below n stubs j here = grind (arith, stub_at-below, cond_both)

-- ---- what is left by a change

-- no segment is unsealed by a restore
pub none-unsealed : (js : List ℕ) → AllByRecursion (λ (j : ℕ). false ≡ true) js → js ≡ []
none-unsealed [] only = refl
none-unsealed (j ∷ js) only = absurd (false≢true only.0)

has-only : (P : ℕ → Bool) (js : List ℕ) (j : ℕ) → AllByRecursion (λ i. P i ≡ true) js → has js j ≡ true → P j ≡ true
has-only P [] j only there = absurd (false≢true there)
has-only P (i ∷ js) j only there = by (eqb i j) refl (has-only P js j only.1) there
  where
    by : (b : Bool) → eqb i j ≡ b → (has js j ≡ true → P j ≡ true) → (b || has js j) ≡ true → P j ≡ true
    by true same later is = subst (λ n. P n ≡ true) (eqb-true i j same) only.0
    by false other later is = later is

both : (a b : Bool) → (a ≡ true → b ≡ true) → (b ≡ true → a ≡ true) → a ≡ b
both true b to from = sym (to refl)
both false true to from = from refl
both false false to from = refl

own-entry : (x : ℕ × StubOf) (rest : Stubs) → is_some (stub_at x.0 (x ∷ rest)) ≡ true
own-entry x rest = rw (eq-eqb x.0 x.0 refl) refl

more-entry : (x : ℕ × StubOf) (rest : Stubs) (j : ℕ) → is_some (stub_at j rest) ≡ true → is_some (stub_at j (x ∷ rest)) ≡ true
more-entry x rest j is = grind arith

-- these segments are just those that pass the test, of those with an entry
dropped : (P : ℕ → Bool) (js : List ℕ) (stubs xs : Stubs) → AllByRecursion (λ j. P j ≡ true) js → ((j : ℕ) → P j ≡ true → is_some (stub_at j stubs) ≡ true → has js j ≡ true) → ((j : ℕ) → is_some (stub_at j xs) ≡ true → is_some (stub_at j stubs) ≡ true)
    → AllByRecursion (λ x. has js x.0 ≡ P x.0) xs
dropped P js stubs [] only every there = tt
dropped P js stubs (x ∷ xs) only every there = grind (arith, both, has-only, own-entry, more-entry, dropped P js stubs xs only every (λ j is. there j (more-entry x xs j is)))

abbrev Starts : ℕ → ℕ × StubOf → Type 0
Starts size x = segment_bytes * x.0 < size

resized-left : (size to j : ℕ) → segment_bytes * j < size → (nat_lt j (segments_in to) && not (meets_segment (min to size) (max to size) j && nat_lt (segment_bytes * j) to)) ≡ not (meets_segment (min to size) (max to size) j)
resized-left size to j start = grind (arith, nat_tests)

written-left : (size from end j : ℕ) → segment_bytes * j < size → (nat_lt j (segments_in (max size end)) && not (meets_segment from end j)) ≡ not (meets_segment from end j)
written-left size from end j start = grind (arith, nat_tests)

-- a new size, and then the others
pub left-written : (size offset : ℕ) (bytes : List ℕ) (js : List ℕ) (stubs : Stubs) → AllByRecursion (Starts size) stubs → AllByRecursion (λ j. meets_segment (min offset size) (offset + length bytes) j ≡ true) js
    → ((j : ℕ) → meets_segment (min offset size) (offset + length bytes) j ≡ true → is_some (stub_at j stubs) ≡ true → has js j ≡ true)
    → without_all js (stubs_below (segments_in (max size (offset + length bytes))) stubs) ≡ unsealed (min offset size) (offset + length bytes) stubs
left-written size offset bytes js stubs starts only every =
    let from : ℕ = min offset size in
    let end : ℕ = offset + length bytes in
    without-is js (λ q. nat_lt q (segments_in (max size end))) stubs
    ∙ filter-same _ _ stubs
    (each-both (Starts size) (λ x. has js x.0 ≡ meets_segment from end x.0) (λ x. (nat_lt x.0 (segments_in (max size end)) && not (has js x.0)) ≡ not (meets_segment from end x.0))
    (λ x start same. rw same (written-left size from end x.0 start)) stubs starts (dropped (meets_segment from end) js stubs stubs only every (λ j is. is)))

pub left-resized : (size to : ℕ) (js : List ℕ) (stubs : Stubs) → AllByRecursion (Starts size) stubs → AllByRecursion (λ j. (meets_segment (min to size) (max to size) j && nat_lt (segment_bytes * j) to) ≡ true) js
    → ((j : ℕ) → (meets_segment (min to size) (max to size) j && nat_lt (segment_bytes * j) to) ≡ true → is_some (stub_at j stubs) ≡ true → has js j ≡ true)
    → without_all js (stubs_below (segments_in to) stubs) ≡ unsealed (min to size) (max to size) stubs
left-resized size to js stubs starts only every =
    let P : ℕ → Bool = λ j. meets_segment (min to size) (max to size) j && nat_lt (segment_bytes * j) to in
    without-is js (λ q. nat_lt q (segments_in to)) stubs
    ∙ filter-same _ _ stubs
    (each-both (Starts size) (λ x. has js x.0 ≡ P x.0) (λ x. (nat_lt x.0 (segments_in to) && not (has js x.0)) ≡ not (meets_segment (min to size) (max to size) x.0))
    (λ x start same. rw same (resized-left size to x.0 start)) stubs starts (dropped P js stubs stubs only every (λ j is. is)))
