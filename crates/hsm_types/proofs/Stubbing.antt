-- Which entry a segment has after each change of a file's stub entries, and what regions must cover.
use Rattle.std.proofs.Common.{◌≡◌, ℕ, ◌+◌, [], ◌∷◌, arith, Bool, true, false, not, cond, Option, Some, None, Ordering, Less, Equal, Greater, refl}
use Rattle.std.proofs.Common.{sym, ap, subst, ◌∙◌, nat_cmp, is_eq}
use Rattle.std.specs.Prelude.{List, ◌&&◌, ◌==◌, if◌then◌else◌, nat_eq, nat_lt, nat_le, IfSome}
use Rattle.std.specs.BTreeMap.{insert_entry}
use Rattle.std.specs.List.{AllByRecursion, find}
use Rattle.std.specs.Option.{option_map}
use Rattle.std.specs.Ordering.{match_ordering}
use Rattle.std.proofs.lemmas.Bool.{eqb-true, false≢true, true≢false}
use Rattle.std.proofs.lemmas.Map.Entries.{lookup-filter-keys}
use Rattle.hsm_types.specs.Regions.{covers}
use Rattle.hsm_types.specs.Segments.{meets_segment}
use Rattle.hsm_types.specs.Stubs.{Stubs, stub_at, is_offline, offline_at, moved, sealed, punched, restored, unsealed, without_stub, stubs_below}
use Rattle.hsm_types.specs.Stubs.{uncovered, FitsFile, AreStubs}
use Rattle.hsm_types.specs.declared.dm.DmRefusal.TheVariants.{Uncovered}
use Rattle.hsm_types.specs.declared.regions.Region.{Region}
use Rattle.hsm_types.specs.declared.stubs.Stub.{Stub}
use Rattle.hsm_types.specs.declared.stubs.StubEntry.{StubEntry}
use Rattle.hsm_types.proofs.Righted.{eq-nat_cmp}

-- the entry, with its bytes here or away
abbrev pub set_away : Bool → Option Stub → Option Stub
set_away offline stub = option_map (λ (x : Stub). record x { offline = offline }) stub

-- the entry with which a segment is sealed
abbrev pub seal_of : StubEntry → Stub
seal_of entry = record { entry = entry; offline = false }

-- ---- entries that are dropped

kept_if : (b : Bool) (stub : Option Stub) → cond (not b) stub None ≡ (if b then None else stub)
kept_if true stub = refl
kept_if false stub = refl

pub stub_at-unsealed : (from to : ℕ) (stubs : Stubs) (j : ℕ) → stub_at j (unsealed from to stubs) ≡ (if meets_segment from to j then None else stub_at j stubs)
stub_at-unsealed from to stubs j =
    lookup-filter-keys (nat_eq j) (λ (q : ℕ). not (meets_segment from to q)) (not (meets_segment from to j)) (λ q same. ap (λ n. not (meets_segment from to n)) (sym (eqb-true j q same))) stubs
    ∙ kept_if (meets_segment from to j) (stub_at j stubs)

pub stub_at-without : (k : ℕ) (stubs : Stubs) (j : ℕ) → stub_at j (without_stub k stubs) ≡ (if j == k then None else stub_at j stubs)
stub_at-without k stubs j =
    lookup-filter-keys (nat_eq j) (λ (q : ℕ). not (q == k)) (not (j == k)) (λ q same. ap (λ n. not (n == k)) (sym (eqb-true j q same))) stubs
    ∙ kept_if (j == k) (stub_at j stubs)

pub stub_at-below : (n : ℕ) (stubs : Stubs) (j : ℕ) → stub_at j (stubs_below n stubs) ≡ (if nat_lt j n then stub_at j stubs else None)
stub_at-below n stubs j = lookup-filter-keys (nat_eq j) (λ (q : ℕ). nat_lt q n) (nat_lt j n) (λ q same. ap (λ m. nat_lt m n) (sym (eqb-true j q same))) stubs

-- ---- entries that are changed

abbrev within : ℕ → ℕ → ℕ → Bool
within from to j = nat_le from j && nat_lt j to

pub stub_at-moved : (offline : Bool) (from to : ℕ) (stubs : Stubs) (j : ℕ) → stub_at j (moved offline from to stubs) ≡ (if nat_le from j && nat_lt j to then set_away offline (stub_at j stubs) else stub_at j stubs)
stub_at-moved offline from to [] j = nothing (within from to j)
  where
    nothing : (b : Bool) → None ≡ (if b then set_away offline None else None)
    nothing true = refl
    nothing false = refl
stub_at-moved offline from to (x ∷ rest) j = by (nat_eq j x.0) (within from to x.0) refl refl (stub_at-moved offline from to rest j)
  where
    by : (it inside : Bool) → nat_eq j x.0 ≡ it → within from to x.0 ≡ inside → stub_at j (moved offline from to rest) ≡ (if within from to j then set_away offline (stub_at j rest) else stub_at j rest)
        → stub_at j ((if inside then (x.0, record x.1 { offline = offline }) else x) ∷ moved offline from to rest)
        ≡ (if within from to j then set_away offline (cond it (Some x.1) (stub_at j rest)) else cond it (Some x.1) (stub_at j rest))
    by true true same is later = rw (same, ap (within from to) (eqb-true j x.0 same) ∙ is) refl
    by true false same is later = rw (same, ap (within from to) (eqb-true j x.0 same) ∙ is) refl
    by false true other is later = rw other later
    by false false other is later = rw other later

pub stub_at-punched : (from to : ℕ) (stubs : Stubs) (j : ℕ) → stub_at j (punched from to stubs) ≡ (if nat_le from j && nat_lt j to then set_away true (stub_at j stubs) else stub_at j stubs)
stub_at-punched from to stubs j = stub_at-moved true from to stubs j

one_within : (k j : ℕ) → within k (k + 1) j ≡ (j == k)
one_within k j = grind (arith)

pub stub_at-restored : (k : ℕ) (stubs : Stubs) (j : ℕ) → stub_at j (restored k stubs) ≡ (if j == k then set_away false (stub_at j stubs) else stub_at j stubs)
stub_at-restored k stubs j = stub_at-moved false k (k + 1) stubs j ∙ ap (λ b. if b then set_away false (stub_at j stubs) else stub_at j stubs) (one_within k j)

pub stub_at-sealed : (k : ℕ) (entry : StubEntry) (stubs : Stubs) (j : ℕ) → stub_at j (sealed k entry stubs) ≡ (if j == k then Some (seal_of entry) else stub_at j stubs)
stub_at-sealed k entry [] j = refl
stub_at-sealed k entry (x ∷ rest) j = by (nat_cmp k x.0) refl (stub_at-sealed k entry rest j)
  where
    at_same : (r : Ordering) → nat_cmp k x.0 ≡ r → (k == x.0) ≡ is_eq r
    at_same r is = sym (eq-nat_cmp k x.0) ∙ ap is_eq is

    swapped : (b c : Bool) → (j == k) ≡ b → (j == x.0) ≡ c → (k == x.0) ≡ false → cond c (Some x.1) (if b then Some (seal_of entry) else stub_at j rest) ≡ (if b then Some (seal_of entry) else cond c (Some x.1) (stub_at j rest))
    swapped true true mine is apart = absurd (let same : k ≡ x.0 = sym (eqb-true j k mine) ∙ eqb-true j x.0 is in grind (arith))
    swapped true false mine is apart = refl
    swapped false c mine is apart = refl

    twice : (b : Bool) → cond b (Some (seal_of entry)) (stub_at j rest) ≡ (if b then Some (seal_of entry) else cond b (Some x.1) (stub_at j rest))
    twice true = refl
    twice false = refl

    by : (r : Ordering) → nat_cmp k x.0 ≡ r → stub_at j (sealed k entry rest) ≡ (if j == k then Some (seal_of entry) else stub_at j rest)
        → stub_at j (match_ordering r ((k, seal_of entry) ∷ x ∷ rest) ((x.0, seal_of entry) ∷ rest) (x ∷ insert_entry nat_cmp rest k (seal_of entry))) ≡ (if j == k then Some (seal_of entry) else stub_at j (x ∷ rest))
    by Less is later = refl
    by Equal is later =
        let same : k ≡ x.0 = eqb-true k x.0 (at_same Equal is) in
        subst (λ n. cond (nat_eq j n) (Some (seal_of entry)) (stub_at j rest) ≡ (if j == k then Some (seal_of entry) else cond (nat_eq j n) (Some x.1) (stub_at j rest))) same (twice (j == k))
    by Greater is later = ap (cond (nat_eq j x.0) (Some x.1)) later ∙ swapped (j == k) (j == x.0) refl refl (at_same Greater is)

-- ---- regions

-- where none is uncovered, each offline segment is covered
pub all_covered : (regions : List Region) (stubs : Stubs) → uncovered regions stubs ≡ None → (j : ℕ) → offline_at stubs j ≡ true → covers regions j ≡ true
all_covered regions [] none j off = absurd (false≢true off)
all_covered regions (x ∷ rest) none j off = by (nat_eq j x.0) (x.1.offline && not (covers regions x.0)) refl refl none off (λ later away. all_covered regions rest later j away)
  where
    closed : (away covered : Bool) → (away && not covered) ≡ false → away ≡ true → covered ≡ true
    closed true true is off = refl
    closed true false is off = absurd (true≢false is)
    closed false covered is off = absurd (false≢true off)

    by : (it bad : Bool) → nat_eq j x.0 ≡ it → (x.1.offline && not (covers regions x.0)) ≡ bad
        → option_map (λ (y : ℕ × Stub). Uncovered y.0) (cond bad (Some x) (find (λ (y : ℕ × Stub). y.1.offline && not (covers regions y.0)) rest)) ≡ None
        → is_offline (cond it (Some x.1) (stub_at j rest)) ≡ true → (uncovered regions rest ≡ None → offline_at rest j ≡ true → covers regions j ≡ true) → covers regions j ≡ true
    by it true same is none off later = cc
    by true false same is none off later = rw (eqb-true j x.0 same) (closed x.1.offline (covers regions x.0) is off)
    by false false other is none off later = later none off

-- ---- entries that fit their file

-- the entry that a segment has fits
pub found_fits : (size : ℕ) (regions : List Region) (stubs : Stubs) → AreStubs size regions stubs → (j : ℕ) → IfSome (stub_at j stubs) (λ stub. FitsFile size regions (j, stub))
found_fits size regions stubs are j = each_fits stubs are.each
  where
    by : (x : ℕ × Stub) (it : Bool) (rest : Option Stub) → nat_eq j x.0 ≡ it → FitsFile size regions x → IfSome rest (λ stub. FitsFile size regions (j, stub)) → IfSome (cond it (Some x.1) rest) (λ stub. FitsFile size regions (j, stub))
    by x true rest same fits later = subst (λ n. FitsFile size regions (n, x.1)) (sym (eqb-true j x.0 same)) fits
    by x false rest other fits later = later

    each_fits : (xs : Stubs) → AllByRecursion (FitsFile size regions) xs → IfSome (stub_at j xs) (λ stub. FitsFile size regions (j, stub))
    each_fits [] all = tt
    each_fits (x ∷ rest) all = by x (nat_eq j x.0) (stub_at j rest) refl all.0 (each_fits rest all.1)

-- so each segment that is away is covered
pub away_covered : (size : ℕ) (regions : List Region) (stubs : Stubs) → AreStubs size regions stubs → (j : ℕ) → offline_at stubs j ≡ true → covers regions j ≡ true
away_covered size regions stubs are j away = by (stub_at j stubs) (found_fits size regions stubs are j) away
  where
    by : (stub : Option Stub) → IfSome stub (λ x. FitsFile size regions (j, x)) → is_offline stub ≡ true → covers regions j ≡ true
    by None fits off = absurd (false≢true off)
    by (Some x) fits off = fits.covered off
