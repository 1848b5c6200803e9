-- A segment has one entry at most, so what the map does at its key is done to all entries of the segment.
use Rattle.std.proofs.Common.{◌≡◌, ℕ, ◌+◌, ◌^◌, ◌<◌, ◌≤◌, [], ◌∷◌, length, Bool, true, false, not, cond, Option}
use Rattle.std.proofs.Common.{None, Some, is_some, Less, Equal, Greater, nat_cmp, is_gt, refl, sym, ap, ◌∙◌, arith}
use Rattle.std.specs.Prelude.{◌&&◌, ◌==◌, nat_eq, nat_lt, nat_le, if◌then◌else◌}
use Rattle.std.specs.BTreeMap.{is_at}
use Rattle.std.specs.List.Sorted.{IsStrictlySortedBy}
use Rattle.std.specs.Map.{keys_of, lookup, remove_entry, set_value}
use Rattle.std.proofs.lemmas.Bool.{false≢true, eqb-true, eqb-false, eq-eqb, ltb-false}
use Rattle.std.proofs.lemmas.Cmp.{nat_cmp_total, nat_eq_equiv, eq_by_cmp_equiv}
use Rattle.std.proofs.lemmas.Map.{lookup-none}
use Rattle.std.proofs.lemmas.Map.Entries.{none_past_head}
use Rattle.std.proofs.lemmas.Map.Keys.{IsDistinct-from_sorted, sorted_tail}
use Rattle.hsm_types.specs.Stubs.{Stubs, stub_at, moved, without_stub, stubs_below}
use Rattle.hsm_types.specs.declared.stubs.Stub.{Stub}
use Rattle.hsm_types.proofs.Righted.{eq-nat_cmp}
use Rattle.stub_map.specs.States.{NoneBetween, NoneFrom}

tests : (j : ℕ) → is_at (nat_cmp j) ≡ nat_eq j
tests j = λ i k. eq-nat_cmp j k i

pub lookup-is_at : (j : ℕ) (stubs : Stubs) → lookup (is_at (nat_cmp j)) stubs ≡ stub_at j stubs
lookup-is_at j stubs = ap (λ (test : ℕ → Bool). lookup test stubs) (tests j)

-- behind the segment's own entry there is none of it
none_past : (j : ℕ) (x : ℕ × Stub) (rest : Stubs) → IsStrictlySortedBy nat_cmp (keys_of (x ∷ rest)) → nat_eq j x.0 ≡ true → stub_at j rest ≡ None
none_past j x rest order same =
    sym (lookup-is_at j rest)
    ∙ lookup-none (is_at (nat_cmp j)) rest (none_past_head (eq_by_cmp_equiv nat_cmp_total) j x rest (IsDistinct-from_sorted nat_cmp (keys_of (x ∷ rest)) order) (eq-nat_cmp j x.0 ∙ same))

one_within : (k j : ℕ) → (nat_le k j && nat_lt j (k + 1)) ≡ nat_eq k j
one_within k j = grind (arith)

flipped : (j k : ℕ) → (k == j) ≡ nat_eq j k
flipped j k = nat_eq_equiv.symm k j

-- ---- a segment without an entry

absent-without : (j : ℕ) (stubs : Stubs) → stub_at j stubs ≡ None → without_stub j stubs ≡ stubs
absent-without j [] none = refl
absent-without j (x ∷ rest) none = by (nat_eq j x.0) (flipped j x.0) none (absent-without j rest)
  where
    by : (b : Bool) → (x.0 == j) ≡ b → cond b (Some x.1) (stub_at j rest) ≡ None → (stub_at j rest ≡ None → without_stub j rest ≡ rest) → without_stub j (x ∷ rest) ≡ x ∷ rest
    by true is none later = cc
    by false is none later = rw (is, later none) refl

pub absent-moved : (offline : Bool) (j : ℕ) (stubs : Stubs) → stub_at j stubs ≡ None → moved offline j (j + 1) stubs ≡ stubs
absent-moved offline j [] none = refl
absent-moved offline j (x ∷ rest) none = by (nat_eq j x.0) (one_within j x.0) none (absent-moved offline j rest)
  where
    by : (b : Bool) → (nat_le j x.0 && nat_lt x.0 (j + 1)) ≡ b → cond b (Some x.1) (stub_at j rest) ≡ None → (stub_at j rest ≡ None → moved offline j (j + 1) rest ≡ rest) → moved offline j (j + 1) (x ∷ rest) ≡ x ∷ rest
    by true is none later = cc
    by false is none later = rw (is, later none) refl

-- ---- an entry is taken away

removed : (j : ℕ) (stubs : Stubs) → IsStrictlySortedBy nat_cmp (keys_of stubs) → remove_entry (nat_eq j) stubs ≡ without_stub j stubs
removed j [] order = refl
removed j (x ∷ rest) order = by (nat_eq j x.0) (flipped j x.0) (none_past j x rest order) (removed j rest (sorted_tail nat_cmp x.0 (keys_of rest) order))
  where
    by : (b : Bool) → (x.0 == j) ≡ b → (b ≡ true → stub_at j rest ≡ None) → remove_entry (nat_eq j) rest ≡ without_stub j rest → cond b rest (x ∷ remove_entry (nat_eq j) rest) ≡ without_stub j (x ∷ rest)
    by true is none later = rw (is, absent-without j rest (none refl)) refl
    by false is none later = rw (is, later) refl

pub remove_entry-is_at : (j : ℕ) (stubs : Stubs) → IsStrictlySortedBy nat_cmp (keys_of stubs) → remove_entry (is_at (nat_cmp j)) stubs ≡ without_stub j stubs
remove_entry-is_at j stubs order = ap (λ (test : ℕ → Bool). remove_entry test stubs) (tests j) ∙ removed j stubs order

pub length-without : (j : ℕ) (stubs : Stubs) → length (without_stub j stubs) ≤ length stubs
length-without j [] = omega arith
length-without j (x ∷ rest) = by (not (x.0 == j)) (length-without j rest)
  where
    by : (b : Bool) → length (without_stub j rest) ≤ length rest → length (cond b (x ∷ without_stub j rest) (without_stub j rest)) ≤ length (x ∷ rest)
    by true later = omega arith
    by false later = omega arith

pub fewer-without : (j : ℕ) (stubs : Stubs) → is_some (stub_at j stubs) ≡ true → length (without_stub j stubs) < length stubs
fewer-without j [] some = absurd (false≢true some)
fewer-without j (x ∷ rest) some = by (nat_eq j x.0) (flipped j x.0) some (fewer-without j rest)
  where
    by : (b : Bool) → (x.0 == j) ≡ b → is_some (cond b (Some x.1) (stub_at j rest)) ≡ true → (is_some (stub_at j rest) ≡ true → length (without_stub j rest) < length rest) → length (without_stub j (x ∷ rest)) < length (x ∷ rest)
    by true is some later = rw is (let fewer = length-without j rest in omega arith)
    by false is some later = rw is (let fewer = later some in omega arith)

-- ---- all entries from a segment on are taken away

pub below-without : (n j : ℕ) (stubs : Stubs) → n ≤ j → stubs_below n (without_stub j stubs) ≡ stubs_below n stubs
below-without n j [] from = refl
below-without n j (x ∷ rest) from = by (x.0 == j) refl (below-without n j rest from)
  where
    above : x.0 ≡ j → nat_lt x.0 n ≡ false
    above same = grind (arith)

    by : (b : Bool) → (x.0 == j) ≡ b → stubs_below n (without_stub j rest) ≡ stubs_below n rest → stubs_below n (cond (not b) (x ∷ without_stub j rest) (without_stub j rest)) ≡ stubs_below n (x ∷ rest)
    by true is later = rw (above (eqb-true x.0 j is)) later
    by false is later = ap (λ (l : Stubs). cond (nat_lt x.0 n) (x ∷ l) l) later

pub none-below : (n : ℕ) (stubs : Stubs) → NoneFrom n stubs → stubs_below n stubs ≡ stubs
none-below n [] none = refl
none-below n (x ∷ rest) none = by (nat_lt x.0 n) refl (none-below n rest (λ k from. tail (nat_eq k x.0) k (none k from)))
  where
    tail : (b : Bool) (k : ℕ) → cond b (Some x.1) (stub_at k rest) ≡ None → stub_at k rest ≡ None
    tail true k none = cc
    tail false k none = none

    own : stub_at x.0 (x ∷ rest) ≡ Some x.1
    own = rw (eq-eqb x.0 x.0 refl) refl

    by : (b : Bool) → nat_lt x.0 n ≡ b → stubs_below n rest ≡ rest → cond b (x ∷ stubs_below n rest) (stubs_below n rest) ≡ x ∷ rest
    by true is later = rw later refl
    by false is later = absurd (let none_here = none x.0 (ltb-false x.0 n is) in let here = own in cc)

-- ---- the bytes are here or away

set : (offline : Bool) (j : ℕ) (stub : Stub) (stubs : Stubs) → IsStrictlySortedBy nat_cmp (keys_of stubs) → stub_at j stubs ≡ Some stub → set_value (nat_eq j) stubs (record stub { offline = offline }) ≡ moved offline j (j + 1) stubs
set offline j stub [] order found = cc
set offline j stub (x ∷ rest) order found = by (nat_eq j x.0) (one_within j x.0) found (none_past j x rest order) (set offline j stub rest (sorted_tail nat_cmp x.0 (keys_of rest) order))
  where
    by : (b : Bool) → (nat_le j x.0 && nat_lt x.0 (j + 1)) ≡ b → cond b (Some x.1) (stub_at j rest) ≡ Some stub → (b ≡ true → stub_at j rest ≡ None)
        → (stub_at j rest ≡ Some stub → set_value (nat_eq j) rest (record stub { offline = offline }) ≡ moved offline j (j + 1) rest)
        → cond b ((x.0, record stub { offline = offline }) ∷ rest) (x ∷ set_value (nat_eq j) rest (record stub { offline = offline })) ≡ moved offline j (j + 1) (x ∷ rest)
    by true is found none later = rw (is, absent-moved offline j rest (none refl)) (ap (λ (s : Stub). (x.0, record s { offline = offline }) ∷ rest) (sym (some found)))
      where
        some : Some x.1 ≡ Some stub → x.1 ≡ stub
        some same = cc
    by false is found none later = rw (is, later found) refl

pub set_value-is_at : (offline : Bool) (j : ℕ) (stub : Stub) (stubs : Stubs) → IsStrictlySortedBy nat_cmp (keys_of stubs) → stub_at j stubs ≡ Some stub → set_value (is_at (nat_cmp j)) stubs (record stub { offline = offline }) ≡ moved offline j (j + 1) stubs
set_value-is_at offline j stub stubs order found = ap (λ (test : ℕ → Bool). set_value test stubs (record stub { offline = offline })) (tests j) ∙ set offline j stub stubs order found

-- ---- how many entries there are

pub few-sealed : (j count : ℕ) (stubs : Stubs) (old : Option Stub) → (stub_at j stubs ≡ None → length stubs + 1 < 2 ^ 32) → old ≡ stub_at j stubs → length stubs < 2 ^ 32 → count ≡ length stubs + (if is_some old then 0 else 1) → count < 2 ^ 32
few-sealed j count stubs (Some stub) room found few counts = omega arith
few-sealed j count stubs None room found few counts = let more = room (sym found) in omega arith

-- ---- the order of segments

pub upto : (a b : ℕ) → a ≤ b → is_gt (nat_cmp a b) ≡ false
upto a b below = by (nat_lt a b) (a == b) refl refl
  where
    by : (c d : Bool) → nat_lt a b ≡ c → (a == b) ≡ d → is_gt (cond c Less (cond d Equal Greater)) ≡ false
    by true d less same = refl
    by false true less same = refl
    by false false less other = absurd (let high : b ≤ a = ltb-false a b less in let apart : a ≡ b → ⊥ = eqb-false a b other in omega arith)

-- where no segment with an entry is below the first one, none between has one
pub none_before : (from first : ℕ) (stubs : Stubs) → ((k : ℕ) → from ≤ k → is_some (stub_at k stubs) ≡ true → first ≤ k) → NoneBetween from first stubs
none_before from first stubs least k above below = by (stub_at k stubs) (least k above)
  where
    by : (stub : Option Stub) → (is_some stub ≡ true → first ≤ k) → stub ≡ None
    by None later = refl
    by (Some stub) later = absurd (let behind = later refl in omega arith)
