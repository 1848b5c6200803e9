-- The entries of a range of a file's blocks, between two cuts, and what is left without them.
use Rattle.std.proofs.Common.{◌≡◌, inl, inr, ⊎_elim, ℕ, zero, suc, ◌+◌, ◌-◌, ◌<◌, ◌≤◌, ◌==◌, ◌&&◌, nat_lt, nat_le, Bool, true, false, not, List, [], ◌∷◌, ◌++◌, length, get_or, filter, take, drop, Option, Some, None, refl, sym, ◌∙◌, ap, subst, arith}
use Rattle.std.specs.Prelude.{slice_get, if◌then◌else◌}
use Rattle.std.specs.List.{AllByRecursion}
use Rattle.std.proofs.lemmas.List.{length-append, length-drop, length-map, length-take-le}
use Rattle.std.proofs.lemmas.Bool.{eqb-true, eq-eqb, ltb-true, lt-ltb, leb-true, le-leb}
use Rattle.extent_map.specs.declared.extents.Extent.{Extent}
use Rattle.extent_map.specs.Extents.{is_entry_of, precedes, is_within, place_of, places_within, without_range, HasHoles, ExtentsAscend, CutsExtents}
use Rattle.extent_map.proofs.Orders.{before_from, before_to, not_before, before_through, at_is, both_true, false_of}

-- ---- one entry

within_is : (ino from to : ℕ) (e : Extent) → is_within ino from to e ≡ true → (e.ino ≡ ino) × (from ≤ e.block) × (e.block < to)
within_is ino from to e h =
    let one = both_true (e.ino == ino) _ h in
    let two = both_true (nat_le from e.block) (nat_lt e.block to) one.1 in
    (eqb-true e.ino ino one.0, leb-true from e.block two.0, ltb-true e.block to two.1)

within_from : (ino from to : ℕ) (e : Extent) → e.ino ≡ ino → from ≤ e.block → e.block < to → is_within ino from to e ≡ true
within_from ino from to e same low high = rw (eq-eqb e.ino ino same, le-leb from e.block low, lt-ltb e.block to high) refl

-- what comes before the range isn't in it
below_out : (ino from to : ℕ) (e : Extent) → precedes ino from e ≡ true → is_within ino from to e ≡ false
below_out ino from to e h = false_of (is_within ino from to e) (λ is. let w = within_is ino from to e is in ⊎_elim (λ lt. omega (arith, lt, w.0)) (λ b. omega (arith, b.1, w.1)) (before_from ino from e h))

-- nor what doesn't come before its end
above_out : (ino from to : ℕ) (e : Extent) → precedes ino to e ≡ false → is_within ino from to e ≡ false
above_out ino from to e un = false_of (is_within ino from to e) (λ is. let w = within_is ino from to e is in not_before ino to e un (inr (w.0, w.2)))

-- what lies between is
between_in : (ino from to : ℕ) (e : Extent) → precedes ino from e ≡ false → precedes ino to e ≡ true → is_within ino from to e ≡ true
between_in ino from to e un yes' = ⊎_elim
    (λ lt. absurd (not_before ino from e un (inl lt)))
    (λ b. within_from ino from to e b.0 (at_least from e.block (λ lt. not_before ino from e un (inr (b.0, lt)))) b.1)
    (before_from ino to e yes')
  where
    at_least : (a b : ℕ) → (b < a → ⊥) → a ≤ b
    at_least a b un = omega (arith, un)

-- what comes before the start comes before the end
wider : (ino from to : ℕ) (e : Extent) → from ≤ to → precedes ino from e ≡ true → precedes ino to e ≡ true
wider ino from to e le h = before_to ino to e (⊎_elim (λ lt. inl lt) (λ b. inr (b.0, omega (arith, b.1, le))) (before_from ino from e h))

-- ---- two cuts

pub cuts_ordered : (ino from to n m : ℕ) (es : List Extent) → from ≤ to → n ≤ length es → CutsExtents ino from n es → CutsExtents ino to m es → n ≤ m
cuts_ordered ino from to zero m es le within low high = omega arith
cuts_ordered ino from to (suc n) m [] le within low high = absurd (omega (arith, within))
cuts_ordered ino from to (suc n) zero (e ∷ es) le within low high = let bad : true ≡ false = sym (wider ino from to e le low.0.0) ∙ high.1.0 in absurd cc
cuts_ordered ino from to (suc n) (suc m) (e ∷ es) le within low high = let on = cuts_ordered ino from to n m es le (omega (arith, within)) (low.0.1, low.1) (high.0.1, high.1) in omega (arith, on)

nil_take : (k : ℕ) → [] ≡ take {A = Extent} k []
nil_take zero = refl
nil_take (suc k) = refl

pub filter_cut : (ino from to n m : ℕ) (es : List Extent) → from ≤ to → CutsExtents ino from n es → CutsExtents ino to m es → n ≤ m → filter (is_within ino from to) es ≡ take (m - n) (drop n es)
filter_cut ino from to zero zero [] le low high nm = refl
filter_cut ino from to zero (suc m) [] le low high nm = nil_take (suc m - 0)
filter_cut ino from to (suc n) zero [] le low high nm = absurd (omega (arith, nm))
filter_cut ino from to (suc n) (suc m) [] le low high nm = nil_take (suc m - suc n)
filter_cut ino from to zero zero (e ∷ es) le low high nm = rw (above_out ino from to e high.1.0) (filter_cut ino from to zero zero es le (tt, low.1.1) (tt, high.1.1) (omega arith))
filter_cut ino from to zero (suc m) (e ∷ es) le low high nm =
    let less : suc m - 0 ≡ suc m = omega arith in let less' : m - 0 ≡ m = omega arith in
    rw (between_in ino from to e low.1.0 high.0.0, less) (ap (λ (l : List Extent). e ∷ l) (filter_cut ino from to zero m es le (tt, low.1.1) (high.0.1, high.1) (omega arith) ∙ rw less' refl))
filter_cut ino from to (suc n) zero (e ∷ es) le low high nm = absurd (omega (arith, nm))
filter_cut ino from to (suc n) (suc m) (e ∷ es) le low high nm =
    let less : suc m - suc n ≡ m - n = omega arith in
    rw (below_out ino from to e low.0.0, less) (filter_cut ino from to n m es le (low.0.1, low.1) (high.0.1, high.1) (omega (arith, nm)))

pub without_cut : (ino from to n m : ℕ) (es : List Extent) → from ≤ to → CutsExtents ino from n es → CutsExtents ino to m es → n ≤ m → take n es ++ drop m es ≡ without_range ino from to es
without_cut ino from to zero zero [] le low high nm = refl
without_cut ino from to zero (suc m) [] le low high nm = refl
without_cut ino from to (suc n) zero [] le low high nm = absurd (omega (arith, nm))
without_cut ino from to (suc n) (suc m) [] le low high nm = refl
without_cut ino from to zero zero (e ∷ es) le low high nm = rw (above_out ino from to e high.1.0) (ap (λ (l : List Extent). e ∷ l) (without_cut ino from to zero zero es le (tt, low.1.1) (tt, high.1.1) (omega arith)))
without_cut ino from to zero (suc m) (e ∷ es) le low high nm = rw (between_in ino from to e low.1.0 high.0.0) (without_cut ino from to zero m es le (tt, low.1.1) (high.0.1, high.1) (omega arith))
without_cut ino from to (suc n) zero (e ∷ es) le low high nm = absurd (omega (arith, nm))
without_cut ino from to (suc n) (suc m) (e ∷ es) le low high nm = rw (below_out ino from to e low.0.0) (ap (λ (l : List Extent). e ∷ l) (without_cut ino from to n m es le (low.0.1, low.1) (high.0.1, high.1) (omega (arith, nm))))

-- a range that ends before it begins has no block
narrow_out : (ino from to : ℕ) (e : Extent) → to ≤ from → is_within ino from to e ≡ false
narrow_out ino from to e le = false_of (is_within ino from to e) (λ is. let w = within_is ino from to e is in omega (arith, w.1, w.2, le))

pub narrow_none : (ino from to : ℕ) (es : List Extent) → to ≤ from → filter (is_within ino from to) es ≡ []
narrow_none ino from to [] le = refl
narrow_none ino from to (e ∷ es) le = rw (narrow_out ino from to e le) (narrow_none ino from to es le)

pub narrow_same : (ino from to : ℕ) (es : List Extent) → to ≤ from → es ≡ without_range ino from to es
narrow_same ino from to [] le = refl
narrow_same ino from to (e ∷ es) le = rw (narrow_out ino from to e le) (ap (λ (l : List Extent). e ∷ l) (narrow_same ino from to es le))

-- ---- the first entry of a range

none_first : (ino from to : ℕ) (e : Extent) (es : List Extent) → precedes ino to e ≡ false → AllByRecursion (λ x. precedes x.ino x.block e ≡ true) es → filter (is_within ino from to) es ≡ []
none_first ino from to e [] un low = refl
none_first ino from to e (x ∷ es) un low = rw (above_out ino from to x (behind x low.0)) (none_first ino from to e es un low.1)
  where
    behind : (x : Extent) → precedes x.ino x.block e ≡ true → precedes ino to x ≡ false
    behind x low = false_of (precedes ino to x) (λ is. let bad : true ≡ false = sym (before_through ino to e x low is) ∙ un in absurd cc)

pub first_there : (ino from to n : ℕ) (es : List Extent) (d : Extent) → CutsExtents ino from n es → n < length es → precedes ino to (get_or es n d) ≡ true
    → slice_get (filter (is_within ino from to) es) 0 ≡ Some (get_or es n d)
first_there ino from to n [] d cuts lt is = absurd (omega (arith, lt))
first_there ino from to zero (e ∷ es) d cuts lt is = rw (between_in ino from to e cuts.1.0 is) refl
first_there ino from to (suc n) (e ∷ es) d cuts lt is = rw (below_out ino from to e cuts.0.0) (first_there ino from to n es d (cuts.0.1, cuts.1) (omega (arith, lt)) is)

pub first_none : (ino from to n : ℕ) (es : List Extent) (d : Extent) → ExtentsAscend es → CutsExtents ino from n es → (n < length es → precedes ino to (get_or es n d) ≡ false) → slice_get (filter (is_within ino from to) es) 0 ≡ None
first_none ino from to n [] d a cuts un = refl
first_none ino from to zero (e ∷ es) d a cuts un = rw (above_out ino from to e (un (omega arith)), none_first ino from to e es (un (omega arith)) a.0) refl
first_none ino from to (suc n) (e ∷ es) d a cuts un = rw (below_out ino from to e cuts.0.0) (first_none ino from to n es d a.1 (cuts.0.1, cuts.1) (λ lt. un (omega (arith, lt))))

-- ---- the map after a punch

pub punched_holes : (ino from to b : ℕ) (es : List Extent) → (nat_le from b && nat_lt b to) ≡ true → place_of ino b (without_range ino from to es) ≡ None
punched_holes ino from to b [] there = refl
punched_holes ino from to b (e ∷ es) there = (elim (is_within ino from to e) as (λ y. is_within ino from to e ≡ y → place_of ino b (without_range ino from to (e ∷ es)) ≡ None) [
  | true ↦ λ t. rw t (punched_holes ino from to b es there)
  | false ↦ λ t. rw (t, not_at t) (punched_holes ino from to b es there)
]) refl
  where
    not_at : is_within ino from to e ≡ false → is_entry_of ino b e ≡ false
    not_at out = false_of (is_entry_of ino b e) (λ is. let at = at_is ino b e is in
        let bounds = both_true (nat_le from b) (nat_lt b to) there in
        let in' : is_within ino from to e ≡ true = rw (eq-eqb e.ino ino at.0, at.1, bounds.0, bounds.1) refl in
        let bad : true ≡ false = sym in' ∙ out in absurd cc)

pub punched_others : (ino from to i b : ℕ) (es : List Extent) → ((i == ino) && (nat_le from b && nat_lt b to)) ≡ false → place_of i b (without_range ino from to es) ≡ place_of i b es
punched_others ino from to i b [] other = refl
punched_others ino from to i b (e ∷ es) other = (elim (is_within ino from to e) as (λ y. is_within ino from to e ≡ y → place_of i b (without_range ino from to (e ∷ es)) ≡ place_of i b (e ∷ es)) [
  | true ↦ λ t. rw (t, not_at t) (punched_others ino from to i b es other)
  | false ↦ λ t. rw t (ap (λ (o : Option ℕ). if is_entry_of i b e then Some e.at else o) (punched_others ino from to i b es other))
]) refl
  where
    not_at : is_within ino from to e ≡ true → is_entry_of i b e ≡ false
    not_at in' = false_of (is_entry_of i b e) (λ is. let at = at_is i b e is in let w = within_is ino from to e in' in
        let same : ((i == ino) && (nat_le from b && nat_lt b to)) ≡ true = rw (eq-eqb i ino (sym at.0 ∙ w.0), ← at.1, le-leb from e.block w.1, lt-ltb e.block to w.2) refl in
        let bad : true ≡ false = sym same ∙ other in absurd cc)

pub has_holes : (ino from to : ℕ) (es : List Extent) → HasHoles ino from to es (without_range ino from to es)
has_holes ino from to es = record { holes = λ b there. punched_holes ino from to b es there; others = λ i b other. punched_others ino from to i b es other }

-- ---- the order stays

low_filter : (p : Extent → Bool) (e : Extent) (es : List Extent) → AllByRecursion (λ x. precedes x.ino x.block e ≡ true) es → AllByRecursion (λ x. precedes x.ino x.block e ≡ true) (filter p es)
low_filter p e [] low = tt
low_filter p e (x ∷ es) low = (elim (p x) as (λ y. p x ≡ y → AllByRecursion (λ x. precedes x.ino x.block e ≡ true) (filter p (x ∷ es))) [
  | true ↦ λ t. rw t (low.0, low_filter p e es low.1)
  | false ↦ λ t. rw t (low_filter p e es low.1)
]) refl

pub ascend_filter : (p : Extent → Bool) (es : List Extent) → ExtentsAscend es → ExtentsAscend (filter p es)
ascend_filter p [] a = tt
ascend_filter p (e ∷ es) a = (elim (p e) as (λ y. p e ≡ y → ExtentsAscend (filter p (e ∷ es))) [
  | true ↦ λ t. rw t (low_filter p e es a.0, ascend_filter p es a.1)
  | false ↦ λ t. rw t (ascend_filter p es a.1)
]) refl

-- the same of what two cuts leave
pub left_holes : (ino from to : ℕ) (es new : List Extent) → new ≡ without_range ino from to es → HasHoles ino from to es new
left_holes ino from to es new is = subst (HasHoles ino from to es) (sym is) (has_holes ino from to es)

pub left_ascend : (ino from to : ℕ) (es new : List Extent) → ExtentsAscend es → new ≡ without_range ino from to es → ExtentsAscend new
left_ascend ino from to es new a is = subst ExtentsAscend (sym is) (ascend_filter (λ e. not (is_within ino from to e)) es a)

-- ---- how many entries there are

-- those that lie in the range and those that don't are all
pub split_lengths : (p : Extent → Bool) (es : List Extent) → length (filter p es) + length (filter (λ e. not (p e)) es) ≡ length es
split_lengths p [] = refl
split_lengths p (e ∷ es) = (elim (p e) as (λ y. p e ≡ y → length (filter p (e ∷ es)) + length (filter (λ e. not (p e)) (e ∷ es)) ≡ length (e ∷ es)) [
  | true ↦ λ t. let on = split_lengths p es in rw t (omega (arith, on))
  | false ↦ λ t. let on = split_lengths p es in rw t (omega (arith, on))
]) refl

pub count_within : (ino from to : ℕ) (es : List Extent) → length (places_within ino from to es) ≡ length (filter (is_within ino from to) es)
count_within ino from to es = length-map (filter (is_within ino from to) es) (λ e. e.at)

pub lengths_left : (ino from to : ℕ) (es new : List Extent) → new ≡ without_range ino from to es → length (places_within ino from to es) + length new ≡ length es
lengths_left ino from to es new is = omega (arith, count_within ino from to es, ap length is, split_lengths (is_within ino from to) es)

-- what is left when the entries from one place up to another are taken out
pub gap_left : (n m : ℕ) (es new : List Extent) → n ≤ m → m ≤ length es → new ≡ take n es ++ drop m es → m - n + length new ≡ length es
gap_left n m es new order within is =
    omega (arith, order, within, ap length is, length-append (take n es) (drop m es), length-take-le n es (omega (arith, order, within)), length-drop m es)
