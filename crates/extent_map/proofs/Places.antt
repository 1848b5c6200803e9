-- Where file blocks lie in a map, what a change of it leaves, and what is found at a cut.
use Rattle.std.proofs.Common.{◌≡◌, inl, inr, ⊎_elim, ℕ, zero, suc, ◌+◌, ◌<◌, ◌≤◌, ◌==◌, ◌&&◌, Bool, true, false, List, [], ◌∷◌, length, get_or, set, insert, Option, Some, None, refl, sym, ◌∙◌, ap, arith}
use Rattle.std.specs.Prelude.{if◌then◌else◌, MatchOption}
use Rattle.std.specs.List.{AllByRecursion}
use Rattle.std.proofs.lemmas.Bool.{eq-eqb}
use Rattle.extent_map.specs.declared.extents.Extent.{Extent}
use Rattle.extent_map.specs.Extents.{is_entry_of, precedes, place_of, with_extent, MapsTo, ExtentsAscend, CutsExtents}
use Rattle.extent_map.proofs.Orders.{Before, before_from, before_to, not_before, before_through, at_is, at_from, false_of, before_not_at, after_not_at}

-- ---- what is found at a cut

-- no entry of the file block behind one that doesn't come before it
none_after : (ino block : ℕ) (e : Extent) (es : List Extent) → precedes ino block e ≡ false → AllByRecursion (λ x. precedes x.ino x.block e ≡ true) es → place_of ino block es ≡ None
none_after ino block e [] un low = refl
none_after ino block e (x ∷ es) un low = rw (after_not_at ino block e x un low.0) (none_after ino block e es un low.1)

pub place_there : (ino block n : ℕ) (es : List Extent) (d : Extent) → CutsExtents ino block n es → n < length es → is_entry_of ino block (get_or es n d) ≡ true → place_of ino block es ≡ Some (get_or es n d).at
place_there ino block n [] d cuts lt is = absurd (omega (arith, lt))
place_there ino block zero (e ∷ es) d cuts lt is = rw is refl
place_there ino block (suc n) (e ∷ es) d cuts lt is = rw (before_not_at ino block e cuts.0.0) (place_there ino block n es d (cuts.0.1, cuts.1) (omega (arith, lt)) is)

pub place_none : (ino block n : ℕ) (es : List Extent) (d : Extent) → ExtentsAscend es → CutsExtents ino block n es → (n < length es → is_entry_of ino block (get_or es n d) ≡ false) → place_of ino block es ≡ None
place_none ino block n [] d a cuts un = refl
place_none ino block zero (e ∷ es) d a cuts un = rw (un (omega arith)) (none_after ino block e es cuts.1.0 a.0)
place_none ino block (suc n) (e ∷ es) d a cuts un = rw (before_not_at ino block e cuts.0.0) (place_none ino block n es d a.1 (cuts.0.1, cuts.1) (λ lt. un (omega (arith, lt))))

-- ---- a new entry at a cut

pub set_there : (e : Extent) (n : ℕ) (es : List Extent) (d : Extent) → CutsExtents e.ino e.block n es → n < length es → is_entry_of e.ino e.block (get_or es n d) ≡ true → set es n e ≡ with_extent e es
set_there e n [] d cuts lt is = absurd (omega (arith, lt))
set_there e zero (x ∷ es) d cuts lt is = rw (cuts.1.0, is) refl
set_there e (suc n) (x ∷ es) d cuts lt is = rw cuts.0.0 (ap (λ (l : List Extent). x ∷ l) (set_there e n es d (cuts.0.1, cuts.1) (omega (arith, lt)) is))

pub insert_there : (e : Extent) (n : ℕ) (es : List Extent) (d : Extent) → CutsExtents e.ino e.block n es → n ≤ length es → (n < length es → is_entry_of e.ino e.block (get_or es n d) ≡ false) → insert es n e ≡ with_extent e es
insert_there e zero [] d cuts le un = refl
insert_there e (suc n) [] d cuts le un = absurd (omega (arith, le))
insert_there e zero (x ∷ es) d cuts le un = rw (cuts.1.0, un (omega arith)) refl
insert_there e (suc n) (x ∷ es) d cuts le un = rw cuts.0.0 (ap (λ (l : List Extent). x ∷ l) (insert_there e n es d (cuts.0.1, cuts.1) (omega (arith, le)) (λ lt. un (omega (arith, lt)))))

-- ---- the map after a put

-- the new entry is found
pub placed : (e : Extent) (es : List Extent) → place_of e.ino e.block (with_extent e es) ≡ Some e.at
placed e [] = rw (at_from e.ino e.block e refl refl) refl
placed e (x ∷ es) = (elim (precedes e.ino e.block x) as (λ y. precedes e.ino e.block x ≡ y → place_of e.ino e.block (with_extent e (x ∷ es)) ≡ Some e.at) [
  | true ↦ λ t. rw (t, before_not_at e.ino e.block x t) (placed e es)
  | false ↦ λ t. rw t (at_front (is_entry_of e.ino e.block x) refl)
]) refl
  where
    self : is_entry_of e.ino e.block e ≡ true
    self = at_from e.ino e.block e refl refl

    at_front : (y : Bool) → is_entry_of e.ino e.block x ≡ y → place_of e.ino e.block (if y then e ∷ es else e ∷ x ∷ es) ≡ Some e.at
    at_front true is = rw self refl
    at_front false is = rw self refl

-- all others lie where they lay
pub placed_others : (e : Extent) (i b : ℕ) (es : List Extent) → ((i == e.ino) && (b == e.block)) ≡ false → place_of i b (with_extent e es) ≡ place_of i b es
placed_others e i b es other = go es
  where
    not_e : is_entry_of i b e ≡ false
    not_e = false_of (is_entry_of i b e) (λ is. let at = at_is i b e is in
        let same : ((i == e.ino) && (b == e.block)) ≡ true = rw (eq-eqb i e.ino (sym at.0), eq-eqb b e.block (sym at.1)) refl in
        let bad : true ≡ false = sym same ∙ other in absurd cc)

    -- nor is the entry that it stands in the place of
    not_x : (x : Extent) → is_entry_of e.ino e.block x ≡ true → is_entry_of i b x ≡ false
    not_x x is = false_of (is_entry_of i b x) (λ is'. let at = at_is e.ino e.block x is in let at' = at_is i b x is' in
        let same : is_entry_of i b e ≡ true = at_from i b e (sym at.0 ∙ at'.0) (sym at.1 ∙ at'.1) in
        let bad : true ≡ false = sym same ∙ not_e in absurd cc)

    step : (x : Extent) (es es' : List Extent) → place_of i b es' ≡ place_of i b es → place_of i b (x ∷ es') ≡ place_of i b (x ∷ es)
    step x es es' same = ap (λ (o : Option ℕ). if is_entry_of i b x then Some x.at else o) same

    go : (es : List Extent) → place_of i b (with_extent e es) ≡ place_of i b es
    go [] = rw not_e refl
    go (x ∷ es) = (elim (precedes e.ino e.block x) as (λ y. precedes e.ino e.block x ≡ y → place_of i b (with_extent e (x ∷ es)) ≡ place_of i b (x ∷ es)) [
      | true ↦ λ t. rw t (step x es (with_extent e es) (go es))
      | false ↦ λ t. rw t ((elim (is_entry_of e.ino e.block x) as (λ y. is_entry_of e.ino e.block x ≡ y → place_of i b (if y then e ∷ es else e ∷ x ∷ es) ≡ place_of i b (x ∷ es)) [
        | true ↦ λ is. rw (not_e, not_x x is) refl
        | false ↦ λ is. rw not_e refl
      ]) refl)
    ]) refl

pub maps_to : (e : Extent) (es : List Extent) → MapsTo e.ino e.block e.at es (with_extent e es)
maps_to e es = record { there = placed e es; others = λ i b other. placed_others e i b es other }

-- ---- the order stays

true_of : (x : Bool) → (x ≡ false → ⊥) → x ≡ true
true_of true un = refl
true_of false un = absurd (un refl)

at_least : (a b : ℕ) → (b < a → ⊥) → a ≤ b
at_least a b un = omega (arith, un)

-- of two entries of different file blocks one comes first
other_first : (e x : Extent) → precedes e.ino e.block x ≡ false → is_entry_of e.ino e.block x ≡ false → precedes x.ino x.block e ≡ true
other_first e x un apart = true_of (precedes x.ino x.block e) (λ un'.
    let below = at_least e.ino x.ino (λ lt. not_before e.ino e.block x un (inl lt)) in
    let above = at_least x.ino e.ino (λ lt. not_before x.ino x.block e un' (inl lt)) in
    let same : x.ino ≡ e.ino = omega (arith, below, above) in
    let below' = at_least e.block x.block (λ lt. not_before e.ino e.block x un (inr (same, lt))) in
    let above' = at_least x.block e.block (λ lt. not_before x.ino x.block e un' (inr (sym same, lt))) in
    let bad : true ≡ false = sym (at_from e.ino e.block x same (omega (arith, below', above'))) ∙ apart in absurd cc)

-- what follows one entry follows that which comes before it
low_through : (e x : Extent) (es : List Extent) → precedes x.ino x.block e ≡ true → AllByRecursion (λ y. precedes y.ino y.block x ≡ true) es → AllByRecursion (λ y. precedes y.ino y.block e ≡ true) es
low_through e x [] first low = tt
low_through e x (y ∷ es) first low = (before_through y.ino y.block e x first low.0, low_through e x es first low.1)

-- and that which stands in its place
low_at : (e x : Extent) (es : List Extent) → is_entry_of e.ino e.block x ≡ true → AllByRecursion (λ y. precedes y.ino y.block x ≡ true) es → AllByRecursion (λ y. precedes y.ino y.block e ≡ true) es
low_at e x [] is low = tt
low_at e x (y ∷ es) is low = (before_to y.ino y.block e (moved (before_from y.ino y.block x low.0)), low_at e x es is low.1)
  where
    moved : Before y.ino y.block x → Before y.ino y.block e
    moved b = let at = at_is e.ino e.block x is in ⊎_elim (λ lt. inl (omega (arith, lt, at.0))) (λ b. inr (sym at.0 ∙ b.0, omega (arith, b.1, at.1))) b

low_with : (e x : Extent) (es : List Extent) → precedes e.ino e.block x ≡ true → AllByRecursion (λ y. precedes y.ino y.block x ≡ true) es → AllByRecursion (λ y. precedes y.ino y.block x ≡ true) (with_extent e es)
low_with e x [] first low = (first, tt)
low_with e x (y ∷ es) first low = (elim (precedes e.ino e.block y) as (λ z. precedes e.ino e.block y ≡ z → AllByRecursion (λ y. precedes y.ino y.block x ≡ true) (with_extent e (y ∷ es))) [
  | true ↦ λ t. rw t (low.0, low_with e x es first low.1)
  | false ↦ λ t. rw t ((elim (is_entry_of e.ino e.block y) as (λ z. is_entry_of e.ino e.block y ≡ z → AllByRecursion (λ y. precedes y.ino y.block x ≡ true) (if z then e ∷ es else e ∷ y ∷ es)) [
    | true ↦ λ is. (first, low.1)
    | false ↦ λ is. (first, low)
  ]) refl)
]) refl

pub ascend_with : (e : Extent) (es : List Extent) → ExtentsAscend es → ExtentsAscend (with_extent e es)
ascend_with e [] a = (tt, tt)
ascend_with e (x ∷ es) a = (elim (precedes e.ino e.block x) as (λ z. precedes e.ino e.block x ≡ z → ExtentsAscend (with_extent e (x ∷ es))) [
  | true ↦ λ t. rw t (low_with e x es t a.0, ascend_with e es a.1)
  | false ↦ λ t. rw t ((elim (is_entry_of e.ino e.block x) as (λ z. is_entry_of e.ino e.block x ≡ z → ExtentsAscend (if z then e ∷ es else e ∷ x ∷ es)) [
    | true ↦ λ is. (low_at e x es is a.0, a.1)
    | false ↦ λ is. ((other_first e x t is, low_through e x es (other_first e x t is) a.0), a)
  ]) refl)
]) refl

-- ---- how many entries there are after a put

pub length_new : (e : Extent) (es : List Extent) → place_of e.ino e.block es ≡ None → length (with_extent e es) ≡ length es + 1
length_new e [] none = refl
length_new e (x ∷ es) none = (elim (precedes e.ino e.block x) as (λ y. precedes e.ino e.block x ≡ y → length (with_extent e (x ∷ es)) ≡ length (x ∷ es) + 1) [
  | true ↦ λ t. let rest : place_of e.ino e.block es ≡ None = sym (rw (before_not_at e.ino e.block x t) refl) ∙ none in let on = length_new e es rest in rw t (omega (arith, on))
  | false ↦ λ t. rw t ((elim (is_entry_of e.ino e.block x) as (λ y. is_entry_of e.ino e.block x ≡ y → length (if y then e ∷ es else e ∷ x ∷ es) ≡ length (x ∷ es) + 1) [
    | true ↦ λ is. let bad : Some x.at ≡ None = sym (rw is refl) ∙ none in absurd cc
    | false ↦ λ is. omega arith
  ]) refl)
]) refl

pub length_old : (e : Extent) (es : List Extent) (at : ℕ) → ExtentsAscend es → place_of e.ino e.block es ≡ Some at → length (with_extent e es) ≡ length es
length_old e [] at a some = cc
length_old e (x ∷ es) at a some = (elim (precedes e.ino e.block x) as (λ y. precedes e.ino e.block x ≡ y → length (with_extent e (x ∷ es)) ≡ length (x ∷ es)) [
  | true ↦ λ t. let rest : place_of e.ino e.block es ≡ Some at = sym (rw (before_not_at e.ino e.block x t) refl) ∙ some in let on = length_old e es at a.1 rest in rw t (omega (arith, on))
  | false ↦ λ t. rw t ((elim (is_entry_of e.ino e.block x) as (λ y. is_entry_of e.ino e.block x ≡ y → length (if y then e ∷ es else e ∷ x ∷ es) ≡ length (x ∷ es)) [
    | true ↦ λ is. refl
    | false ↦ λ is. let bad : None ≡ Some at = sym (none_after e.ino e.block x es t a.0) ∙ sym (rw is refl) ∙ some in absurd cc
  ]) refl)
]) refl

pub put_lengths : (e : Extent) (es : List Extent) (old : Option ℕ) → ExtentsAscend es → old ≡ place_of e.ino e.block es → MatchOption old (length (with_extent e es) ≡ length es + 1) (λ _. length (with_extent e es) ≡ length es)
put_lengths e es None a is = length_new e es (sym is)
put_lengths e es (Some at) a is = length_old e es at a (sym is)

-- a put stays within the room that was asked for
pub put_few : (e : Extent) (es : List Extent) (total : ℕ) → ExtentsAscend es → length es ≤ total → (place_of e.ino e.block es ≡ None → length es < total) → length (with_extent e es) ≤ total
put_few e es total a few room = by (place_of e.ino e.block es) refl
  where
    by : (o : Option ℕ) → place_of e.ino e.block es ≡ o → length (with_extent e es) ≤ total
    by None is = omega (arith, length_new e es is, room is)
    by (Some at) is = omega (arith, length_old e es at a is, few)
