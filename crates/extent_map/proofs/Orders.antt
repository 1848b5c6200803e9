-- The order of entries, and where a file block cuts it.
use Rattle.std.proofs.Common.{◌≡◌, ◌⊎◌, inl, inr, ⊎_elim, ℕ, zero, suc, ◌<◌, ◌≤◌, ◌==◌, ◌&&◌, ◌||◌, nat_lt, Bool, true, false, List, [], ◌∷◌, length, get_or, refl, sym, ◌∙◌, ap, subst, arith}
use Rattle.std.specs.List.Sorted.{IsPartitionedBy, IsPartitionPoint}
use Rattle.std.proofs.lemmas.Bool.{eqb-true, eq-eqb, ltb-true, lt-ltb}
use Rattle.std.proofs.lemmas.List.Elements.{All-from_recursion, recursion_from_All, All-get_or}
use Rattle.extent_map.specs.declared.extents.Extent.{Extent}
use Rattle.extent_map.specs.Extents.{is_entry_of, precedes, ExtentsAscend, CutsExtents}

-- the entry comes before the file block, in numbers
abbrev pub Before : ℕ → ℕ → Extent → Type 0
Before ino block e = (e.ino < ino) ⊎ ((e.ino ≡ ino) × (e.block < block))

pub both_true : (x y : Bool) → (x && y) ≡ true → (x ≡ true) × (y ≡ true)
both_true true y h = (refl, h)
both_true false y h = let bad : false ≡ true = h in absurd cc

pub before_from : (ino block : ℕ) (e : Extent) → precedes ino block e ≡ true → Before ino block e
before_from ino block e h = by (nat_lt e.ino ino) refl (e.ino == ino) refl h
  where
    by : (x : Bool) → nat_lt e.ino ino ≡ x → (y : Bool) → (e.ino == ino) ≡ y → (x || (y && nat_lt e.block block)) ≡ true → Before ino block e
    by true is y same h = inl (ltb-true e.ino ino is)
    by false is true same h = inr (eqb-true e.ino ino same, ltb-true e.block block h)
    by false is false same h = cc

pub before_to : (ino block : ℕ) (e : Extent) → Before ino block e → precedes ino block e ≡ true
before_to ino block e b = ⊎_elim
    (λ lt. rw (lt-ltb e.ino ino lt) refl)
    (λ at. or_right (nat_lt e.ino ino) _ (rw (eq-eqb e.ino ino at.0, lt-ltb e.block block at.1) refl)) b
  where
    or_right : (x y : Bool) → y ≡ true → (x || y) ≡ true
    or_right true y h = refl
    or_right false y h = h

pub not_before : (ino block : ℕ) (e : Extent) → precedes ino block e ≡ false → Before ino block e → ⊥
not_before ino block e un b = let bad : true ≡ false = sym (before_to ino block e b) ∙ un in absurd cc

-- what comes before an entry that comes before the file block
pub before_through : (ino block : ℕ) (e f : Extent) → precedes f.ino f.block e ≡ true → precedes ino block f ≡ true → precedes ino block e ≡ true
before_through ino block e f low high =
    before_to ino block e (⊎_elim
    (λ lt. ⊎_elim (λ lt'. inl (omega (arith, lt, lt'))) (λ at'. inl (omega (arith, lt, at'.0))) (before_from ino block f high))
    (λ at. ⊎_elim (λ lt'. inl (omega (arith, at.0, lt'))) (λ at'. inr (at.0 ∙ at'.0, omega (arith, at.1, at'.1))) (before_from ino block f high))
    (before_from f.ino f.block e low))

-- ---- by places

pub ascend_pair : (es : List Extent) (i j : ℕ) (d : Extent) → ExtentsAscend es → i < j → j < length es → precedes (get_or es j d).ino (get_or es j d).block (get_or es i d) ≡ true
ascend_pair [] i j d a lt within = absurd (omega (arith, within))
ascend_pair (e ∷ es) i zero d a lt within = absurd (omega (arith, lt))
ascend_pair (e ∷ es) zero (suc j) d a lt within = All-get_or (λ (x : Extent). precedes x.ino x.block e ≡ true) es j d (omega (arith, within)) (All-from_recursion (λ (x : Extent). precedes x.ino x.block e ≡ true) es a.0)
ascend_pair (e ∷ es) (suc i) (suc j) d a lt within = ascend_pair es i j d a.1 (omega (arith, lt)) (omega (arith, within))

pub partitioned : (ino block : ℕ) (es : List Extent) → ExtentsAscend es → IsPartitionedBy (precedes ino block) es
partitioned ino block es a i j d le within there = ⊎_elim
    (λ (lt : i < j). before_through ino block (get_or es i d) (get_or es j d) (ascend_pair es i j d a lt within) there)
    (λ (same : i ≡ j). subst (λ (k : ℕ). precedes ino block (get_or es k d) ≡ true) (sym same) there)
    (split i j le)
  where
    split : (i j : ℕ) → i ≤ j → (i < j) ⊎ (i ≡ j)
    split zero zero le = inr refl
    split zero (suc j) le = inl (omega arith)
    split (suc i) zero le = absurd (omega (arith, le))
    split (suc i) (suc j) le = ⊎_elim (λ lt. inl (omega (arith, lt))) (λ same. inr (ap suc same)) (split i j (omega (arith, le)))

pub cuts_point : (ino block : ℕ) (es : List Extent) (n : ℕ) → IsPartitionPoint (λ (e : Extent). precedes ino block e ≡ true) (λ (e : Extent). precedes ino block e ≡ false) es n → n ≤ length es → CutsExtents ino block n es
cuts_point ino block es zero h le = (tt, recursion_from_All (λ (e : Extent). precedes ino block e ≡ false) es (λ k d lt. h.1 k d (omega arith) lt))
cuts_point ino block [] (suc n) h le = absurd (omega (arith, le))
cuts_point ino block (e ∷ es) (suc n) h le =
    let rest = cuts_point ino block es n ((λ k d low high. h.0 (suc k) d (omega arith) (omega (arith, high))), (λ k d low high. h.1 (suc k) d (omega (arith, low)) (omega (arith, high)))) (omega (arith, le)) in
    ((h.0 0 e (omega arith) (omega arith), rest.0), rest.1)

-- ---- the entry of a file block

pub at_is : (ino block : ℕ) (e : Extent) → is_entry_of ino block e ≡ true → (e.ino ≡ ino) × (e.block ≡ block)
at_is ino block e h = let both = both_true (e.ino == ino) (e.block == block) h in (eqb-true e.ino ino both.0, eqb-true e.block block both.1)

pub at_from : (ino block : ℕ) (e : Extent) → e.ino ≡ ino → e.block ≡ block → is_entry_of ino block e ≡ true
at_from ino block e same there = rw (eq-eqb e.ino ino same, eq-eqb e.block block there) refl

pub false_of : (x : Bool) → (x ≡ true → ⊥) → x ≡ false
false_of true un = absurd (un refl)
false_of false un = refl

-- what comes before the file block isn't its entry
pub before_not_at : (ino block : ℕ) (e : Extent) → precedes ino block e ≡ true → is_entry_of ino block e ≡ false
before_not_at ino block e h = false_of (is_entry_of ino block e) (λ is. let at = at_is ino block e is in ⊎_elim (λ lt. omega (arith, lt, at.0)) (λ b. omega (arith, b.1, at.1)) (before_from ino block e h))

-- nor is what follows an entry that doesn't come before it
pub after_not_at : (ino block : ℕ) (e x : Extent) → precedes ino block e ≡ false → precedes x.ino x.block e ≡ true → is_entry_of ino block x ≡ false
after_not_at ino block e x un low = false_of (is_entry_of ino block x) (λ is.
    let at = at_is ino block x is in
    not_before ino block e un (⊎_elim (λ lt. inl (omega (arith, lt, at.0))) (λ b. inr (b.0 ∙ at.0, omega (arith, b.1, at.1))) (before_from x.ino x.block e low)))
