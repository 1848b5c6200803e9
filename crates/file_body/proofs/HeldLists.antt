-- Held segments: their bytes, and which of them are away.
use Rattle.std.proofs.Common.{◌≡◌, ℕ, zero, suc, ◌+◌, ◌-◌, ◌*◌, ◌/◌, ◌<◌, ◌≤◌, ◌==◌, ◌&&◌, ◌||◌, nat_lt, nat_le, min, if◌then◌else◌, Bool, true}
use Rattle.std.proofs.Common.{false, List, [], ◌∷◌, ◌++◌, length, take, drop, set, get_or, refl, sym, ◌∙◌, ap, subst, ⊎_elim, arith, length-append}
use Rattle.std.proofs.Common.{length-take, get_or-set_same, get_or-set_other}
use Rattle.std.proofs.Math.ListN.{get_or-map}
use Rattle.std.proofs.Math.Seq.{map-set_same}
use Rattle.std.proofs.Math.Bool.{and-true, and-false}
use Rattle.std.proofs.lemmas.Bool.{true≢false, cases_lt, cases_eq, lt-ltb, le-ltb, le-leb, eq-eqb, ne_eqb, or_right, and_from}
use Rattle.std.proofs.lemmas.Bool.Decides.{nat_tests}
use Rattle.std.proofs.lemmas.List.{length-map, map-set, map-append, take-map, get_or_default, get_or_past, get_or-take, get_or_append_left}
use Rattle.std.proofs.lemmas.List.{get_or-append_right, get_or_push, ext_get_or}
use Rattle.std.specs.List.{concat}
use Rattle.hsm_types.specs.Limits.{segment_bytes}
use Rattle.file_body.specs.Segments.{IsCut}
use Rattle.plain_model.specs.Plain.{segment}
use Rattle.file_body.proofs.Cuts.{starts_in, starts_past, segment_taken, same_count, front_is}
use Rattle.file_body.specs.HeldBodies.{AreZeros, HeldBody, HeldSegment, pieces, aways, stands_away}

-- what stands past the last segment
abbrev pub no_segment : HeldSegment
no_segment = record { bytes = []; away = false }

pub length-pieces : (ss : List HeldSegment) → length (pieces ss) ≡ length ss
length-pieces ss = length-map ss (λ s. s.bytes)

pub length-aways : (ss : List HeldSegment) → length (aways ss) ≡ length ss
length-aways ss = length-map ss (λ s. s.away)

pub piece_is : (ss : List HeldSegment) (i : ℕ) → get_or (pieces ss) i [] ≡ (get_or ss i no_segment).bytes
piece_is ss i = get_or-map (λ s. s.bytes) ss i no_segment

pub away_is : (ss : List HeldSegment) (i : ℕ) → stands_away ss i ≡ (get_or ss i no_segment).away
away_is ss i = get_or-map (λ s. s.away) ss i no_segment

pub piece_of : (ss : List HeldSegment) (i : ℕ) (d : HeldSegment) → i < length ss → (get_or ss i d).bytes ≡ get_or (pieces ss) i []
piece_of ss i d h = ap (λ s. s.bytes) (get_or_default ss i d no_segment h) ∙ sym (piece_is ss i)

pub away_of : (ss : List HeldSegment) (i : ℕ) (d : HeldSegment) → i < length ss → (get_or ss i d).away ≡ stands_away ss i
away_of ss i d h = ap (λ s. s.away) (get_or_default ss i d no_segment h) ∙ sym (away_is ss i)

pub pieces-set : (ss : List HeldSegment) (i : ℕ) (s : HeldSegment) → pieces (set ss i s) ≡ set (pieces ss) i s.bytes
pieces-set ss i s = map-set (λ s. s.bytes) ss i s

pub aways-set : (ss : List HeldSegment) (i : ℕ) (s : HeldSegment) → aways (set ss i s) ≡ set (aways ss) i s.away
aways-set ss i s = map-set (λ s. s.away) ss i s

pub pieces-append : (a b : List HeldSegment) → pieces (a ++ b) ≡ pieces a ++ pieces b
pieces-append a b = map-append (λ s. s.bytes) a b

pub aways-append : (a b : List HeldSegment) → aways (a ++ b) ≡ aways a ++ aways b
aways-append a b = map-append (λ s. s.away) a b

pub stands_past : (ss : List HeldSegment) (i : ℕ) → length ss ≤ i → stands_away ss i ≡ false
stands_past ss i h = get_or_past (aways ss) i false (omega (arith, length-aways ss))

-- what is away begins within the bytes
pub starts_away : (ss : List HeldSegment) → IsCut segment_bytes (pieces ss) → (j : ℕ) → stands_away ss j ≡ true → segment_bytes * j < length (concat (pieces ss))
starts_away ss cut j gone =
    ⊎_elim
    (λ (l : j < length ss). omega (arith, starts_in segment_bytes (pieces ss) cut j (omega (arith, length-pieces ss, l))))
    (λ (g : length ss ≤ j). absurd (true≢false (sym gone ∙ stands_past ss j g)))
    (cases_lt j (length ss))

-- a segment whose bytes alone change
pub aways-kept : (ss : List HeldSegment) (i : ℕ) (s d : HeldSegment) → s.away ≡ (get_or ss i d).away → aways (set ss i s) ≡ aways ss
aways-kept ss i s d same = map-set_same (λ s. s.away) ss i s d same

-- ---- another segment in the place of one

pub stands_in_place : (ss : List HeldSegment) (i j : ℕ) (s : HeldSegment) → i < length ss → stands_away (set ss i s) j ≡ (if j == i then s.away else stands_away ss j)
stands_in_place ss i j s h =
    ap (λ l. get_or l j false) (aways-set ss i s)
    ∙ ⊎_elim
    (λ (q : j ≡ i). rw (q, eq-eqb i i refl) (get_or-set_same (aways ss) i s.away false (omega (arith, length-aways ss))))
    (λ (q : j ≡ i → ⊥). rw (ne_eqb j i q) (get_or-set_other (aways ss) i j s.away false q))
    (cases_eq j i)

-- ---- a front

pub pieces-take : (n : ℕ) (ss : List HeldSegment) → pieces (take n ss) ≡ take n (pieces ss)
pieces-take n ss = sym (take-map (λ s. s.bytes) n ss)

pub stands-take : (n j : ℕ) (ss : List HeldSegment) → n ≤ length ss → stands_away (take n ss) j ≡ (stands_away ss j && nat_lt j n)
stands-take n j ss within =
    ap (λ l. get_or l j false) (sym (take-map (λ s. s.away) n ss))
    ∙ ⊎_elim
    (λ (l : j < n). get_or-take n (aways ss) j false l ∙ sym (rw (lt-ltb j n l) (and-true (stands_away ss j))))
    (λ (g : n ≤ j). get_or_past (take n (aways ss)) j false (omega (arith, length-take n (aways ss))) ∙ sym (rw (le-ltb j n g) (and-false (stands_away ss j))))
    (cases_lt j n)

-- the segments that a cut to a size leaves
pub stands-cut : (ss kept : List HeldSegment) (i size j : ℕ) (s d : HeldSegment) → kept ≡ take (i + 1) ss → i < length ss → i ≡ (size - 1) / segment_bytes → 0 < size → s.away ≡ (get_or kept i d).away
    → stands_away (set kept i s) j ≡ (stands_away ss j && nat_lt (segment_bytes * j) size)
stands-cut ss kept i size j s d front h at some same =
    ap (λ l. get_or l j false) (aways-kept kept i s d same)
    ∙ (ap (λ l. stands_away l j) front ∙ (stands-take (i + 1) j ss (omega arith) ∙ ap (λ b. stands_away ss j && b) same_test))
  where
    same_test : nat_lt j (i + 1) ≡ nat_lt (segment_bytes * j) size
    same_test = ⊎_elim
        (λ (l : j < i + 1). lt-ltb j (i + 1) l ∙ sym (lt-ltb (segment_bytes * j) size (omega arith)))
        (λ (g : i + 1 ≤ j). le-ltb j (i + 1) g ∙ sym (le-ltb (segment_bytes * j) size (omega arith)))
        (cases_lt j (i + 1))

-- ---- more segments

-- those behind are here
pub stands-append : (a b : List HeldSegment) (j : ℕ) → ((k : ℕ) → stands_away b k ≡ false) → stands_away (a ++ b) j ≡ stands_away a j
stands-append a b j here =
    ap (λ l. get_or l j false) (aways-append a b)
    ∙ ⊎_elim
    (λ (l : j < length (aways a)). get_or_append_left (aways a) (aways b) false j l)
    (λ (g : length (aways a) ≤ j). get_or-append_right (aways a) (aways b) (length (aways a)) j false refl g ∙ (here (j - length (aways a)) ∙ sym (get_or_past (aways a) j false g)))
    (cases_lt j (length (aways a)))

pub here-push : (ss : List HeldSegment) (s : HeldSegment) (j : ℕ) → ((k : ℕ) → stands_away ss k ≡ false) → s.away ≡ false → stands_away (ss ++ s ∷ []) j ≡ false
here-push ss s j here new = stands-append ss (s ∷ []) j one ∙ here j
  where
    one : (k : ℕ) → stands_away (s ∷ []) k ≡ false
    one zero = new
    one (suc k) = refl

-- one that is away
pub away-push : (ss : List HeldSegment) (s : HeldSegment) (j : ℕ) → s.away ≡ true → j ≡ length ss → stands_away (ss ++ s ∷ []) j ≡ true
away-push ss s j gone at = ap (λ l. get_or l j false) (aways-append ss (s ∷ [])) ∙ (get_or_push (aways ss) s.away false j (omega (arith, length-aways ss)) ∙ gone)

pub others-push : (ss : List HeldSegment) (s : HeldSegment) (j : ℕ) → (j ≡ length ss → ⊥) → stands_away (ss ++ s ∷ []) j ≡ stands_away ss j
others-push ss s j other =
    ap (λ l. get_or l j false) (aways-append ss (s ∷ []))
    ∙ ⊎_elim
    (λ (l : j < length (aways ss)). get_or_append_left (aways ss) (s.away ∷ []) false j l)
    (λ (g : length (aways ss) ≤ j). get_or_past (aways ss ++ s.away ∷ []) j false (omega (arith, other_than, length-append (aways ss) (s.away ∷ []))) ∙ sym (get_or_past (aways ss) j false g))
    (cases_lt j (length (aways ss)))
  where
    other_than : j ≡ length (aways ss) → ⊥
    other_than q = other (q ∙ length-aways ss)

-- ---- segments that come, one before the others

module _ (ss new : List HeldSegment) (from to : ℕ) (s : HeldSegment) (in_new : from < length new) (comes : s.away ≡ false) where
  pub brought-here : ((j : ℕ) → from + 1 ≤ j → j < to → stands_away new j ≡ false) → (j : ℕ) → from ≤ j → j < to → stands_away (set new from s) j ≡ false
  brought-here rest j low high =
      stands_in_place new from j s in_new
      ∙ ⊎_elim (λ (q : j ≡ from). rw (q, eq-eqb from from refl) comes) (λ (q : j ≡ from → ⊥). rw (ne_eqb j from q) (rest j (omega arith) high)) (cases_eq j from)

  pub brought-others : from < to → ((j : ℕ) → (from + 1 ≤ j → j < to → ⊥) → stands_away new j ≡ stands_away ss j) → (j : ℕ) → (from ≤ j → j < to → ⊥) → stands_away (set new from s) j ≡ stands_away ss j
  brought-others some rest j out =
      stands_in_place new from j s in_new
      ∙ ⊎_elim (λ (q : j ≡ from). absurd (out (omega arith) (omega arith))) (λ (q : j ≡ from → ⊥). rw (ne_eqb j from q) (rest j (λ low high. out (omega arith) high))) (cases_eq j from)

-- what is away is zeros: the first segment, and those behind
pub zeros-first : (ss : List HeldSegment) (from to : ℕ) (d : HeldSegment) → from < length ss → ((get_or ss from d).away ≡ true → AreZeros (get_or ss from d).bytes)
    → ((j : ℕ) → from + 1 ≤ j → j < to → stands_away ss j ≡ true → AreZeros (get_or (pieces ss) j [])) → (j : ℕ) → from ≤ j → j < to → stands_away ss j ≡ true → AreZeros (get_or (pieces ss) j [])
zeros-first ss from to d within first rest j low high gone =
    ⊎_elim
    (λ (q : j ≡ from).
    let here : stands_away ss from ≡ true = ap (stands_away ss) (sym q) ∙ gone in
    subst (λ (i : ℕ). AreZeros (get_or (pieces ss) i [])) (sym q) (subst AreZeros (piece_of ss from d within) (first (away_of ss from d within ∙ here))))
    (λ (q : j ≡ from → ⊥). rest j (omega arith) high gone)
    (cases_eq j from)

-- the bytes of the whole that are its bytes
pub zeros_of : (ss : List HeldSegment) → IsCut segment_bytes (pieces ss) → (j : ℕ) → stands_away ss j ≡ true → AreZeros (get_or (pieces ss) j []) → AreZeros (segment j (concat (pieces ss)))
zeros_of ss cut j gone zeros =
    let start = starts_away ss cut j gone in
    let within : j < length (pieces ss) = ⊎_elim (λ (l : j < length (pieces ss)). l) (λ (g : length (pieces ss) ≤ j). absurd (omega (arith, start, starts_past segment_bytes (pieces ss) cut j g))) (cases_lt j (length (pieces ss))) in
    subst AreZeros (segment_taken segment_bytes (pieces ss) cut j within ∙ ap (λ n. take segment_bytes (drop n (concat (pieces ss)))) (omega arith)) zeros

-- ---- segments that go away, one after the other

pub left-none : (from j : ℕ) (was : Bool) → was ≡ (was || (nat_le from j && nat_lt j from))
left-none from j true = refl
left-none from j false = grind (arith, nat_tests)

pub left-more : (ss old : List HeldSegment) (from i : ℕ) (s : HeldSegment) → from ≤ i → i < length ss → s.away ≡ true → ((j : ℕ) → stands_away ss j ≡ (stands_away old j || (nat_le from j && nat_lt j i)))
    → (j : ℕ) → stands_away (set ss i s) j ≡ (stands_away old j || (nat_le from j && nat_lt j (i + 1)))
left-more ss old from i s order h goes now j =
    stands_in_place ss i j s h
    ∙ ⊎_elim
    (λ (q : j ≡ i). rw (q, eq-eqb i i refl) (goes ∙ sym (or_right (stands_away old i) (nat_le from i && nat_lt i (i + 1)) (and_from (nat_le from i) (nat_lt i (i + 1)) (le-leb from i order) (lt-ltb i (i + 1) (omega arith))))))
    (λ (q : j ≡ i → ⊥). rw (ne_eqb j i q) (now j ∙ ap (λ t. stands_away old j || (nat_le from j && t)) (grind (arith, nat_tests))))
    (cases_eq j i)

-- the segments up to an end are those up to it of which there are any
pub left-up_to : (from at to count start size j : ℕ) → at ≡ min to count → (j < count → start < size) → (count ≤ j → size ≤ start) → (nat_le from j && nat_lt j at) ≡ (nat_le from j && nat_lt j to && nat_lt start size)
left-up_to from at to count start size j is some none = grind (arith, nat_tests)

-- ---- a growth that is taken back

pub same_aways : (a b : List HeldSegment) → length a ≡ length b → ((j : ℕ) → stands_away a j ≡ stands_away b j) → aways a ≡ aways b
same_aways a b count same = ext_get_or false (aways a) (aways b) (length-aways a ∙ (count ∙ sym (length-aways b))) (λ i h. same i)

abbrev pub held_of : List HeldSegment → HeldBody
held_of segments = record { bytes = concat (pieces segments); away = aways segments }

same_held : (a b : HeldBody) → a.bytes ≡ b.bytes → a.away ≡ b.away → a ≡ b
same_held a b p q = ap (λ l. record { bytes = l; away = a.away }) p ∙ ap (λ l. record { bytes = b.bytes; away = l }) q

pub taken_back : (old grown cut : List HeldSegment) (size : ℕ) (more : List ℕ) → IsCut segment_bytes (pieces old) → IsCut segment_bytes (pieces cut) → size ≡ length (concat (pieces old))
    → concat (pieces grown) ≡ concat (pieces old) ++ more → ((j : ℕ) → stands_away grown j ≡ stands_away old j)
    → concat (pieces cut) ≡ take size (concat (pieces grown)) → ((j : ℕ) → stands_away cut j ≡ (stands_away grown j && nat_lt (segment_bytes * j) size))
    → held_of cut ≡ held_of old
taken_back old grown cut size more was is size_is longer grown_away front cut_away = same_held _ _ bytes (same_aways cut old count away)
  where
    bytes : concat (pieces cut) ≡ concat (pieces old)
    bytes = front ∙ (ap (take size) longer ∙ front_is (concat (pieces old)) more size size_is)

    count : length cut ≡ length old
    count = sym (length-pieces cut) ∙ (same_count (pieces cut) (pieces old) is was (ap length bytes) ∙ length-pieces old)

    away : (j : ℕ) → stands_away cut j ≡ stands_away old j
    away j = cut_away j ∙ ⊎_elim
        (λ (l : j < length old). rw (grown_away j, lt-ltb (segment_bytes * j) size (omega (arith, size_is, starts_in segment_bytes (pieces old) was j (omega (arith, length-pieces old, l))))) (and-true (stands_away old j)))
        (λ (g : length old ≤ j). rw (grown_away j, stands_past old j g) refl)
        (cases_lt j (length old))
