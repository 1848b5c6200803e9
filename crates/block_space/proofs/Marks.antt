-- Marks of blocks.
use Rattle.std.proofs.Common.{◌≡◌, ℕ, ◌<◌, ◌≤◌, List, [], ◌∷◌, ◌++◌, length, get_or, set, Bool, true, false, cond, ◌||◌, ◌&&◌, not, eqb, ⊎_elim, refl}
use Rattle.std.proofs.Common.{sym, ap, ◌∙◌, arith, length-set, get_or-set_same, get_or-set_other}
use Rattle.std.specs.List.{All}
use Rattle.std.proofs.lemmas.Bool.{cases_eq, cases_Bool, eq-eqb, ne_eqb, cases_lt, or_left, or_right}
use Rattle.std.proofs.lemmas.List.{ext_get_or, get_or_past, get_or_default}
use Rattle.std.proofs.lemmas.List.Folds.{list_any-append}
use Rattle.block_space.specs.Space.{marked, unmarked, IsSpace}
use Rattle.block_space.proofs.Members.{has, All-has}

pub length-marked : (bs : List ℕ) (fs : List Bool) → length (marked bs fs) ≡ length fs
length-marked [] fs = refl
length-marked (b ∷ bs) fs = length-marked bs (set fs b true) ∙ length-set fs b true

length-unmarked : (bs : List ℕ) (fs : List Bool) → length (unmarked bs fs) ≡ length fs
length-unmarked [] fs = refl
length-unmarked (b ∷ bs) fs = length-unmarked bs (set fs b false) ∙ length-set fs b false

or_none : (u : Bool) → (u || false) ≡ u
or_none true = refl
or_none false = refl

or_one : (u v : Bool) → (u || (true || v)) ≡ true
or_one true v = refl
or_one false v = refl

-- a block is used if it was used or is one of those that were marked
pub get_or-marked : (bs : List ℕ) (fs : List Bool) (b : ℕ) → b < length fs → get_or (marked bs fs) b false ≡ (get_or fs b false || has b bs)
get_or-marked [] fs b l = sym (or_none (get_or fs b false))
get_or-marked (x ∷ bs) fs b l =
    let m : b < length (set fs x true) = omega (arith, length-set fs x true) in
    get_or-marked bs (set fs x true) b m
    ∙ ⊎_elim
    (λ (e : x ≡ b). let is : get_or (set fs x true) b false ≡ true = rw e (get_or-set_same fs b true false l) in rw (is, eq-eqb x b e) (sym (or_one (get_or fs b false) (has b bs))))
    (λ (other : x ≡ b → ⊥). rw (get_or-set_other fs x b true false (λ e. other (sym e)), ne_eqb x b other) refl)
    (cases_eq x b)

-- no mark is lost
pub marked_keeps : (bs : List ℕ) (fs : List Bool) (b : ℕ) → get_or fs b false ≡ true → get_or (marked bs fs) b false ≡ true
marked_keeps bs fs b used =
    ⊎_elim (λ (l : b < length fs). rw (get_or-marked bs fs b l, used) refl) (λ (past : length fs ≤ b). let none = get_or_past fs b false past in cc) (cases_lt b (length fs))

pub marked-append : (xs ys : List ℕ) (fs : List Bool) → marked ys (marked xs fs) ≡ marked (xs ++ ys) fs
marked-append [] ys fs = refl
marked-append (x ∷ xs) ys fs = marked-append xs ys (set fs x true)

-- the same blocks in another order
pub marked_same : (xs ys : List ℕ) (fs : List Bool) → ((b : ℕ) → b < length fs → has b xs ≡ has b ys) → marked xs fs ≡ marked ys fs
marked_same xs ys fs same =
    ext_get_or false (marked xs fs) (marked ys fs) (length-marked xs fs ∙ sym (length-marked ys fs)) (λ b l.
    let m : b < length fs = omega (arith, length-marked xs fs) in get_or-marked xs fs b m ∙ ap (λ u. get_or fs b false || u) (same b m) ∙ sym (get_or-marked ys fs b m))

-- a mark is taken away
pub release_marked : (xs : List ℕ) (b : ℕ) (ys : List ℕ) (fs : List Bool) → get_or fs b false ≡ false → has b (xs ++ ys) ≡ false → set (marked (xs ++ b ∷ ys) fs) b false ≡ marked (xs ++ ys) fs
release_marked xs b ys fs unused apart =
    let all : List ℕ = xs ++ b ∷ ys in
    let rest : List ℕ = xs ++ ys in
    ext_get_or false (set (marked all fs) b false) (marked rest fs) (length-set (marked all fs) b false ∙ length-marked all fs ∙ sym (length-marked rest fs)) (λ c l.
    let m : c < length fs = omega (arith, length-set (marked all fs) b false, length-marked all fs) in
    let k : c < length (marked all fs) = omega (arith, length-marked all fs) in
    ⊎_elim
    (λ (e : b ≡ c).
    let here : get_or (set (marked all fs) b false) c false ≡ false = ap (λ x. get_or (set (marked all fs) b false) x false) (sym e) ∙ get_or-set_same (marked all fs) b false false (omega arith) in
    let there : get_or (marked rest fs) c false ≡ false = rw (get_or-marked rest fs c m, ← e, unused, apart) refl in
    here ∙ sym there)
    (λ (other : b ≡ c → ⊥).
    get_or-set_other (marked all fs) b c false false (λ e. other (sym e))
    ∙ get_or-marked all fs c m
    ∙ ap (λ u. get_or fs c false || u) (list_any-append (λ x. eqb x c) xs (b ∷ ys) ∙ rw (ne_eqb b c other) (sym (list_any-append (λ x. eqb x c) xs ys)))
    ∙ sym (get_or-marked rest fs c m))
    (cases_eq b c))

get_or-unmarked : (bs : List ℕ) (fs : List Bool) (b : ℕ) → b < length fs → get_or (unmarked bs fs) b false ≡ cond (has b bs) false (get_or fs b false)
get_or-unmarked [] fs b l = refl
get_or-unmarked (x ∷ bs) fs b l =
    let m : b < length (set fs x false) = omega (arith, length-set fs x false) in
    get_or-unmarked bs (set fs x false) b m
    ∙ ⊎_elim
    (λ (e : x ≡ b). let is : get_or (set fs x false) b false ≡ false = rw e (get_or-set_same fs b false false l) in rw (is, eq-eqb x b e) (either (has b bs)))
    (λ (other : x ≡ b → ⊥). rw (get_or-set_other fs x b false false (λ e. other (sym e)), ne_eqb x b other) refl)
    (cases_eq x b)
  where
    either : (u : Bool) → cond u false false ≡ false
    either true = refl
    either false = refl

-- the marks of some blocks are taken away
pub unmarked_others : (xs bs ys : List ℕ) (fs : List Bool) → ((b : ℕ) → b < length fs → get_or fs b false ≡ false) → ((b : ℕ) → has b ys ≡ (has b xs && not (has b bs))) → unmarked bs (marked xs fs) ≡ marked ys fs
unmarked_others xs bs ys fs none others =
    ext_get_or false (unmarked bs (marked xs fs)) (marked ys fs) (length-unmarked bs (marked xs fs) ∙ length-marked xs fs ∙ sym (length-marked ys fs)) (λ b l.
    let m : b < length fs = omega (arith, length-unmarked bs (marked xs fs), length-marked xs fs) in
    let k : b < length (marked xs fs) = omega (arith, length-marked xs fs) in
    get_or-unmarked bs (marked xs fs) b k
    ∙ ap (λ u. cond (has b bs) false u) (get_or-marked xs fs b m ∙ ap (λ u. u || has b xs) (none b m))
    ∙ taken (has b bs) (has b xs)
    ∙ sym (get_or-marked ys fs b m ∙ ap (λ u. u || has b ys) (none b m) ∙ others b))
  where
    taken : (u v : Bool) → cond u false v ≡ (v && not u)
    taken true true = refl
    taken true false = refl
    taken false true = refl
    taken false false = refl

-- unused blocks are marked, and are released again
pub unmarked-marked : (bs : List ℕ) (fs : List Bool) → All (λ b. get_or fs b true ≡ false) bs → unmarked bs (marked bs fs) ≡ fs
unmarked-marked bs fs unused =
    ext_get_or false (unmarked bs (marked bs fs)) fs (length-unmarked bs (marked bs fs) ∙ length-marked bs fs) (λ b l.
    let m : b < length fs = omega (arith, length-unmarked bs (marked bs fs), length-marked bs fs) in
    let k : b < length (marked bs fs) = omega (arith, length-marked bs fs) in
    get_or-unmarked bs (marked bs fs) b k
    ∙ ap (λ u. cond (has b bs) false u) (get_or-marked bs fs b m)
    ∙ ⊎_elim
    (λ (is : has b bs ≡ true). let was : get_or fs b false ≡ false = get_or_default fs b false true m ∙ All-has (λ c. get_or fs c true ≡ false) bs b unused is in rw (is, was) refl)
    (λ (other : has b bs ≡ false). rw other (or_none (get_or fs b false)))
    (cases_Bool (has b bs)))

-- ---- what is true of each space, after marks and after a release

used_still : (u v w : Bool) → (u || w) ≡ true → (u ≡ true → v ≡ true) → (v || w) ≡ true
used_still true v w or keeps = or_left v w (keeps refl)
used_still false v w or keeps = or_right v w or

pub space-marked : (low released : ℕ) (bs : List ℕ) (cs ds : List Bool) → IsSpace low released cs ds → IsSpace low released (marked bs cs) ds
space-marked low released bs cs ds s =
    let same = length-marked bs cs in
    let lengths = s.lengths in
    let few = s.few in
    let within = s.within in
    record {
      lengths = omega arith;
      few = omega arith;
      within = omega arith;
      used = λ b l. used_still (get_or cs b false) (get_or (marked bs cs) b false) (get_or ds b false) (s.used b l) (marked_keeps bs cs b);
      kept = λ b l is. marked_keeps bs cs b (s.kept b l is);
    }
