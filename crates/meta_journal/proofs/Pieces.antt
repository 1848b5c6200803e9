-- Texts, one behind another, in an image.
use Rattle.std.proofs.Common.{◌≡◌, inl, inr, ℕ, ◌+◌, ◌-◌, ◌<◌, ◌≤◌, List, [], ◌++◌, length, take, drop, refl, sym, ◌∙◌, ap, arith, length-append}
use Rattle.std.proofs.Common.{length-take, length-drop}
use Rattle.std.specs.Prelude.{slice_index}
use Rattle.std.proofs.lemmas.List.{take_all, take_at, drop_at, get_or-drop, get_or-take, get_or_past}
use Rattle.std.proofs.lemmas.Bool.{cases_lt}
use Rattle.disk_model.specs.Images.{part}
use Rattle.disk_model.proofs.Parts.{part_split, part_part}

pub part_none : (l : List ℕ) (at : ℕ) → part l at 0 ≡ []
unfolding part
part_none l at = refl

pub take_part : (k at : ℕ) (l : List ℕ) → take k (drop at l) ≡ part l at k
unfolding part
take_part k at l = refl

pub front_part : (k : ℕ) (l : List ℕ) → take k l ≡ part l 0 k
front_part k l = take_part k 0 l

pub range_part : (l : List ℕ) (a b n : ℕ) → b ≡ a + n → take (b - a) (drop a l) ≡ part l a n
range_part l a b n is = let long : b - a ≡ n = omega arith in ap (λ (k : ℕ). take k (drop a l)) long ∙ take_part n a l

pub whole_part : (l : List ℕ) → part l 0 (length l) ≡ l
whole_part l = sym (front_part (length l) l) ∙ take_all (length l) l (omega arith)

-- a byte of a part
pub part_byte : (l : List ℕ) (at n i : ℕ) → i < n → slice_index (part l at n) i ≡ slice_index l (at + i)
unfolding part
part_byte l at n i lt = rw (get_or-take n (drop at l) i 0 lt, get_or-drop) refl

-- bytes stay bytes
abbrev pub IsBytes : List ℕ → Type 0
IsBytes bytes = (i : ℕ) → slice_index bytes i < 256

pub part_bytes : (l : List ℕ) → IsBytes l → (at n : ℕ) → IsBytes (part l at n)
unfolding part
part_bytes l h at n i = elim (cases_lt i n) [
  | inl lt ↦ rw (get_or-take n (drop at l) i 0 lt, get_or-drop) (h (at + i))
  | inr le ↦ rw (get_or_past (take n (drop at l)) i 0 (omega (arith, length-take n (drop at l)))) (omega arith)
]

-- a part is as long in an image of the same length
pub same_length : (c d : List ℕ) (at n : ℕ) → length c ≡ length d → length (part c at n) ≡ length (part d at n)
unfolding part
same_length c d at n is = simp (length-take, length-drop) (omega arith)

-- a part that isn't cut lies within the image
pub within : (c : List ℕ) (at n m : ℕ) → length (part c at n) ≡ n → 1 ≤ n → m ≤ n → at + m ≤ length c
unfolding part
within c at n m is some le = omega (arith, is, length-take n (drop at c), length-drop at c)

-- as much of it as lies in the image
pub long_part : (c : List ℕ) (at n m : ℕ) → at + m ≤ length c → m ≤ n → m ≤ length (part c at n)
unfolding part
long_part c at n m fits le = omega (arith, length-take n (drop at c), length-drop at c)

front_of : (xs ys : List ℕ) → part (xs ++ ys) 0 (length xs) ≡ xs
unfolding part
front_of xs ys = take_at xs ys (length xs) refl

back_of : (xs ys : List ℕ) → part (xs ++ ys) (length xs) (length ys) ≡ ys
unfolding part
back_of xs ys = ap (λ (l : List ℕ). take (length ys) l) (drop_at xs ys (length xs) refl) ∙ take_all (length ys) ys (omega arith)

-- of two texts, one behind the other
pub front_there : (c : List ℕ) (at : ℕ) (xs ys : List ℕ) → part c at (length (xs ++ ys)) ≡ xs ++ ys → part c at (length xs) ≡ xs
front_there c at xs ys there =
    let long : length (xs ++ ys) ≡ length xs + length ys = length-append xs ys in
    let zero_is : at ≡ at + 0 = omega arith in
    ap (λ (p : ℕ). part c p (length xs)) zero_is ∙ sym (part_part c at (length (xs ++ ys)) 0 (length xs) (omega arith)) ∙ ap (λ (l : List ℕ). part l 0 (length xs)) there ∙ front_of xs ys

pub back_there : (c : List ℕ) (at : ℕ) (xs ys : List ℕ) → part c at (length (xs ++ ys)) ≡ xs ++ ys → part c (at + length xs) (length ys) ≡ ys
back_there c at xs ys there =
    let long : length (xs ++ ys) ≡ length xs + length ys = length-append xs ys in
    sym (part_part c at (length (xs ++ ys)) (length xs) (length ys) (omega arith)) ∙ ap (λ (l : List ℕ). part l (length xs) (length ys)) there ∙ back_of xs ys

-- the same two joined
pub both_there : (c : List ℕ) (at : ℕ) (xs ys : List ℕ) → part c at (length xs) ≡ xs → part c (at + length xs) (length ys) ≡ ys → part c at (length (xs ++ ys)) ≡ xs ++ ys
both_there c at xs ys front back =
    let long : length (xs ++ ys) - length xs ≡ length ys = omega (arith, length-append xs ys) in
    part_split c at (length xs) (length (xs ++ ys)) (omega (arith, length-append xs ys))
    ∙ ap (λ (k : ℕ). part c at (length xs) ++ part c (at + length xs) k) long
    ∙ ap (λ (l : List ℕ). l ++ part c (at + length xs) (length ys)) front ∙ ap (λ (l : List ℕ). xs ++ l) back
