-- Texts written one behind the other.
use Rattle.std.proofs.Common.{◌≡◌, ℕ, ◌+◌, ◌*◌, ◌≤◌, ◌<◌, List, [], ◌∷◌, ◌++◌, length, get_or, take, drop, refl, sym, ◌∙◌, ap, subst, arith, append_assoc}
use Rattle.std.proofs.Common.{append-nil, length-append, length-take-le}
use Rattle.std.specs.List.{flat_map, AllByRecursion}
use Rattle.std.proofs.lemmas.List.{take_at, drop_at, drop-drop, take_more, take-append-drop}
use Rattle.std.proofs.lemmas.Grind.{flat_map-append}
use Rattle.byteorder.specs.Endian.{big_bytes}
use Rattle.hsm_types.specs.declared.regions.Region.{Region}
use Rattle.journal_records.specs.Texts.{region_bytes}
use Rattle.journal_records.specs.Places.{Puts}

pub puts_none : (at : ℕ) (old : List ℕ) → Puts at [] old old
puts_none at old = sym (ap (λ (n : ℕ). take at old ++ drop n old) (omega arith) ∙ take-append-drop at old)

-- two texts, of which the second begins where the first ends
pub puts_both : (at next : ℕ) (a b old mid new : List ℕ) → next ≡ at + length a → next ≤ length old → Puts at a old mid → Puts next b mid new → Puts at (a ++ b) old new
puts_both at next a b old mid new next_is fits first second =
    let front : List ℕ = take at old ++ a in
    let rest : List ℕ = drop (at + length a) old in
    let end : List ℕ = drop (at + length (a ++ b)) old in
    let mid_is : mid ≡ front ++ rest = first ∙ sym (append_assoc (take at old) a rest) in
    let long : length front ≡ next = length-append (take at old) a ∙ ap (λ (n : ℕ). n + length a) (length-take-le at old (omega (arith, next_is, fits))) ∙ sym next_is in
    let taken : take next mid ≡ front = ap (λ (l : List ℕ). take next l) mid_is ∙ take_at front rest next long in
    let left : drop next mid ≡ rest = ap (λ (l : List ℕ). drop next l) mid_is ∙ drop_at front rest next long in
    let dropped : drop (next + length b) mid ≡ end =
    sym (drop-drop (length b) next mid) ∙ ap (λ (l : List ℕ). drop (length b) l) left ∙ drop-drop (length b) (at + length a) old ∙ ap (λ (n : ℕ). drop n old) (omega (arith, length-append a b)) in
    second ∙ ap (λ (l : List ℕ). l ++ (b ++ drop (next + length b) mid)) taken ∙ ap (λ (l : List ℕ). front ++ (b ++ l)) dropped
    ∙ append_assoc (take at old) a (b ++ end) ∙ ap (λ (l : List ℕ). take at old ++ l) (sym (append_assoc a b end))

-- what is written at the front
pub puts_front : (text old new : List ℕ) (size : ℕ) → Puts 0 text old new → size ≡ length text → new ≡ text ++ drop size old
puts_front text old new size puts size_is = puts ∙ ap (λ (n : ℕ). text ++ drop n old) (omega (arith, size_is))

-- ---- texts of items

module _ {X : Type 0} (text : X → List ℕ) (xs : List X) where
  pub more_text : (i : ℕ) (d : X) → i < length xs → flat_map text (take (i + 1) xs) ≡ flat_map text (take i xs) ++ text (get_or xs i d)
  more_text i d lt =
      let x : X = get_or xs i d in
      ap (λ (l : List X). flat_map text l) (take_more xs i d lt) ∙ flat_map-append text (take i xs) (x ∷ []) ∙ ap (λ (l : List ℕ). flat_map text (take i xs) ++ l) (append-nil (text x))

  -- the text of an item lies within that of all
  pub within_text : (i : ℕ) (d : X) → i < length xs → length (flat_map text (take i xs)) + length (text (get_or xs i d)) ≤ length (flat_map text xs)
  within_text i d lt =
      let all = ap (λ (l : List X). length (flat_map text l)) (take-append-drop (i + 1) xs) in
      let parts = ap (λ (l : List ℕ). length l) (flat_map-append text (take (i + 1) xs) (drop (i + 1) xs)) in
      let front = ap (λ (l : List ℕ). length l) (more_text i d lt) in
      omega (arith, all, parts, front, length-append (flat_map text (take (i + 1) xs)) (flat_map text (drop (i + 1) xs)), length-append (flat_map text (take i xs)) (text (get_or xs i d)))

pub places_long : (xs : List ℕ) → length (flat_map (big_bytes 4) xs) ≡ 4 * length xs
places_long [] = refl
places_long (x ∷ xs) = omega (arith, length-append (big_bytes 4 x) (flat_map (big_bytes 4) xs), places_long xs)

pub regions_long : (xs : List Region) → length (flat_map region_bytes xs) ≡ 17 * length xs
regions_long [] = refl
regions_long (x ∷ xs) = omega (arith, length-append (region_bytes x) (flat_map region_bytes xs), regions_long xs)

-- what is true of the items in front, and of the next one
pub all_more : {X : Type 0} (P : X → Type 0) (xs : List X) (i : ℕ) (d : X) → i < length xs → P (get_or xs i d) → AllByRecursion P (take i xs) → AllByRecursion P (take (i + 1) xs)
all_more {X} P xs i d lt p h = subst (AllByRecursion P) (sym (take_more xs i d lt)) (behind (take i xs) h)
  where
    behind : (ys : List X) → AllByRecursion P ys → AllByRecursion P (ys ++ get_or xs i d ∷ [])
    behind [] h = (p, tt)
    behind (y ∷ ys) h = (h.0, behind ys h.1)

pub ruleset lengths = (places_long, regions_long, length-append)
