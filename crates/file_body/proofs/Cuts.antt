-- Segments, and the bytes that they are one after the other.
use Rattle.std.proofs.Common.{◌≡◌, ℕ, min, ◌⊎◌, inl, inr, length-take, zero, suc, ◌+◌, ◌-◌, ◌*◌, ◌/◌, ◌%◌, ◌<◌, ◌≤◌, List, [], ◌∷◌, ◌++◌, length}
use Rattle.std.proofs.Common.{take, drop, set, get_or, ⊎_elim, refl, sym, ◌∙◌, ap, arith, rules, add-one, append_assoc, length-append, length-set}
use Rattle.std.proofs.Common.{length-take-le, get_or-set_same, get_or-set_other}
use Rattle.std.specs.Prelude.{replicate}
use Rattle.std.specs.List.{concat}
use Rattle.std.proofs.Math.Nat.{mul-le-mul_right}
use Rattle.std.proofs.lemmas.Bool.{cases_lt, cases_eq}
use Rattle.std.proofs.lemmas.List.{same_lists, places, take-append-drop, append-nil, drop_more, take_more, drop_all, take_all, take-take, set_split}
use Rattle.std.proofs.lemmas.List.{set_past, get_or-take, get_or_append_left, get_or-append_right, get_or_default, length-drop, get_or_push}
use Rattle.std.proofs.lemmas.List.{length-replicate, replicate-append-replicate, nil_from_length}
use Rattle.hsm_types.specs.Limits.{segment_bytes}
use Rattle.plain_model.specs.Plain.{written}
use Rattle.file_body.specs.Segments.{IsCut}

pub concat-append : (a b : List (List ℕ)) → concat (a ++ b) ≡ concat a ++ concat b
concat-append [] b = refl
concat-append (x ∷ xs) b = rw (concat-append xs b, append_assoc) refl

-- the bytes before segment i, its own, and those after it
pub concat_at : (ss : List (List ℕ)) (i : ℕ) → i < length ss → concat ss ≡ concat (take i ss) ++ (get_or ss i [] ++ concat (drop (i + 1) ss))
concat_at ss i h = ap concat (sym (take-append-drop i ss)) ∙ (concat-append (take i ss) (drop i ss) ∙ ap (λ r. concat (take i ss) ++ concat r) (drop_more ss i [] h))

pub concat-set : (ss : List (List ℕ)) (i : ℕ) (s : List ℕ) → i < length ss → concat (set ss i s) ≡ concat (take i ss) ++ (s ++ concat (drop (i + 1) ss))
concat-set ss i s h = rw add-one (ap concat (set_split ss i s h) ∙ concat-append (take i ss) (s ∷ drop (suc i) ss))

concat_more : (ss : List (List ℕ)) (i : ℕ) → i < length ss → concat (take (i + 1) ss) ≡ concat (take i ss) ++ get_or ss i []
concat_more ss i h = ap concat (take_more ss i [] h) ∙ (concat-append (take i ss) (get_or ss i [] ∷ []) ∙ ap (λ r. concat (take i ss) ++ r) (append-nil (get_or ss i [])))

-- the segments before the last are full
pub length_before : (size : ℕ) (ss : List (List ℕ)) → IsCut size ss → (i : ℕ) → i < length ss → length (concat (take i ss)) ≡ i * size
length_before size ss cut zero h = omega arith
length_before size ss cut (suc i) h =
    let e : length (concat (take i ss)) ≡ i * size = length_before size ss cut i (omega arith) in
    let m : length (concat (take (suc i) ss)) ≡ length (concat (take i ss)) + length (get_or ss i []) = rw (← add-one i) (ap length (concat_more ss i (omega arith)) ∙ length-append (concat (take i ss)) (get_or ss i [])) in
    let f : length (get_or ss i []) ≡ size = cut.full i (omega arith) in
    omega (arith, e, m, f)

length_at : (size : ℕ) (ss : List (List ℕ)) → IsCut size ss → (i : ℕ) → i < length ss → length (concat ss) ≡ i * size + length (get_or ss i []) + length (concat (drop (i + 1) ss))
length_at size ss cut i h =
    let parts : length (concat ss) ≡ length (concat (take i ss)) + (length (get_or ss i []) + length (concat (drop (i + 1) ss))) =
    ap length (concat_at ss i h) ∙ (length-append (concat (take i ss)) _ ∙ ap (λ n. length (concat (take i ss)) + n) (length-append (get_or ss i []) _)) in
    omega (arith, parts, length_before size ss cut i h)

-- the bytes up to the last segment's
pub length_to_last : (size : ℕ) (ss : List (List ℕ)) → IsCut size ss → (i : ℕ) → i + 1 ≡ length ss → length (concat ss) ≡ i * size + length (get_or ss i [])
length_to_last size ss cut i e =
    let none : length (concat (drop (i + 1) ss)) ≡ 0 = ap (λ r. length (concat r)) (drop_all (i + 1) ss (omega arith)) in
    omega (arith, none, length_at size ss cut i (omega arith))

length_most : (size : ℕ) (ss : List (List ℕ)) → IsCut size ss → length (concat ss) ≤ length ss * size
length_most size [] cut = omega arith
length_most size (s ∷ ss) cut =
    let e : length (concat (s ∷ ss)) ≡ length ss * size + length (get_or (s ∷ ss) (length ss) []) = length_to_last size (s ∷ ss) cut (length ss) (omega arith) in
    let l : length (get_or (s ∷ ss) (length ss) []) ≤ size = cut.most (length ss) (omega arith) in
    omega (arith, e, l)

-- a byte's segment is one of them
pub segment_is : (size : ℕ) (ss : List (List ℕ)) → IsCut size ss → (i p at : ℕ) → at ≡ i * size + p → at < length (concat ss) → i < length ss
segment_is size ss cut i p at e h = ⊎_elim (λ (l : i < length ss). l) (λ (g : length ss ≤ i). absurd (omega (arith, length_most size ss cut, mul-le-mul_right size g))) (cases_lt i (length ss))

-- bytes that don't pass a segment's border stand in it
pub stands_in : (size : ℕ) (ss : List (List ℕ)) → IsCut size ss → (i p n at : ℕ) → at ≡ i * size + p → i < length ss → p + n ≤ size → at + n ≤ length (concat ss) → p + n ≤ length (get_or ss i [])
stands_in size ss cut i p n at e h w v =
    ⊎_elim (λ (l : i + 1 < length ss). omega (arith, cut.full i l)) (λ (g : length ss ≤ i + 1). omega (arith, length_to_last size ss cut i (omega arith))) (cases_lt (i + 1) (length ss))

part_of : (a g b : List ℕ) (p n at : ℕ) → at ≡ length a + p → p + n ≤ length g → take n (drop p g) ≡ take n (drop at (a ++ (g ++ b)))
part_of a g b p n at e h = same_lists _ _ (search (rules, places)) (λ k d l. grind (arith, places))

-- bytes of a segment are those of the whole at its place
pub piece_is : (size : ℕ) (ss : List (List ℕ)) → IsCut size ss → (i p n at : ℕ) → at ≡ i * size + p → i < length ss → p + n ≤ length (get_or ss i []) → take n (drop p (get_or ss i [])) ≡ take n (drop at (concat ss))
piece_is size ss cut i p n at e h w =
    part_of (concat (take i ss)) (get_or ss i []) (concat (drop (i + 1) ss)) p n at (omega (arith, length_before size ss cut i h)) w ∙ ap (λ r. take n (drop at r)) (sym (concat_at ss i h))

overwritten_part : (a g b bs : List ℕ) (p at : ℕ) → at ≡ length a + p → p + length bs ≤ length g
    → a ++ ((take p g ++ bs ++ drop (p + length bs) g) ++ b) ≡ take at (a ++ (g ++ b)) ++ bs ++ drop (at + length bs) (a ++ (g ++ b))
overwritten_part a g b bs p at e h = same_lists _ _ (search (rules, places)) (λ k d l. grind (arith, places))

-- bytes written over those of a segment are written over those of the whole
pub overwritten_is : (size : ℕ) (ss : List (List ℕ)) → IsCut size ss → (i p at : ℕ) (bs : List ℕ) → at ≡ i * size + p → i < length ss → p + length bs ≤ length (get_or ss i [])
    → concat (set ss i (take p (get_or ss i []) ++ bs ++ drop (p + length bs) (get_or ss i []))) ≡ take at (concat ss) ++ bs ++ drop (at + length bs) (concat ss)
overwritten_is size ss cut i p at bs e h w =
    concat-set ss i _ h ∙ (overwritten_part (concat (take i ss)) (get_or ss i []) (concat (drop (i + 1) ss)) bs p at (omega (arith, length_before size ss cut i h)) w
    ∙ ap (λ r. take at r ++ bs ++ drop (at + length bs) r) (sym (concat_at ss i h)))

length-set_at : (ss : List (List ℕ)) (i j : ℕ) (s : List ℕ) → length s ≡ length (get_or ss i []) → length (get_or (set ss i s) j []) ≡ length (get_or ss j [])
length-set_at ss i j s e =
    ⊎_elim (λ (l : i < length ss). ⊎_elim (λ (q : j ≡ i). rw q (ap length (get_or-set_same ss i s [] l) ∙ e)) (λ (q : j ≡ i → ⊥). ap length (get_or-set_other ss i j s [] q)) (cases_eq j i))
    (λ (g : length ss ≤ i). ap (λ r. length (get_or r j [])) (set_past ss i s g)) (cases_lt i (length ss))

pub IsCut-set : (size : ℕ) (ss : List (List ℕ)) (i : ℕ) (s : List ℕ) → length s ≡ length (get_or ss i []) → IsCut size ss → IsCut size (set ss i s)
IsCut-set size ss i s e cut = record {
  full = λ j h. length-set_at ss i j s e ∙ cut.full j (omega (arith, length-set ss i s));
  some = λ j h. omega (arith, length-set_at ss i j s e, cut.some j (omega (arith, length-set ss i s)));
  most = λ j h. omega (arith, length-set_at ss i j s e, cut.most j (omega (arith, length-set ss i s)));
}

pub IsCut-set_last : (size : ℕ) (ss : List (List ℕ)) (i : ℕ) (s : List ℕ) → i + 1 ≡ length ss → 0 < length s → length s ≤ size → IsCut size ss → IsCut size (set ss i s)
IsCut-set_last size ss i s e low high cut = record {
  full = λ j h. let l : j + 1 < length ss = omega (arith, length-set ss i s) in ap length (get_or-set_other ss i j s [] (λ q. omega arith)) ∙ cut.full j l;
  some = λ j h. ⊎_elim (λ (q : j ≡ i). rw q (omega (arith, ap length (get_or-set_same ss i s [] (omega arith))))) (λ (q : j ≡ i → ⊥). omega (arith, ap length (get_or-set_other ss i j s [] q), cut.some j (omega (arith, length-set ss i s)))) (cases_eq j i);
  most = λ j h. ⊎_elim (λ (q : j ≡ i). rw q (omega (arith, ap length (get_or-set_same ss i s [] (omega arith))))) (λ (q : j ≡ i → ⊥). omega (arith, ap length (get_or-set_other ss i j s [] q), cut.most j (omega (arith, length-set ss i s)))) (cases_eq j i);
}

pub IsCut-take : (size : ℕ) (ss : List (List ℕ)) (n : ℕ) → n ≤ length ss → IsCut size ss → IsCut size (take n ss)
IsCut-take size ss n within cut =
    let len : length (take n ss) ≡ n = length-take-le n ss within in record {
      full = λ j h. ap length (get_or-take n ss j [] (omega arith)) ∙ cut.full j (omega arith);
      some = λ j h. omega (arith, ap length (get_or-take n ss j [] (omega arith)), cut.some j (omega arith));
      most = λ j h. omega (arith, ap length (get_or-take n ss j [] (omega arith)), cut.most j (omega arith));
    }

left_at : (a b : List (List ℕ)) (j : ℕ) → j < length a → length (get_or (a ++ b) j []) ≡ length (get_or a j [])
left_at a b j h = ap length (get_or_append_left a b [] j h)

right_at : (a b : List (List ℕ)) (j : ℕ) → length a ≤ j → length (get_or (a ++ b) j []) ≡ length (get_or b (j - length a) [])
right_at a b j h = ap length (get_or-append_right a b (length a) j [] refl h)

-- where segments follow, those before are full
pub IsCut-append : (size : ℕ) (a b : List (List ℕ)) → IsCut size a → IsCut size b → (0 < length b → (i : ℕ) → i < length a → length (get_or a i []) ≡ size) → IsCut size (a ++ b)
IsCut-append size a b cut rest full = let len : length (a ++ b) ≡ length a + length b = length-append a b in record {
  full = λ j h. ⊎_elim
      (λ (l : j < length a). left_at a b j l ∙ ⊎_elim (λ (q : 0 < length b). full q j l) (λ (q : length b ≤ 0). cut.full j (omega arith)) (cases_lt 0 (length b)))
      (λ (g : length a ≤ j). right_at a b j g ∙ rest.full (j - length a) (omega arith)) (cases_lt j (length a));
  some = λ j h. ⊎_elim (λ (l : j < length a). omega (arith, left_at a b j l, cut.some j l)) (λ (g : length a ≤ j). omega (arith, right_at a b j g, rest.some (j - length a) (omega arith))) (cases_lt j (length a));
  most = λ j h. ⊎_elim (λ (l : j < length a). omega (arith, left_at a b j l, cut.most j l)) (λ (g : length a ≤ j). omega (arith, right_at a b j g, rest.most (j - length a) (omega arith))) (cases_lt j (length a));
}

-- ---- bytes that don't pass a segment's border, at a place

pub inside : (size : ℕ) (ss : List (List ℕ)) → IsCut size ss → (i p n place : ℕ) → place ≡ i * size + p → 0 < n → place + n ≤ length (concat ss) → i < length ss
inside size ss cut i p n place e some within = segment_is size ss cut i p place e (omega arith)

pub fits : (size : ℕ) (ss : List (List ℕ)) → IsCut size ss → (i p n place : ℕ) (d : List ℕ) → place ≡ i * size + p → 0 < n → p + n ≤ size → place + n ≤ length (concat ss) → p + n ≤ length (get_or ss i d)
fits size ss cut i p n place d e some border within =
    let i_in : i < length ss = segment_is size ss cut i p place e (omega arith) in
    omega (arith, ap length (get_or_default ss i d [] i_in), stands_in size ss cut i p n place e i_in border within)

pub read_piece : (size : ℕ) (ss : List (List ℕ)) → IsCut size ss → (i p n m place : ℕ) (s d : List ℕ) → place ≡ i * size + p → 0 < n → p + n ≤ size → place + n ≤ length (concat ss) → s ≡ get_or ss i d → m ≡ n
    → take m (drop p s) ≡ take (length (take m (drop p s))) (drop place (concat ss))
read_piece size ss cut i p n m place s d e some border within is same =
    let i_in : i < length ss = segment_is size ss cut i p place e (omega arith) in
    let s_is : s ≡ get_or ss i [] = is ∙ get_or_default ss i d [] i_in in
    let room : p + n ≤ length (get_or ss i []) = stands_in size ss cut i p n place e i_in border within in
    let count : length (take n (drop p (get_or ss i []))) ≡ n = length-take-le n (drop p (get_or ss i [])) (omega (arith, length-drop p (get_or ss i []))) in
    rw (same, s_is, count) (piece_is size ss cut i p n place e i_in room)

pub overwritten : (size : ℕ) (ss : List (List ℕ)) → IsCut size ss → (i p n place : ℕ) (bs d new : List ℕ) → place ≡ i * size + p → 0 < n → n ≡ length bs → p + n ≤ size → place + n ≤ length (concat ss)
    → new ≡ take p (get_or ss i d) ++ bs ++ drop (p + length bs) (get_or ss i d) → concat (set ss i new) ≡ take place (concat ss) ++ bs ++ drop (place + n) (concat ss)
overwritten size ss cut i p n place bs d new e some count border within is =
    let i_in : i < length ss = segment_is size ss cut i p place e (omega arith) in
    let room : p + n ≤ length (get_or ss i []) = stands_in size ss cut i p n place e i_in border within in
    rw (is, get_or_default ss i d [] i_in, count) (overwritten_is size ss cut i p place bs e i_in (omega arith))

length_overwritten : (g bs : List ℕ) (p : ℕ) → p + length bs ≤ length g → length (take p g ++ bs ++ drop (p + length bs) g) ≡ length g
length_overwritten g bs p h = grind (arith, places)

pub IsCut-overwritten : (size : ℕ) (ss : List (List ℕ)) → IsCut size ss → (i p n place : ℕ) (bs d new : List ℕ) → place ≡ i * size + p → 0 < n → n ≡ length bs → p + n ≤ size → place + n ≤ length (concat ss)
    → new ≡ take p (get_or ss i d) ++ bs ++ drop (p + length bs) (get_or ss i d) → IsCut size (set ss i new)
IsCut-overwritten size ss cut i p n place bs d new e some count border within is =
    let i_in : i < length ss = segment_is size ss cut i p place e (omega arith) in
    let room : p + n ≤ length (get_or ss i []) = stands_in size ss cut i p n place e i_in border within in
    let d_is : get_or ss i d ≡ get_or ss i [] = get_or_default ss i d [] i_in in
    IsCut-set size ss i new (rw (is, d_is) (length_overwritten (get_or ss i []) bs p (omega arith))) cut

-- ---- one piece after the other

-- the next piece of what is written at an offset
pub written_more : (body now bytes : List ℕ) (offset m n : ℕ) → now ≡ take offset body ++ take m bytes ++ drop (offset + m) body → offset + length bytes ≤ length body → m + n ≤ length bytes
    → take (offset + m) now ++ take n (drop m bytes) ++ drop (offset + m + n) now ≡ take offset body ++ take (m + n) bytes ++ drop (offset + (m + n)) body
written_more body now bytes offset m n is room within = same_lists _ _ (rw is (search (rules, places))) (λ k d l. rw is (grind (arith, places)))

-- ---- a whole segment

-- a segment is one of them where a byte stands at its start
pub starts_in : (size : ℕ) (ss : List (List ℕ)) → IsCut size ss → (i : ℕ) → i < length ss → i * size < length (concat ss)
starts_in size ss cut i h = omega (arith, length_at size ss cut i h, cut.some i h)

pub starts_most : (ss : List (List ℕ)) → IsCut segment_bytes ss → (i : ℕ) → segment_bytes * i ≤ length (concat ss) → i ≤ length ss
starts_most ss cut i h = omega (arith, h, length_most segment_bytes ss cut)

pub starts_past : (size : ℕ) (ss : List (List ℕ)) → IsCut size ss → (i : ℕ) → length ss ≤ i → length (concat ss) ≤ i * size
starts_past size ss cut i h = omega (arith, length_most size ss cut, mul-le-mul_right size h)

front_of : (g b : List ℕ) (size : ℕ) → ((length g ≡ size) ⊎ ((b ≡ []) × (length g ≤ size))) → g ≡ take size (g ++ b)
front_of g b size = ⊎_elim
    (λ (full : length g ≡ size). same_lists _ _ (search (rules, places)) (λ k d l. grind (arith, places)))
    (λ (last : (b ≡ []) × (length g ≤ size)). rw (last.0, append-nil) (sym (take_all size g last.1)))

behind : (a b : List ℕ) (n : ℕ) → length a ≡ n → drop n (a ++ b) ≡ b
behind a b n is = same_lists _ _ (search (rules, places)) (λ k d l. grind (arith, places))

-- the bytes of a segment
pub segment_taken : (size : ℕ) (ss : List (List ℕ)) → IsCut size ss → (i : ℕ) → i < length ss → get_or ss i [] ≡ take size (drop (i * size) (concat ss))
segment_taken size ss cut i h =
    let rest : List ℕ = concat (drop (i + 1) ss) in
    let before : length (concat (take i ss)) ≡ i * size = length_before size ss cut i h in
    let from : drop (i * size) (concat ss) ≡ get_or ss i [] ++ rest = ap (drop (i * size)) (concat_at ss i h) ∙ behind (concat (take i ss)) (get_or ss i [] ++ rest) (i * size) before in
    front_of (get_or ss i []) rest size
    (⊎_elim
    (λ (l : i + 1 < length ss). inl (cut.full i l))
    (λ (g : length ss ≤ i + 1). inr (ap concat (drop_all (i + 1) ss g), cut.most i h))
    (cases_lt (i + 1) (length ss)))
    ∙ ap (take size) (sym from)

-- where the bytes are full segments, each is full
pub all_full : (ss : List (List ℕ)) → IsCut segment_bytes ss → length (concat ss) % segment_bytes ≡ 0 → (i : ℕ) → i < length ss → length (get_or ss i []) ≡ segment_bytes
all_full ss cut whole i h =
    ⊎_elim (λ (l : i + 1 < length ss). cut.full i l)
    (λ (g : length ss ≤ i + 1). omega (arith, whole, length_to_last segment_bytes ss cut i (omega arith), cut.some i h, cut.most i h))
    (cases_lt (i + 1) (length ss))

-- and there are as many as the bytes fill
pub count_full : (ss : List (List ℕ)) → IsCut segment_bytes ss → length (concat ss) % segment_bytes ≡ 0 → length (concat ss) / segment_bytes ≡ length ss
count_full ss cut whole =
    ⊎_elim
    (λ (some : 0 < length ss). let last : ℕ = length ss - 1 in omega (arith, length_to_last segment_bytes ss cut last (omega arith), all_full ss cut whole last (omega arith)))
    (λ (no : length ss ≤ 0). omega (arith, length_most segment_bytes ss cut))
    (cases_lt 0 (length ss))

-- as many bytes are as many segments
pub same_count : (a b : List (List ℕ)) → IsCut segment_bytes a → IsCut segment_bytes b → length (concat a) ≡ length (concat b) → length a ≡ length b
same_count a b is was same =
    ⊎_elim
    (λ (l : length a < length b). absurd (omega (arith, same, starts_past segment_bytes a is (length a) (omega arith), starts_in segment_bytes b was (length a) l)))
    (λ (g : length b ≤ length a).
    ⊎_elim
    (λ (l : length b < length a). absurd (omega (arith, same, starts_past segment_bytes b was (length b) (omega arith), starts_in segment_bytes a is (length b) l)))
    (λ (e : length a ≤ length b). omega arith)
    (cases_lt (length b) (length a)))
    (cases_lt (length a) (length b))

pub front_is : (a b : List ℕ) (n : ℕ) → n ≡ length a → take n (a ++ b) ≡ a
front_is a b n is = same_lists _ _ (search (rules, places)) (λ k d l. grind (arith, places))

-- ---- segments that become zeros, one after the other

-- so many bytes of a segment
length_of : (size : ℕ) (ss : List (List ℕ)) → IsCut size ss → (i : ℕ) → i < length ss → length (get_or ss i []) ≡ min size (length (concat ss) - i * size)
length_of size ss cut i h = omega (arith, ap length (segment_taken size ss cut i h), length-take size (drop (i * size) (concat ss)), length-drop (i * size) (concat ss))

zeros_for : (g : List ℕ) → replicate (length g) 0 ≡ take 0 g ++ replicate (length g) 0 ++ drop (0 + length (replicate {A = ℕ} (length g) 0)) g
zeros_for g = same_lists _ _ (search (rules, places)) (λ k d l. grind (arith, places))

zeros_next : (body now : List ℕ) (from at n next : ℕ) → from ≤ at → at < length body → next ≡ at + segment_bytes → n ≡ min segment_bytes (length body - at)
    → now ≡ take from body ++ replicate (min at (length body) - from) 0 ++ drop at body
    → take at now ++ replicate n 0 ++ drop (at + n) now ≡ take from body ++ replicate (min next (length body) - from) 0 ++ drop next body
zeros_next body now from at n next order within after is now_is = same_lists _ _ (rw (now_is, is, after) (search (rules, places))) (λ k d l. rw (now_is, is, after) (grind (arith, places)))

pub zeros_none : (body : List ℕ) (from : ℕ) → from ≤ length body → body ≡ take from body ++ replicate (min from (length body) - from) 0 ++ drop from body
zeros_none body from within = same_lists _ _ (search (rules, places)) (λ k d l. grind (arith, places))

-- the next segment becomes zeros
pub zeros_more_of : (ss : List (List ℕ)) → IsCut segment_bytes ss → (body new : List ℕ) (from i : ℕ) → from ≤ i → i < length ss → length (concat ss) ≡ length body → new ≡ replicate (length (get_or ss i [])) 0
    → concat ss ≡ take (segment_bytes * from) body ++ replicate (min (segment_bytes * i) (length body) - segment_bytes * from) 0 ++ drop (segment_bytes * i) body
    → concat (set ss i new) ≡ take (segment_bytes * from) body ++ replicate (min (segment_bytes * (i + 1)) (length body) - segment_bytes * from) 0 ++ drop (segment_bytes * (i + 1)) body
zeros_more_of ss cut body new from i order h same is now =
    let n : ℕ = length (get_or ss i []) in
    let count : length (replicate {A = ℕ} n 0) ≡ n = length-replicate n 0 in
    let size : n ≡ min segment_bytes (length body - segment_bytes * i) = omega (arith, length_of segment_bytes ss cut i h, same) in
    let start : segment_bytes * i < length body = omega (arith, starts_in segment_bytes ss cut i h, same) in
    overwritten segment_bytes ss cut i 0 n (segment_bytes * i) (replicate n 0) [] new (omega arith) (omega (arith, cut.some i h)) (sym count) (omega (arith, cut.most i h)) (omega (arith, size, start, same)) (is ∙ zeros_for (get_or ss i []))
    ∙ zeros_next body (concat ss) (segment_bytes * from) (segment_bytes * i) n (segment_bytes * (i + 1)) (omega arith) start (omega arith) size now

pub length_zeros : (body now : List ℕ) (from at : ℕ) → from ≤ at → from ≤ length body → now ≡ take from body ++ replicate (min at (length body) - from) 0 ++ drop at body → length now ≡ length body
length_zeros body now from at order within is = ap length is ∙ grind (arith, places)

-- zeros in the place of bytes are written
pub zeros_written : (body : List ℕ) (from at to : ℕ) → from ≤ length body → from ≤ at → from ≤ to → min at (length body) ≡ min to (length body)
    → take from body ++ replicate (min at (length body) - from) 0 ++ drop at body ≡ written from (replicate (min to (length body) - from) 0) body
zeros_written body from at to within order up same = same_lists _ _ (search (rules, places)) (λ k d l. grind (arith, places))

-- ---- a cut

cut_part : (a g b : List ℕ) (m n : ℕ) → n ≡ length a + m → m ≤ length g → a ++ (take m g ++ []) ≡ take n (a ++ (g ++ b))
cut_part a g b m n e h = same_lists _ _ (search (rules, places)) (λ k d l. grind (arith, places))

-- the segments up to one that is cut are a front of the whole
pub cut_is : (size : ℕ) (ss : List (List ℕ)) → IsCut size ss → (i m n : ℕ) (kept : List (List ℕ)) (d new : List ℕ) → kept ≡ take (i + 1) ss → n ≡ i * size + m → 0 < m → m ≤ size → n ≤ length (concat ss)
    → new ≡ take m (get_or kept i d) → concat (set kept i new) ≡ take n (concat ss)
cut_is size ss cut i m n kept d new front e some border within is =
    let i_in : i < length ss = segment_is size ss cut i (m - 1) (n - 1) (omega arith) (omega arith) in
    let room : 0 + m ≤ length (get_or ss i []) = stands_in size ss cut i 0 m (i * size) (omega arith) i_in (omega arith) (omega arith) in
    let len : length (take (i + 1) ss) ≡ i + 1 = length-take-le (i + 1) ss (omega arith) in
    let old : get_or (take (i + 1) ss) i d ≡ get_or ss i [] = get_or-take (i + 1) ss i d (omega arith) ∙ get_or_default ss i d [] i_in in
    let none : concat (drop (i + 1) (take (i + 1) ss)) ≡ [] = ap concat (drop_all (i + 1) (take (i + 1) ss) (omega arith)) in
    let before : take i (take (i + 1) ss) ≡ take i ss = take-take i (i + 1) ss (omega arith) in
    let parts : concat (set (take (i + 1) ss) i (take m (get_or ss i []))) ≡ concat (take i ss) ++ (take m (get_or ss i []) ++ []) =
    concat-set (take (i + 1) ss) i (take m (get_or ss i [])) (omega arith) ∙ rw (none, before) refl in
    rw (is, front, old) (parts ∙ (cut_part (concat (take i ss)) (get_or ss i []) (concat (drop (i + 1) ss)) m n (omega (arith, length_before size ss cut i i_in)) (omega arith) ∙ ap (take n) (sym (concat_at ss i i_in))))

pub IsCut-cut : (size : ℕ) (ss : List (List ℕ)) → IsCut size ss → (i m n : ℕ) (kept : List (List ℕ)) (d new : List ℕ) → kept ≡ take (i + 1) ss → n ≡ i * size + m → 0 < m → m ≤ size → n ≤ length (concat ss)
    → new ≡ take m (get_or kept i d) → IsCut size (set kept i new)
IsCut-cut size ss cut i m n kept d new front e some border within is =
    let i_in : i < length ss = segment_is size ss cut i (m - 1) (n - 1) (omega arith) (omega arith) in
    let room : 0 + m ≤ length (get_or ss i []) = stands_in size ss cut i 0 m (i * size) (omega arith) i_in (omega arith) (omega arith) in
    let len : length (take (i + 1) ss) ≡ i + 1 = length-take-le (i + 1) ss (omega arith) in
    let old : get_or (take (i + 1) ss) i d ≡ get_or ss i [] = get_or-take (i + 1) ss i d (omega arith) ∙ get_or_default ss i d [] i_in in
    let count : length new ≡ m = rw (is, front, old) (length-take-le m (get_or ss i []) (omega arith)) in
    rw front (IsCut-set_last size (take (i + 1) ss) i new (omega arith) (omega arith) (omega arith) (IsCut-take size ss (i + 1) (omega arith) cut))

-- ---- zeros

pub zeros_more : (ss : List (List ℕ)) (size left count : ℕ) → size ≤ left → concat ss ++ replicate left 0 ≡ replicate count 0 → concat (ss ++ replicate size 0 ∷ []) ++ replicate (left - size) 0 ≡ replicate count 0
zeros_more ss size left count within is =
    let zeros : ℕ → List ℕ = λ n. replicate n 0 in
    let rest : zeros size ++ zeros (left - size) ≡ zeros left = replicate-append-replicate size (left - size) 0 ∙ ap zeros (omega arith) in
    rw (concat-append, append-nil, append_assoc, rest) is

-- full segments, and one more
pub IsCut-push : (size : ℕ) (ss : List (List ℕ)) (s : List ℕ) → IsCut size ss → ((i : ℕ) → i < length ss → length (get_or ss i []) ≡ size) → 0 < length s → length s ≤ size → IsCut size (ss ++ s ∷ [])
IsCut-push size ss s cut full low high =
    IsCut-append size ss (s ∷ []) cut (record { full = λ i h. absurd (omega arith); some = λ i h. one_at (λ n. 0 < n) i h low; most = λ i h. one_at (λ n. n ≤ size) i h high }) (λ _. full)
  where
    one_at : (P : ℕ → Type 0) (i : ℕ) → i < 1 → P (length s) → P (length (get_or (s ∷ []) i []))
    one_at P zero h p = p
    one_at P (suc i) h p = absurd (omega arith)

pub full_push : (size : ℕ) (ss : List (List ℕ)) (s : List ℕ) → ((i : ℕ) → i < length ss → length (get_or ss i []) ≡ size) → length s ≡ size → (i : ℕ) → i < length (ss ++ s ∷ []) → length (get_or (ss ++ s ∷ []) i []) ≡ size
full_push size ss s full e i h =
    ⊎_elim (λ (l : i < length ss). ap length (get_or_append_left ss (s ∷ []) [] i l) ∙ full i l)
    (λ (g : length ss ≤ i). let at : length ss ≡ i = omega (arith, length-append ss (s ∷ [])) in ap length (get_or_push ss s [] i at) ∙ e) (cases_lt i (length ss))

-- ---- zeros behind

-- the last segment is lengthened
concat-set_last : (ss : List (List ℕ)) (i : ℕ) (more : List ℕ) → i + 1 ≡ length ss → concat (set ss i (get_or ss i [] ++ more)) ≡ concat ss ++ more
concat-set_last ss i more e =
    let none : concat (drop (i + 1) ss) ≡ [] = ap concat (drop_all (i + 1) ss (omega arith)) in
    let whole : concat ss ≡ concat (take i ss) ++ get_or ss i [] = concat_at ss i (omega arith) ∙ ap (λ r. concat (take i ss) ++ r) (ap (λ r. get_or ss i [] ++ r) none ∙ append-nil (get_or ss i [])) in
    let now : concat (set ss i (get_or ss i [] ++ more)) ≡ concat (take i ss) ++ (get_or ss i [] ++ more) =
    concat-set ss i (get_or ss i [] ++ more) (omega arith) ∙ ap (λ r. concat (take i ss) ++ r) (ap (λ r. (get_or ss i [] ++ more) ++ r) none ∙ append-nil (get_or ss i [] ++ more)) in
    now ∙ (sym (append_assoc (concat (take i ss)) (get_or ss i []) more) ∙ ap (λ r. r ++ more) (sym whole))

-- segments that aren't none have a byte
has_bytes : (size : ℕ) (ss : List (List ℕ)) → IsCut size ss → 0 < length ss → 0 < length (concat ss)
has_bytes size ss cut h = omega (arith, length_at size ss cut 0 h, cut.some 0 h)

-- segments, of which the last was filled by some of the zeros, and segments of the rest
pub lengthened : (size : ℕ) (ss rest : List (List ℕ)) → (fill count : ℕ) → fill ≤ count → (length ss ≡ 0 → fill ≡ 0) → concat rest ≡ replicate (count - fill) 0
    → concat (set ss (length ss - 1) (get_or ss (length ss - 1) [] ++ replicate fill 0) ++ rest) ≡ concat ss ++ replicate count 0
lengthened size ss rest fill count within none is =
    let zeros : ℕ → List ℕ = λ n. replicate n 0 in
    let both : zeros fill ++ zeros (count - fill) ≡ zeros count = replicate-append-replicate fill (count - fill) 0 ∙ ap zeros (omega arith) in
    concat-append (set ss (length ss - 1) (get_or ss (length ss - 1) [] ++ zeros fill)) rest ∙
    ⊎_elim
    (λ (some : 0 < length ss). rw (concat-set_last ss (length ss - 1) (zeros fill) (omega arith), is, append_assoc, both) refl)
    (λ (no : length ss ≤ 0).
    let ss_is : ss ≡ [] = nil_from_length ss (omega arith) in
    let count_is : count - fill ≡ count = omega (arith, none (omega arith)) in
    rw (ss_is, is, count_is) refl)
    (cases_lt 0 (length ss))

pub IsCut-lengthened : (size : ℕ) (ss rest : List (List ℕ)) → IsCut size ss → IsCut size rest → (fill count : ℕ) → (0 < length ss → fill + length (get_or ss (length ss - 1) []) ≤ size) → (0 < length ss → fill < count → fill + length (get_or ss (length ss - 1) []) ≡ size)
    → concat rest ≡ replicate (count - fill) 0 → IsCut size (set ss (length ss - 1) (get_or ss (length ss - 1) [] ++ replicate fill 0) ++ rest)
IsCut-lengthened size ss rest cut more fill count room full is =
    let zeros : List ℕ = replicate fill 0 in
    ⊎_elim
    (λ (some : 0 < length ss).
    let grown : length (get_or ss (length ss - 1) [] ++ zeros) ≡ length (get_or ss (length ss - 1) []) + fill = length-append (get_or ss (length ss - 1) []) zeros ∙ ap (λ n. length (get_or ss (length ss - 1) []) + n) (length-replicate fill 0) in
    IsCut-append size _ rest (IsCut-set_last size ss (length ss - 1) _ (omega arith) (omega (arith, cut.some (length ss - 1) (omega arith))) (omega (arith, room some)) cut) more
    (λ q i h. ⊎_elim
    (λ (at : i ≡ length ss - 1).
    rw at (ap length (get_or-set_same ss (length ss - 1) (get_or ss (length ss - 1) [] ++ zeros) [] (omega arith)) ∙ (omega (arith, has_bytes size rest more q, rest_length, full some (omega (arith, has_bytes size rest more q, rest_length)))))
    )
    (λ (other : i ≡ length ss - 1 → ⊥). ap length (get_or-set_other ss (length ss - 1) i _ [] other) ∙ cut.full i (omega (arith, length-set ss (length ss - 1) (get_or ss (length ss - 1) [] ++ zeros)))) (cases_eq i (length ss - 1))))
    (λ (no : length ss ≤ 0). let ss_is : ss ≡ [] = nil_from_length ss (omega arith) in rw ss_is more)
    (cases_lt 0 (length ss))
  where
    rest_length : length (concat rest) ≡ count - fill
    rest_length = ap length is ∙ length-replicate (count - fill) 0
