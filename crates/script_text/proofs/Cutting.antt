-- Lists that are cut at a byte.
use Rattle.std.proofs.Common.{◌≡◌, ◌≢◌, ℕ, ◌+◌, ◌<◌, List, [], ◌∷◌, ◌++◌, length, length-append, true, false, refl, ap, ◌∙◌, arith}
use Rattle.std.specs.Prelude.{◌==◌}
use Rattle.std.specs.List.{slice_split, join_with_byte, AllByRecursion}
use Rattle.std.proofs.lemmas.Bool.Decides.{nat_tests}
use Rattle.std.proofs.lemmas.List.Elements.{All-from_recursion}
use Rattle.std.proofs.lemmas.List.Splits.{slice_split_none, slice_split_at, length-slice_split}
use Rattle.script_text.specs.Scripts.{ended_texts, texts_of}
use Rattle.script_text.specs.Reading.{Lacks}

pub Lacks-append : (b : ℕ) (xs ys : List ℕ) → Lacks b xs → Lacks b ys → Lacks b (xs ++ ys)
Lacks-append b [] ys h k = k
Lacks-append b (x ∷ xs) ys h k = (h.0, Lacks-append b xs ys h.1 k)

-- words joined by another byte
pub Lacks-join : (b by : ℕ) (words : List (List ℕ)) → by ≢ b → AllByRecursion (Lacks b) words → Lacks b (join_with_byte by words)
Lacks-join b by [] other h = tt
Lacks-join b by (word ∷ []) other h = h.0
Lacks-join b by (word ∷ next ∷ words) other h =
    Lacks-append b word (by ∷ join_with_byte by (next ∷ words)) h.0 (other, Lacks-join b by (next ∷ words) other h.1)

-- a list that has the byte
pub Lacks-not : (b : ℕ) (xs ys : List ℕ) → Lacks b (xs ++ b ∷ ys) → ⊥
Lacks-not b [] ys h = h.0 refl
Lacks-not b (x ∷ xs) ys h = Lacks-not b xs ys h.1

-- a list is cut in one way
pub cut_same : (b : ℕ) (xs ys vs ws : List ℕ) → Lacks b xs → Lacks b vs → xs ++ b ∷ ys ≡ vs ++ b ∷ ws → (xs ≡ vs) × (ys ≡ ws)
cut_same b [] ys [] ws h k e = (refl, cc e)
cut_same b [] ys (v ∷ vs) ws h k e = let first : v ≡ b = cc e in absurd (k.0 first)
cut_same b (x ∷ xs) ys [] ws h k e = let first : x ≡ b = cc e in absurd (h.0 first)
cut_same b (x ∷ xs) ys (v ∷ vs) ws h k e =
    let first : x ≡ v = cc e in
    let rest : xs ++ b ∷ ys ≡ vs ++ b ∷ ws = cc e in
    let i = cut_same b xs ys vs ws h.1 k.1 rest in
    (cc (first, i.0), i.1)

-- the same as the lemmas on `slice_split` want it
tests_false : (b : ℕ) (xs : List ℕ) → Lacks b xs → AllByRecursion (λ x. (x == b) ≡ false) xs
tests_false b [] h = tt
tests_false b (x ∷ xs) h = (let other : x ≢ b = h.0 in grind (arith, nat_tests), tests_false b xs h.1)

pub slice_split-lacks : (b : ℕ) (xs : List ℕ) → Lacks b xs → slice_split (λ x. x == b) xs ≡ xs ∷ []
slice_split-lacks b xs h = slice_split_none (λ x. x == b) xs (All-from_recursion (λ x. (x == b) ≡ false) xs (tests_false b xs h))

pub slice_split-cut : (b : ℕ) (xs ys : List ℕ) → Lacks b xs → slice_split (λ x. x == b) (xs ++ b ∷ ys) ≡ xs ∷ slice_split (λ x. x == b) ys
slice_split-cut b xs ys h =
    let is : (b == b) ≡ true = grind (arith, nat_tests) in
    slice_split_at (λ x. x == b) xs b ys (All-from_recursion (λ x. (x == b) ≡ false) xs (tests_false b xs h)) is

-- words without the byte are what their text is split to
pub slice_split-join : (b : ℕ) (word : List ℕ) (words : List (List ℕ)) → AllByRecursion (Lacks b) (word ∷ words) → slice_split (λ x. x == b) (join_with_byte b (word ∷ words)) ≡ word ∷ words
slice_split-join b word [] h = slice_split-lacks b word h.0
slice_split-join b word (next ∷ words) h =
    slice_split-cut b word (join_with_byte b (next ∷ words)) h.0 ∙ ap (λ ws. word ∷ ws) (slice_split-join b next words h.1)

-- ---- the texts of lines

ended_texts-more : (text : List ℕ) (texts : List (List ℕ)) → 0 < length texts → ended_texts (text ∷ texts) ≡ text ∷ ended_texts texts
ended_texts-more text [] h = absurd (omega arith)
ended_texts-more text (next ∷ texts) h = refl

pub texts_of-line : (text more : List ℕ) → Lacks 10 text → texts_of (text ++ 10 ∷ more) ≡ text ∷ texts_of more
texts_of-line text more h =
    let many : 0 < length (slice_split (λ x. x == 10) more) = omega (arith, length-slice_split (λ x. x == 10) more) in
    ap ended_texts (slice_split-cut 10 text more h) ∙ ended_texts-more text (slice_split (λ x. x == 10) more) many

ended_texts-one : (text : List ℕ) → 0 < length text → ended_texts (text ∷ []) ≡ text ∷ []
ended_texts-one [] h = absurd (omega arith)
ended_texts-one (b ∷ bs) h = grind (arith, nat_tests)

pub texts_of-last : (text : List ℕ) → Lacks 10 text → 0 < length text → texts_of text ≡ text ∷ []
texts_of-last text h many = ap ended_texts (slice_split-lacks 10 text h) ∙ ended_texts-one text many

pub texts_of-none : (bytes : List ℕ) → length bytes ≡ 0 → texts_of bytes ≡ []
texts_of-none [] h = refl
texts_of-none (b ∷ bs) h = absurd (omega arith)

-- what stands before the byte and what behind it are shorter than the whole
pub cut_shorter : (bytes front rest : List ℕ) (b : ℕ) → bytes ≡ front ++ b ∷ rest → length front + length rest < length bytes
cut_shorter bytes front rest b e = omega (arith, simp length-append at (ap length e))
