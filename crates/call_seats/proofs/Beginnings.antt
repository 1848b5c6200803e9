-- Beginnings of one list, and the marks of one number.
use Rattle.std.proofs.Common.{◌≡◌, ◌≢◌, ℕ, ◌+◌, ◌≤◌, ◌==◌, Bool, true, false, cond, List, [], ◌∷◌, ◌++◌, length, refl, ap, sym, ◌∙◌, subst, arith, append_assoc, append-nil, length-append}
use Rattle.std.specs.Prelude.{nat_le}
use Rattle.std.proofs.lemmas.Bool.Decides.{nat_tests}
use Rattle.std.proofs.lemmas.List.Elements.{filter-append}
use mathlib.Core.List.{IsPrefix}
use Rattle.call_seats.specs.declared.views.Mark.{Mark}
use Rattle.call_seats.specs.Views.{made_by, Begins, longer}

pub prefix_self : (xs : List Mark) → IsPrefix xs xs
prefix_self xs = ([], append-nil xs)

pub prefix_trans : (xs ys zs : List Mark) → IsPrefix xs ys → IsPrefix ys zs → IsPrefix xs zs
prefix_trans xs ys zs p q = (p.0 ++ q.0, sym (append_assoc xs p.0 q.0) ∙ (ap (λ (w : List Mark). w ++ q.0) p.1 ∙ q.1))

pub prefix_more : (xs ys zs : List Mark) → IsPrefix xs ys → IsPrefix xs (ys ++ zs)
prefix_more xs ys zs p = prefix_trans xs ys (ys ++ zs) p (zs, refl)

-- of two beginnings of one list the shorter begins the longer
pub prefix_shorter : (xs ys zs : List Mark) → IsPrefix xs zs → IsPrefix ys zs → length xs ≤ length ys → IsPrefix xs ys
prefix_shorter [] ys zs p q le = (ys, refl)
prefix_shorter (x ∷ xs) [] zs p q le = absurd (omega arith)
prefix_shorter (x ∷ xs) (y ∷ ys) [] p q le = absurd (cc (p.1))
prefix_shorter (x ∷ xs) (y ∷ ys) (z ∷ zs) p q le =
    let heads : x ≡ y = cc (p.1, q.1) in
    let rest = prefix_shorter xs ys zs (p.0, cc (p.1)) (q.0, cc (q.1)) (omega arith) in
    (rest.0, cc (heads, rest.1))

-- a beginning as long as the whole is the whole
pub prefix_whole : (xs ys : List Mark) → IsPrefix xs ys → length ys ≤ length xs → xs ≡ ys
prefix_whole [] [] p le = refl
prefix_whole [] (y ∷ ys) p le = absurd (omega arith)
prefix_whole (x ∷ xs) [] p le = absurd (cc (p.1))
prefix_whole (x ∷ xs) (y ∷ ys) p le =
    let rest = prefix_whole xs ys (p.0, cc (p.1)) (omega arith) in cc (p.1, rest)

pub prefix_length : (xs ys : List Mark) → IsPrefix xs ys → length xs ≤ length ys
prefix_length xs ys p = omega (arith, sym (ap length p.1) ∙ length-append xs p.0)

pub both_begin : (xs ys log : List Mark) → IsPrefix xs log → IsPrefix ys log → Begins xs ys
both_begin xs ys log p q le = prefix_shorter xs ys log p q le

-- ---- the longer of two lists

either_longer : (P : List Mark → Type 0) (xs ys : List Mark) (b : Bool) → nat_le (length xs) (length ys) ≡ b → (length xs ≤ length ys → P ys) → (length ys ≤ length xs → P xs) → P (longer xs ys)
either_longer P xs ys true is l r = let le : length xs ≤ length ys = grind (arith, nat_tests) in subst (λ (b : Bool). P (cond b ys xs)) (sym is) (l le)
either_longer P xs ys false is l r = let le : length ys ≤ length xs = grind (arith, nat_tests) in subst (λ (b : Bool). P (cond b ys xs)) (sym is) (r le)

pub longer_by : (P : List Mark → Type 0) (xs ys : List Mark) → (length xs ≤ length ys → P ys) → (length ys ≤ length xs → P xs) → P (longer xs ys)
longer_by P xs ys l r = either_longer P xs ys (nat_le (length xs) (length ys)) refl l r

pub longer_prefix : (xs ys log : List Mark) → IsPrefix xs log → IsPrefix ys log → IsPrefix (longer xs ys) log
longer_prefix xs ys log p q = longer_by (λ (l : List Mark). IsPrefix l log) xs ys (λ _. q) (λ _. p)

pub longer_left : (xs ys : List Mark) → length xs ≤ length (longer xs ys)
longer_left xs ys = longer_by (λ (l : List Mark). length xs ≤ length l) xs ys (λ le. le) (λ _. omega arith)

pub longer_right : (xs ys : List Mark) → length ys ≤ length (longer xs ys)
longer_right xs ys = longer_by (λ (l : List Mark). length ys ≤ length l) xs ys (λ _. omega arith) (λ le. le)

pub longer_whole_left : (xs ys log : List Mark) → xs ≡ log → IsPrefix ys log → longer xs ys ≡ log
longer_whole_left xs ys log e q =
    prefix_whole (longer xs ys) log (longer_prefix xs ys log (subst (λ (l : List Mark). IsPrefix xs l) e (prefix_self xs)) q) (omega (arith, longer_left xs ys, ap (λ (l : List Mark). length l) e))

pub longer_whole_right : (xs ys log : List Mark) → IsPrefix xs log → ys ≡ log → longer xs ys ≡ log
longer_whole_right xs ys log p e =
    prefix_whole (longer xs ys) log (longer_prefix xs ys log p (subst (λ (l : List Mark). IsPrefix ys l) e (prefix_self ys))) (omega (arith, longer_right xs ys, ap (λ (l : List Mark). length l) e))

-- joined to one of the two, the longer is itself
pub longer_again : (xs ys : List Mark) → Begins xs ys → Begins ys xs → longer xs (longer ys xs) ≡ longer ys xs
longer_again xs ys p q =
    longer_by (λ (l : List Mark). l ≡ longer ys xs) xs (longer ys xs) (λ _. refl)
    (λ le.
    let a = longer_left ys xs in
    let b : IsPrefix (longer ys xs) xs = longer_by (λ (l : List Mark). IsPrefix l xs) ys xs (λ _. prefix_self xs) (λ _. q (omega arith)) in
    sym (prefix_whole (longer ys xs) xs b (longer_right ys xs)))

-- ---- the marks of one number

pub made_by-append : (n : ℕ) (xs ys : List Mark) → made_by n (xs ++ ys) ≡ made_by n xs ++ made_by n ys
made_by-append n xs ys = filter-append (λ (m : Mark). m.by == n) xs ys

pub made_by-mine : (n : ℕ) (m : Mark) → m.by ≡ n → made_by n (m ∷ []) ≡ m ∷ []
made_by-mine n m e = let t : (m.by == n) ≡ true = grind (arith, nat_tests) in rw t refl

pub made_by-other : (n : ℕ) (m : Mark) → m.by ≢ n → made_by n (m ∷ []) ≡ []
made_by-other n m e = let t : (m.by == n) ≡ false = grind (arith, nat_tests) in rw t refl

nothing_more : (xs ys : List Mark) → length (xs ++ ys) ≤ length xs → xs ++ ys ≡ xs
nothing_more [] [] le = refl
nothing_more [] (y ∷ ys) le = absurd (omega arith)
nothing_more (x ∷ xs) ys le = ap (λ (l : List Mark). x ∷ l) (nothing_more xs ys (omega arith))

-- Where a list has the marks of a number that the whole has, so does each list between.
pub made_by-between : (n : ℕ) (xs ys log made : List Mark) → IsPrefix xs ys → IsPrefix ys log → made_by n xs ≡ made → made_by n log ≡ made → made_by n ys ≡ made
made_by-between n xs ys log made p q here there =
    let a : made_by n ys ≡ made_by n xs ++ made_by n p.0 = ap (made_by n) (sym p.1) ∙ made_by-append n xs p.0 in
    let b : made_by n log ≡ made_by n ys ++ made_by n q.0 = ap (made_by n) (sym q.1) ∙ made_by-append n ys q.0 in
    let la : length (made_by n ys) ≡ length (made_by n xs ++ made_by n p.0) = ap (λ (l : List Mark). length l) a in
    let lb : length (made_by n log) ≡ length (made_by n ys) + length (made_by n q.0) = ap (λ (l : List Mark). length l) b ∙ length-append (made_by n ys) (made_by n q.0) in
    let lc : length (made_by n log) ≡ length (made_by n xs) = ap (λ (l : List Mark). length l) (there ∙ sym here) in
    a ∙ (nothing_more (made_by n xs) (made_by n p.0) (omega arith) ∙ here)
