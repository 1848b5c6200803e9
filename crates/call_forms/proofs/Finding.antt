-- Verbs found in a list by their texts.
use Rattle.std.proofs.Common.{◌≡◌, ◌≢◌, ℕ, ◌+◌, ◌<◌, ◌≤◌, List, [], ◌∷◌, length, take, get_or, Bool, false, Option, Some, None, refl, sym, ap, ◌∙◌}
use Rattle.std.specs.List.{find}
use Rattle.std.specs.Str.{bytes_eq}
use Rattle.std.proofs.lemmas.Bool.{false≢true, false_from_ne_true}
use Rattle.std.proofs.lemmas.List.{take_all, take_more}
use Rattle.std.proofs.lemmas.List.Folds.{find-append}
use Rattle.std.proofs.lemmas.Slice.Eq.{bytes_eq-Decides}

-- the first with that text
abbrev pub found : {V : Type 0} → (V → List ℕ) → List ℕ → List V → Option V
found text word vs = find (λ v. bytes_eq (text v) word) vs

-- a text that didn't compare as the word is another
other_text : (word text wanted : List ℕ) (r : Bool) → r ≡ bytes_eq word text → r ≡ false → text ≡ wanted → bytes_eq wanted word ≡ false
other_text word text wanted r is failed same =
    false_from_ne_true (bytes_eq wanted word)
    (λ yes. false≢true (sym failed ∙ is ∙ (bytes_eq-Decides word text).1 (sym ((bytes_eq-Decides wanted word).0 yes) ∙ sym same)))

-- what the loop keeps
pub passed_more : {V : Type 0} (text : V → List ℕ) (word literal : List ℕ) (vs : List V) (i : ℕ) (d : V) (r : Bool) → i < length vs → r ≡ bytes_eq word literal → r ≡ false → literal ≡ text (get_or vs i d)
    → found text word (take i vs) ≡ None → found text word (take (i + 1) vs) ≡ None
passed_more text word literal vs i d r lt is failed same none =
    let other = other_text word literal (text (get_or vs i d)) r is failed same in
    let last : found text word (get_or vs i d ∷ []) ≡ None = rw other refl in
    rw (take_more vs i d lt, find-append (λ v. bytes_eq (text v) word) (take i vs) (get_or vs i d ∷ []), none, last) refl

-- a word that was passed by all is the text of none that is found by its text
pub passed_all : {V : Type 0} (text : V → List ℕ) (word : List ℕ) (vs : List V) (i : ℕ) (v : V) → found text (text v) vs ≡ Some v → length vs ≤ i → found text word (take i vs) ≡ None → word ≢ text v
passed_all text word vs i v is end none same =
    let all = take_all i vs end in
    let passed : found text word vs ≡ None = rw all at none in
    let wrong : Some v ≡ None = sym is ∙ ap (λ w. found text w vs) (sym same) ∙ passed in
    cc wrong
