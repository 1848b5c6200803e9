-- What kinds of events spell, and why nothing else.
use Rattle.std.proofs.Common.{◌≡◌, ◌≢◌, ℕ, List, [], ◌∷◌, ◌++◌, length, Bool, true, false, refl, sym, ap, ◌∙◌, arith, append_assoc, append-nil}
use Rattle.std.specs.Prelude.{codes, ◌==◌, ◌<◌, if◌then◌else◌}
use Rattle.std.specs.Bool.{Decides}
use Rattle.std.specs.List.{join_with_byte}
use Rattle.std.specs.Str.{bytes_eq}
use Rattle.std.proofs.lemmas.List.Splits.{join_with_byte-slice_split, length-slice_split}
use Rattle.std.proofs.lemmas.Slice.Eq.{bytes_eq-Decides}
use Rattle.hsm_types.specs.declared.dm.Kinds.{Kinds}
use Rattle.event_text.specs.Render.{listed, if_taken, kinds_word}
use Rattle.script_text.specs.Reading.{parts, taken}
use Rattle.script_text.proofs.Spelling.{IsVisible}

abbrev pub kind_words : Kinds → List (List ℕ)
kind_words k = if_taken k.read (codes "read") ++ if_taken k.write (codes "write") ++ if_taken k.truncate (codes "truncate") ++ if_taken k.no_space (codes "nospace")

-- ---- kinds that are taken from words, one by one

abbrev after_read : List (List ℕ) → Bool × List (List ℕ)
after_read words = taken (codes "read") words

abbrev after_write : List (List ℕ) → Bool × List (List ℕ)
after_write words = taken (codes "write") (after_read words).1

abbrev after_truncate : List (List ℕ) → Bool × List (List ℕ)
after_truncate words = taken (codes "truncate") (after_write words).1

abbrev pub after_all : List (List ℕ) → Bool × List (List ℕ)
after_all words = taken (codes "nospace") (after_truncate words).1

abbrev pub kinds_in_words : List (List ℕ) → Kinds
kinds_in_words words = record { read = (after_read words).0; write = (after_write words).0; truncate = (after_truncate words).0; no_space = (after_all words).0 }

abbrev pub kinds_at : List ℕ → Kinds
kinds_at word = kinds_in_words (parts word)

first_taken : (test : Bool) (first word : List ℕ) (more : List (List ℕ)) → Decides test (first ≡ word)
    → let t : Bool × List (List ℕ) = if test then (true, more) else (false, first ∷ more) in first ∷ more ≡ if_taken t.0 word ++ t.1
first_taken true first word more d = ap (λ w. w ∷ more) (d.0 refl)
first_taken false first word more d = refl

joined_taken : (a b c d words u v w rest : List (List ℕ)) → words ≡ a ++ u → u ≡ b ++ v → v ≡ c ++ w → w ≡ d ++ rest → words ≡ a ++ b ++ c ++ d ++ rest
joined_taken a b c d words u v w rest e f g h =
    e ∙ ap (λ t. a ++ t) (f ∙ ap (λ t. b ++ t) (g ∙ ap (λ t. c ++ t) h))
    ∙ sym (append_assoc a b (c ++ (d ++ rest))) ∙ sym (append_assoc (a ++ b) c (d ++ rest)) ∙ sym (append_assoc (a ++ b ++ c) d rest)

taken_whole : (word : List ℕ) (words : List (List ℕ)) → words ≡ if_taken (taken word words).0 word ++ (taken word words).1
taken_whole word [] = refl
taken_whole word (first ∷ more) = first_taken (bytes_eq first word) first word more (bytes_eq-Decides first word)

-- words that are taken are the first ones
words_taken : (words : List (List ℕ)) → words ≡ kind_words (kinds_in_words words) ++ (after_all words).1
words_taken words =
    let a = taken_whole (codes "read") words in
    let b = taken_whole (codes "write") (after_read words).1 in
    let c = taken_whole (codes "truncate") (after_write words).1 in
    let d = taken_whole (codes "nospace") (after_truncate words).1 in
    joined_taken _ _ _ _ words (after_read words).1 (after_write words).1 (after_truncate words).1 (after_all words).1 a b c d

-- ---- they are got back from their word

-- they are got back, its bytes are visible, and nothing is left of it, if it isn't `-`
pub record IsSpelled (k : Kinds) : Type 0 where
  pub back : kinds_at (kinds_word k) ≡ k
  pub visible : IsVisible (kinds_word k)
  pub left : kinds_word k ≢ codes "-" → (after_all (parts (kinds_word k))).1 ≡ []

-- computed for each
spelled_of : (read write truncate no_space : Bool) → IsSpelled (record { read = read; write = write; truncate = truncate; no_space = no_space })
spelled_of true true true true = record { back = refl; visible = refl; left = λ other. refl }
spelled_of true true true false = record { back = refl; visible = refl; left = λ other. refl }
spelled_of true true false true = record { back = refl; visible = refl; left = λ other. refl }
spelled_of true true false false = record { back = refl; visible = refl; left = λ other. refl }
spelled_of true false true true = record { back = refl; visible = refl; left = λ other. refl }
spelled_of true false true false = record { back = refl; visible = refl; left = λ other. refl }
spelled_of true false false true = record { back = refl; visible = refl; left = λ other. refl }
spelled_of true false false false = record { back = refl; visible = refl; left = λ other. refl }
spelled_of false true true true = record { back = refl; visible = refl; left = λ other. refl }
spelled_of false true true false = record { back = refl; visible = refl; left = λ other. refl }
spelled_of false true false true = record { back = refl; visible = refl; left = λ other. refl }
spelled_of false true false false = record { back = refl; visible = refl; left = λ other. refl }
spelled_of false false true true = record { back = refl; visible = refl; left = λ other. refl }
spelled_of false false true false = record { back = refl; visible = refl; left = λ other. refl }
spelled_of false false false true = record { back = refl; visible = refl; left = λ other. refl }
spelled_of false false false false = record { back = refl; visible = refl; left = λ other. absurd (other refl) }

pub spelled_kinds : (k : Kinds) → IsSpelled k
spelled_kinds k = spelled_of k.read k.write k.truncate k.no_space

-- ---- what is taken from a word

-- the kinds that were taken one by one, and what is left
pub taken_at : (word : List ℕ) (read write truncate no_space : Bool) (a b c rest : List (List ℕ))
    → (read, a) ≡ taken (codes "read") (parts word) → (write, b) ≡ taken (codes "write") a → (truncate, c) ≡ taken (codes "truncate") b → (no_space, rest) ≡ taken (codes "nospace") c
    → ◌≡◌ {A = Kinds} (record { read = read; write = write; truncate = truncate; no_space = no_space }) (kinds_at word) × (rest ≡ (after_all (parts word)).1)
taken_at word read write truncate no_space a b c rest e f g h =
    let words : List (List ℕ) = parts word in
    let e' : (read, a) ≡ after_read words = e in
    let f' : (write, b) ≡ after_write words = f ∙ ap (taken (codes "write")) (ap (λ p. p.1) e') in
    let g' : (truncate, c) ≡ after_truncate words = g ∙ ap (taken (codes "truncate")) (ap (λ p. p.1) f') in
    let h' : (no_space, rest) ≡ after_all words = h ∙ ap (taken (codes "nospace")) (ap (λ p. p.1) g') in
    let is_read : read ≡ (after_read words).0 = ap (λ p. p.0) e' in
    let is_write : write ≡ (after_write words).0 = ap (λ p. p.0) f' in
    let is_truncate : truncate ≡ (after_truncate words).0 = ap (λ p. p.0) g' in
    let is_no_space : no_space ≡ (after_all words).0 = ap (λ p. p.0) h' in
    (cc (is_read, is_write, is_truncate, is_no_space), ap (λ p. p.1) h')

some_listed : (words : List (List ℕ)) → 0 < length words → words ≡ listed words
some_listed [] some = absurd (omega arith)
some_listed (word ∷ words) some = refl

-- a word of which nothing is left is that of its kinds
spelled_whole : (word : List ℕ) → (after_all (parts word)).1 ≡ [] → word ≡ kinds_word (kinds_at word)
spelled_whole word none =
    let all : parts word ≡ kind_words (kinds_at word) = words_taken (parts word) ∙ ap (λ ws. kind_words (kinds_at word) ++ ws) none ∙ append-nil (kind_words (kinds_at word)) in
    let some : 0 < length (parts word) = omega (arith, length-slice_split (λ b. b == 44) word) in
    sym (join_with_byte-slice_split 44 word) ∙ ap (join_with_byte 44) (some_listed (parts word) some ∙ ap listed all)

pub kinds_read : (word : List ℕ) (k : Kinds) (rest : List (List ℕ)) → (k ≡ kinds_at word) × (rest ≡ (after_all (parts word)).1) → rest ≡ [] → word ≡ kinds_word k
kinds_read word k rest is none = spelled_whole word (sym is.1 ∙ none) ∙ ap kinds_word (sym is.0)

-- a word of which something is left is that of no kinds, if it isn't `-`
pub kinds_left : (word left : List ℕ) (k x : Kinds) → (k ≡ kinds_at word) × (parts left ≡ (after_all (parts word)).1) → word ≢ codes "-" → word ≡ kinds_word x → ⊥
kinds_left word left k x is other same =
    let none : (after_all (parts word)).1 ≡ [] = ap (λ w. (after_all (parts w)).1) same ∙ (spelled_kinds x).left (λ dash. other (same ∙ dash)) in
    let lengths = ap length (is.1 ∙ none) in
    absurd (omega (arith, lengths, length-slice_split (λ b. b == 44) left))
