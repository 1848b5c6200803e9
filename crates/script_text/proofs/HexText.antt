-- Data in hex digits of lower case.
use Rattle.std.proofs.Common.{◌≡◌, ◌≢◌, ℕ, zero, suc, ◌+◌, ◌*◌, ◌/◌, ◌%◌, ◌<◌, ◌≤◌, List, [], ◌∷◌, ◌++◌, length, drop, slice_index, Bool, true, false, ◌&&◌}
use Rattle.std.proofs.Common.{◌==◌, Option, Some, None, unwrap_or, Result, Ok, Err, inl, inr, refl, sym, ap, ◌∙◌, subst, arith, append_assoc, append-nil}
use Rattle.std.specs.Prelude.{MatchResult, if◌then◌else◌, nat_le}
use Rattle.std.specs.List.{list_all}
use Rattle.std.specs.Result.{result_unwrap_or}
use Rattle.std.proofs.lemmas.List.{drop_more, drop_all}
use Rattle.std.proofs.lemmas.Bool.{and_parts, cases_lt, eqb-true, false≢true}
use Rattle.std.proofs.lemmas.Bool.Decides.{nat_tests}
use Rattle.hex.specs.Hex.{IsBytes, decode_of, decode_pairs, decode_sized, digit_or_error, hex_digit_value, encode_lower, encode_with, lower_digits}
use Rattle.hex.specs.Hex.{pair_value, value_at, ◌>>=◌}
use Rattle.hex.specs.declared.error.FromHexError.{FromHexError}
use Rattle.hex.proofs.HexLemmas.{decode_of-encode_lower, decode_of-ok, decode_of-even, decode_sized-encode_lower, decode_sized-ok, decode_sized-twice}
use Rattle.hex.proofs.HexLemmas.{length-encode_with}
use Rattle.script_text.specs.Reading.{Lacks, is_lower_hex}

-- ---- the digits

abbrev keeps_digit : ℕ → Bool
keeps_digit c = if is_lower_hex c then slice_index lower_digits (unwrap_or (hex_digit_value c) 99) == c else true

abbrev all_keep : ℕ → Bool
all_keep zero = true
all_keep (suc n) = keeps_digit n && all_keep n

all_keep-at : (n k : ℕ) → all_keep n ≡ true → k < n → keeps_digit k ≡ true
all_keep-at zero k h lt = absurd (omega arith)
all_keep-at (suc n) k h lt =
    let parts = and_parts (keeps_digit n) (all_keep n) h in
    elim (cases_lt k n) [
      | inl below ↦ all_keep-at n k parts.1 below
      | inr top ↦ let e : k ≡ n = omega arith in rw e parts.0
    ]

-- a digit in lower case is that of its value
digit_kept : (c v : ℕ) → is_lower_hex c ≡ true → hex_digit_value c ≡ Some v → slice_index lower_digits v ≡ c
digit_kept c v lower is =
    let small : c < 103 = grind (arith, nat_tests) in
    let kept = all_keep-at 103 c refl small in
    let kept' : (slice_index lower_digits (unwrap_or (hex_digit_value c) 99) == c) ≡ true = rw lower at kept in
    eqb-true _ c (rw is at kept')

abbrev all_lower : ℕ → Bool
all_lower zero = true
all_lower (suc n) = is_lower_hex (slice_index lower_digits n) && all_lower n

all_lower-at : (n k : ℕ) → all_lower n ≡ true → k < n → is_lower_hex (slice_index lower_digits k) ≡ true
all_lower-at zero k h lt = absurd (omega arith)
all_lower-at (suc n) k h lt =
    let parts = and_parts (is_lower_hex (slice_index lower_digits n)) (all_lower n) h in
    elim (cases_lt k n) [
      | inl below ↦ all_lower-at n k parts.1 below
      | inr top ↦ let e : k ≡ n = omega arith in rw e parts.0
    ]

digit_lower : (d : ℕ) → d < 16 → is_lower_hex (slice_index lower_digits d) ≡ true
digit_lower d small = all_lower-at 16 d refl small

-- ---- from digits to bytes and back

bind_ok : {A B : Type 0} (r : Result A FromHexError) (f : A → Result B FromHexError) (y : B) → (r >>= f) ≡ Ok y → (x : A) × (r ≡ Ok x) × (f x ≡ Ok y)
bind_ok (Ok x) f y h = (x, refl, h)
bind_ok (Err e) f y h = cc h

digit_read : (c i : ℕ) (o : Option ℕ) (v : ℕ) → digit_or_error c i o ≡ Ok v → o ≡ Some v
digit_read c i (Some w) v h = ap Some (ap (λ (r : Result ℕ FromHexError). result_unwrap_or r 0) h)
digit_read c i None v h = cc h

lower_small : (c v : ℕ) → hex_digit_value c ≡ Some v → v < 16
lower_small c v h = grind (arith)

encode_again : (i : ℕ) (text bytes : List ℕ) → list_all is_lower_hex text ≡ true → decode_pairs i text ≡ Ok bytes → text ≡ encode_lower bytes
unfolding decode_pairs encode_with
encode_again i [] bytes lower h =
    let e : [] ≡ bytes = ap (λ (r : Result (List ℕ) FromHexError). result_unwrap_or r []) h in
    rw (← e) refl
encode_again i (a ∷ []) bytes lower h = cc h
encode_again i (a ∷ b ∷ rest) bytes lower h =
    let first = and_parts (is_lower_hex a) (list_all is_lower_hex (b ∷ rest)) lower in
    let second = and_parts (is_lower_hex b) (list_all is_lower_hex rest) first.1 in
    let p0 = bind_ok (pair_value a b i) _ bytes h in
    let p1 = bind_ok (value_at a i) _ p0.0 p0.1 in
    let p2 = bind_ok (value_at b (i + 1)) _ p0.0 p1.2 in
    let p3 = bind_ok (decode_pairs (i + 2) rest) _ bytes p0.2 in
    let again = encode_again (i + 2) rest p3.0 second.1 p3.1 in
    let e : p0.0 ∷ p3.0 ≡ bytes = ap (λ (r : Result (List ℕ) FromHexError). result_unwrap_or r []) p3.2 in
    let va = digit_read a i (hex_digit_value a) p1.0 p1.1 in
    let vb = digit_read b (i + 1) (hex_digit_value b) p2.0 p2.1 in
    let sa = lower_small a p1.0 va in
    let sb = lower_small b p2.0 vb in
    let byte : p1.0 * 16 + p2.0 ≡ p0.0 = ap (λ (r : Result ℕ FromHexError). result_unwrap_or r 0) p2.2 in
    let high : p0.0 / 16 ≡ p1.0 = omega arith in
    let low : p0.0 % 16 ≡ p2.0 = omega arith in
    rw (← e, high, low, digit_kept a p1.0 first.0 va, digit_kept b p2.0 second.0 vb) (ap (λ w. a ∷ b ∷ w) again)

pub encode_decoded : (text bytes : List ℕ) → list_all is_lower_hex text ≡ true → decode_of text ≡ Ok bytes → IsBytes bytes × (text ≡ encode_lower bytes)
encode_decoded text bytes lower h =
    let is = decode_of-ok text bytes h in
    (is.3, encode_again 0 text bytes lower (sym (decode_of-even text is.0) ∙ h))

pub encoded_lower : (bytes : List ℕ) → IsBytes bytes → list_all is_lower_hex (encode_lower bytes) ≡ true
unfolding encode_with
encoded_lower [] h = refl
encoded_lower (b ∷ rest) h =
    let fits : b < 256 = h 0 in
    let high = digit_lower (b / 16) (omega arith) in
    let low = digit_lower (b % 16) (omega arith) in
    rw (high, low) (encoded_lower rest (λ i. h (suc i)))

lower_other : (b c : ℕ) → is_lower_hex b ≡ false → is_lower_hex c ≡ true → c ≢ b
lower_other b c other lower same = false≢true (sym other ∙ rw (← same) lower)

Lacks-lower : (b : ℕ) (text : List ℕ) → is_lower_hex b ≡ false → list_all is_lower_hex text ≡ true → Lacks b text
Lacks-lower b [] other h = tt
Lacks-lower b (c ∷ cs) other h =
    let parts = and_parts (is_lower_hex c) (list_all is_lower_hex cs) h in
    (lower_other b c other parts.0, Lacks-lower b cs other parts.1)

pub Lacks-encoded : (b : ℕ) (bytes : List ℕ) → is_lower_hex b ≡ false → IsBytes bytes → Lacks b (encode_lower bytes)
Lacks-encoded b bytes other h = Lacks-lower b (encode_lower bytes) other (encoded_lower bytes h)

pub decode-encoded : (bytes : List ℕ) → IsBytes bytes → result_unwrap_or (decode_of (encode_lower bytes)) [] ≡ bytes
decode-encoded bytes h = rw (decode_of-encode_lower bytes h) refl

pub length-encoded : (bytes : List ℕ) → length (encode_lower bytes) ≡ 2 * length bytes
length-encoded bytes = length-encode_with lower_digits bytes

-- digits for so many bytes
pub sized_decoded : (text bytes : List ℕ) (n : ℕ) → list_all is_lower_hex text ≡ true → decode_sized text n ≡ Ok bytes → IsBytes bytes × (length bytes ≡ n) × (text ≡ encode_lower bytes)
sized_decoded text bytes n lower h =
    let long = decode_sized-ok text n bytes h in
    let whole = sym (decode_sized-twice text n long) ∙ h in
    let is = encode_decoded text bytes lower whole in
    let twice = (decode_of-ok text bytes whole).2 in
    (is.0, omega (arith, long, twice), is.1)

pub sized_not_refused : (text bytes : List ℕ) (n : ℕ) (e : FromHexError) → IsBytes bytes → length bytes ≡ n → text ≡ encode_lower bytes → decode_sized text n ≡ Err e → ⊥
sized_not_refused text bytes n e h long same refused =
    let is : decode_sized text n ≡ Ok bytes = rw same (decode_sized-encode_lower bytes n long h) in
    let P : Result (List ℕ) FromHexError → Type 0 = λ r. MatchResult r (λ _. Unit {0}) (λ _. ⊥) in
    subst P (sym is ∙ refused) tt

-- ---- the bytes of digits, two by two

abbrev value_kept : ℕ → Bool
value_kept c = if is_lower_hex c then (nat_le (c % 16 + 9 * (c / 64)) 15 && slice_index lower_digits (c % 16 + 9 * (c / 64)) == c) else true

abbrev all_values : ℕ → Bool
all_values zero = true
all_values (suc n) = value_kept n && all_values n

all_values-at : (n k : ℕ) → all_values n ≡ true → k < n → value_kept k ≡ true
all_values-at zero k h lt = absurd (omega arith)
all_values-at (suc n) k h lt =
    let parts = and_parts (value_kept n) (all_values n) h in
    elim (cases_lt k n) [
      | inl below ↦ all_values-at n k parts.1 below
      | inr top ↦ let e : k ≡ n = omega arith in rw e parts.0
    ]

value_parts : (c : ℕ) → is_lower_hex c ≡ true → (nat_le (c % 16 + 9 * (c / 64)) 15 ≡ true) × ((slice_index lower_digits (c % 16 + 9 * (c / 64)) == c) ≡ true)
value_parts c lower =
    let small : c < 103 = grind (arith, nat_tests) in
    let kept = all_values-at 103 c refl small in
    and_parts _ _ (rw lower at kept)

pub value_small : (c : ℕ) → is_lower_hex c ≡ true → c % 16 + 9 * (c / 64) < 16
value_small c lower = let it = (value_parts c lower).0 in grind (arith, nat_tests)

pub value_digit : (c : ℕ) → is_lower_hex c ≡ true → slice_index lower_digits (c % 16 + 9 * (c / 64)) ≡ c
value_digit c lower = eqb-true _ c (value_parts c lower).1

encode_more : (bytes : List ℕ) (b : ℕ) → encode_lower (bytes ++ b ∷ []) ≡ encode_lower bytes ++ slice_index lower_digits (b / 16) ∷ slice_index lower_digits (b % 16) ∷ []
unfolding encode_with
encode_more [] b = refl
encode_more (x ∷ xs) b = rw (encode_more xs b) refl

pub pair_more : (text bytes : List ℕ) (i high low : ℕ) → 2 * i + 1 < length text → high < 16 → low < 16 → slice_index lower_digits high ≡ slice_index text (2 * i) → slice_index lower_digits low ≡ slice_index text (2 * i + 1)
    → encode_lower bytes ++ drop (2 * i) text ≡ text → encode_lower (bytes ++ (16 * high + low) ∷ []) ++ drop (2 * (i + 1)) text ≡ text
pair_more text bytes i high low within h l is_high is_low so_far =
    let first = drop_more text (2 * i) 0 (omega (arith, within)) in
    let second = drop_more text (2 * i + 1) 0 within in
    let up : (16 * high + low) / 16 ≡ high = omega (arith, h, l) in
    let down : (16 * high + low) % 16 ≡ low = omega (arith, h, l) in
    let next : 2 * i + 1 + 1 ≡ 2 * (i + 1) = omega arith in
    rw (encode_more, up, down, is_high, is_low, append_assoc) (rw (first, second, next) at so_far)

pub pairs_all : (text encoded : List ℕ) (n : ℕ) → length text ≤ n → encoded ++ drop n text ≡ text → text ≡ encoded
pairs_all text encoded n all so_far = sym so_far ∙ ap (λ (xs : List ℕ). encoded ++ xs) (drop_all n text all) ∙ append-nil encoded

pub no_pairs : (text : List ℕ) → encode_lower [] ++ text ≡ text
unfolding encode_with
no_pairs text = refl

pub IsBytes-more : (xs : List ℕ) (b : ℕ) → IsBytes xs → b < 256 → IsBytes (xs ++ b ∷ [])
IsBytes-more [] b all small zero = small
IsBytes-more [] b all small (suc i) = omega arith
IsBytes-more (x ∷ xs) b all small zero = all 0
IsBytes-more (x ∷ xs) b all small (suc i) = IsBytes-more xs b (λ k. all (suc k)) small i

-- digits for whole bytes
pub encoded_even : (bytes text : List ℕ) → text ≡ encode_lower bytes → length text % 2 ≡ 0
encoded_even bytes text same = rw (same, length-encoded bytes) (omega arith)
