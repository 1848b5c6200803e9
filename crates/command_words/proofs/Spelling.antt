-- The one spelling of a number.
use Rattle.std.proofs.Common.{◌≡◌, ◌≢◌, ℕ, zero, suc, ◌^◌, ◌<◌, ◌&&◌, List, length, get_or, Some}
use Rattle.std.proofs.Common.{None, Result, Ok, Err, refl, sym, ap, ◌∙◌, inl, inr, nat_lt, arith}
use Rattle.std.specs.Fmt.{decimal}
use Rattle.std.specs.Result.{result_ok, OkIff}
use Rattle.std.specs.Str.{bytes_eq}
use Rattle.std.specs.Str.Parse.{AllDigits, ParsesUnsigned, digits_value}
use Rattle.std.proofs.lemmas.Bool.{cases_Bool, and_parts, ltb-true, lt-ltb}
use Rattle.std.proofs.lemmas.Fmt.{decimal_is_IsNumeral, decimal-digits_value, first_decimal, decimal_digit}
use Rattle.std.proofs.lemmas.Slice.Eq.{bytes_eq-Decides}
use Rattle.std.proofs.lemmas.Str.Parse.{IsNumeralModel, digit_at, numerals_by_value, parse_plain, tells_digits}
use Rattle.command_words.specs.Commands.{number_named}

own : IsNumeralModel (AllDigits 10) (digits_value 10)
own = numerals_by_value (AllDigits 10) tells_digits

none_named : (word : List ℕ) → ((n : ℕ) → n < 2 ^ 64 → word ≢ decimal n) → number_named word ≡ None
none_named word none =
    let n = digits_value 10 word in
    elim (cases_Bool (nat_lt n (2 ^ 64) && bytes_eq word (decimal n))) [
      | inl t ↦ let p = and_parts _ _ t in absurd (none n (ltb-true _ _ p.0) ((bytes_eq-Decides word (decimal n)).0 p.1))
      | inr f ↦ rw f refl
    ]

some_named : (word : List ℕ) → digits_value 10 word < 2 ^ 64 → decimal (digits_value 10 word) ≡ word → number_named word ≡ Some (digits_value 10 word)
some_named word small same =
    rw (lt-ltb (digits_value 10 word) (2 ^ 64) small, (bytes_eq-Decides word (decimal (digits_value 10 word))).1 (sym same)) refl

-- ---- spellings have a digit, no sign, and no zero in front

decimal_many : (n : ℕ) → n < 2 ^ 64 → 0 < length (decimal n)
decimal_many n small = (decimal_is_IsNumeral n small).0.0

decimal_unsigned : (n : ℕ) → n < 2 ^ 64 → get_or (decimal n) 0 0 ≢ 43
decimal_unsigned n small same =
    let digit = digit_at (decimal n) 0 (decimal_is_IsNumeral n small).0.1 (decimal_many n small) in
    omega (arith, digit)

decimal_plain : (n : ℕ) → n < 2 ^ 64 → get_or (decimal n) 0 0 ≡ 48 → length (decimal n) ≡ 1
decimal_plain zero small first = rw (decimal_digit 0 (omega arith)) refl
decimal_plain (suc n) small first = absurd (omega (arith, first_decimal (suc n) (omega arith) small))

abbrev pub IsPlain : List ℕ → Type 0
IsPlain word = (0 < length word) × (get_or word 0 0 ≢ 43) × (get_or word 0 0 ≡ 48 → length word ≡ 1)

pub unplain_named : (word : List ℕ) → ¬ (IsPlain word) → number_named word ≡ None
unplain_named word unplain = none_named word (λ n small same. unplain (rw same (decimal_many n small), rw same (decimal_unsigned n small), rw same (decimal_plain n small)))

pub plain_named : {E : Type 0} (word : List ℕ) (r : Result ℕ E) → IsPlain word → ParsesUnsigned 64 10 word r → result_ok r ≡ number_named word
plain_named {E} word r plain parsed = by_result r (parse_plain own 64 word r parsed plain.1)
  where
    by_result : (s : Result ℕ E) → OkIff s (AllDigits 10 word × (0 < length word) × (digits_value 10 word < 2 ^ 64)) (digits_value 10 word) → result_ok s ≡ number_named word
    by_result (Ok n) h =
        ap Some h.1 ∙ sym (some_named word h.0.2 (decimal-digits_value own word h.0.0 plain.0 plain.2 h.0.2))
    by_result (Err e) h = sym (none_named word (λ n small same.
        let is = decimal_is_IsNumeral n small in
        h (rw same is.0.1, plain.0, rw (same, is.1) small)))
