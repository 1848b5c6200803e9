-- Numbers in decimal.
use Rattle.std.proofs.Common.{◌≡◌, ℕ, zero, suc, ◌+◌, ◌*◌, ◌^◌, ◌<◌, ◌≤◌, List, [], ◌∷◌, length, get_or, drop, Option, Some, None, refl, arith, add-one}
use Rattle.std.proofs.Common.{drop-cons}
use Rattle.std.specs.Char.{digit_value}
use Rattle.std.specs.Fmt.{decimal}
use Rattle.std.specs.Option.{SomeIff}
use Rattle.std.specs.Str.Parse.{AllDigits, digits_value, digits_value_after}
use Rattle.std.proofs.lemmas.List.{drop_all}
use Rattle.std.proofs.lemmas.Fmt.{decimal_is_IsNumeral, decimal-digits_value, first_decimal, decimal_digit}
use Rattle.std.proofs.lemmas.Str.Parse.{IsNumeralModel, numerals_by_value, tells_digits}
use Rattle.script_text.specs.Reading.{Reads, IsNumber, Lacks}

-- ---- the loop over digits

after_least : (n : ℕ) (ds : List ℕ) → n ≤ digits_value_after 10 n ds
after_least n [] = omega arith
after_least n (d ∷ ds) = let more = after_least (n * 10 + digit_value d) ds in omega arith

-- what the loop keeps: the digits at i stand for the whole
pub record IsRead (digits : List ℕ) (value i : ℕ) : Type 0 where
  pub value_is : digits_value_after 10 value (drop i digits) ≡ digits_value 10 digits
  pub back : AllDigits 10 (drop i digits) → AllDigits 10 digits
  pub front : AllDigits 10 digits → AllDigits 10 (drop i digits)
  pub small : value < 2 ^ 64

pub IsRead-stops : (digits : List ℕ) (value i d : ℕ) → i < length digits → d ≡ get_or digits i 0 → IsRead digits value i → ¬ ((digit_value d < 10) × (value * 10 + digit_value d < 2 ^ 64)) → ¬ (AllDigits 10 digits × (digits_value 10 digits < 2 ^ 64))
IsRead-stops digits value i d lt is r unfit h =
    let at : drop i digits ≡ d ∷ drop (i + 1) digits = rw (is, add-one i) (drop-cons digits i 0 lt) in
    let is_digit = (rw at at (r.front h.0)).0 in
    let least = after_least (value * 10 + digit_value d) (drop (i + 1) digits) in
    let whole = rw at at r.value_is in
    unfit (is_digit, omega arith)

pub IsRead-end : (digits : List ℕ) (value i : ℕ) → length digits ≤ i → IsRead digits value i → (AllDigits 10 digits × (digits_value 10 digits < 2 ^ 64)) × (value ≡ digits_value 10 digits)
IsRead-end digits value i end r =
    let none : drop i digits ≡ [] = drop_all i digits end in
    let is : value ≡ digits_value 10 digits = rw none at r.value_is in
    let back : AllDigits 10 [] → AllDigits 10 digits = rw none at r.back in
    ((back tt, rw (← is) r.small), is)

-- ---- the one spelling of a number

pub own : IsNumeralModel (AllDigits 10) (digits_value 10)
own = numerals_by_value (AllDigits 10) tells_digits

-- digits with no zero in front
pub number_reads : (word : List ℕ) (read : Option ℕ) → 0 < length word → (get_or word 0 0 ≡ 48 → length word ≡ 1) → SomeIff read (AllDigits 10 word × (digits_value 10 word < 2 ^ 64)) (digits_value 10 word) → Reads decimal IsNumber word read
number_reads word None many plain h = λ n small same.
    let is = decimal_is_IsNumeral n small in
    h (rw same is.0.1, rw (same, is.1) small)
number_reads word (Some n) many plain h =
    let spelled : decimal (digits_value 10 word) ≡ word = decimal-digits_value own word h.0.0 many plain h.0.1 in
    (rw h.1 h.0.1, rw (h.1, spelled) refl)

-- no number is spelled by nothing, or by more digits than one with a zero in front
pub decimal_many : (n : ℕ) → n < 2 ^ 64 → 0 < length (decimal n)
decimal_many n small = (decimal_is_IsNumeral n small).0.0

pub decimal_plain : (n : ℕ) → n < 2 ^ 64 → get_or (decimal n) 0 0 ≡ 48 → length (decimal n) ≡ 1
decimal_plain zero small zero_first = rw (decimal_digit 0 (omega arith)) refl
decimal_plain (suc n) small zero_first = absurd (omega (arith, first_decimal (suc n) (omega arith) small))

-- ---- what is in it

pub Lacks-digits : (b : ℕ) (ds : List ℕ) → 10 ≤ digit_value b → AllDigits 10 ds → Lacks b ds
Lacks-digits b [] other h = tt
Lacks-digits b (d ∷ ds) other h = ((λ same. let wrong : digit_value b < 10 = rw same at h.0 in absurd (omega arith)), Lacks-digits b ds other h.1)

pub decimal_digits : (n : ℕ) → n < 2 ^ 64 → AllDigits 10 (decimal n)
decimal_digits n small = (decimal_is_IsNumeral n small).0.1

pub Lacks-decimal : (b n : ℕ) → 10 ≤ digit_value b → n < 2 ^ 64 → Lacks b (decimal n)
Lacks-decimal b n other small = Lacks-digits b (decimal n) other (decimal_digits n small)

pub digits_value-decimal : (n : ℕ) → n < 2 ^ 64 → digits_value 10 (decimal n) ≡ n
digits_value-decimal n small = (decimal_is_IsNumeral n small).1
