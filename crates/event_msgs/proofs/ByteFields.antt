-- Fields of some bytes, from left to right.
use Rattle.std.proofs.Common.{◌≡◌, ℕ, ◌+◌, ◌<◌, ◌≤◌, ◌^◌, List, ◌++◌, length, get_or, take, drop, sym, ap, ◌∙◌, append_assoc, arith, inl, inr}
use Rattle.std.proofs.lemmas.Bool.{cases_lt}
use Rattle.std.proofs.lemmas.List.{take-append-drop, length-take, length-drop, get_or-drop, get_or-take, get_or_past, drop-drop, take_all}
use Rattle.std.proofs.lemmas.Nat.{be_bytes_4, be_bytes_8}
use Rattle.byteorder.specs.Endian.{big_bytes, big_number}
use Rattle.byteorder.specs.Numbers.{big_from-take, big_from-lt}

abbrev pub IsBytes : List ℕ → Type 0
IsBytes bytes = (i : ℕ) → get_or bytes i 0 < 256

pub IsBytes-drop : (n : ℕ) (bytes : List ℕ) → IsBytes bytes → IsBytes (drop n bytes)
IsBytes-drop n bytes are i = rw get_or-drop (are (n + i))

pub IsBytes-take : (n : ℕ) (bytes : List ℕ) → IsBytes bytes → IsBytes (take n bytes)
IsBytes-take n bytes are i =
    elim (cases_lt i n) [
      | inl lt ↦ rw (get_or-take n bytes i 0 lt) (are i)
      | inr le ↦ rw (get_or_past (take n bytes) i 0 (omega (arith, length-take n bytes))) (omega arith)
    ]

-- the number in front has these bytes
pub spelled4 : (bytes : List ℕ) → IsBytes bytes → 4 ≤ length bytes → big_bytes 4 (big_number 4 bytes) ≡ take 4 bytes
spelled4 bytes are long = ap (big_bytes 4) (sym (big_from-take 0 4 4 bytes (omega arith))) ∙ be_bytes_4 (take 4 bytes) _ (omega (arith, length-take 4 bytes)) (IsBytes-take 4 bytes are) (omega arith)

pub spelled8 : (bytes : List ℕ) → IsBytes bytes → 8 ≤ length bytes → big_bytes 8 (big_number 8 bytes) ≡ take 8 bytes
spelled8 bytes are long = ap (big_bytes 8) (sym (big_from-take 0 8 8 bytes (omega arith))) ∙ be_bytes_8 (take 8 bytes) _ (omega (arith, length-take 8 bytes)) (IsBytes-take 8 bytes are) (omega arith)

pub number_at4 : (k : ℕ) (bytes : List ℕ) → IsBytes bytes → k + 4 ≤ length bytes → big_bytes 4 (big_number 4 (drop k bytes)) ≡ take 4 (drop k bytes)
number_at4 k bytes are long = spelled4 (drop k bytes) (IsBytes-drop k bytes are) (omega (arith, length-drop k bytes))

pub number_at8 : (k : ℕ) (bytes : List ℕ) → IsBytes bytes → k + 8 ≤ length bytes → big_bytes 8 (big_number 8 (drop k bytes)) ≡ take 8 (drop k bytes)
number_at8 k bytes are long = spelled8 (drop k bytes) (IsBytes-drop k bytes are) (omega (arith, length-drop k bytes))

pub below8 : (k : ℕ) (bytes : List ℕ) → IsBytes bytes → big_number 8 (drop k bytes) < 2 ^ 64
below8 k bytes are = omega (arith, big_from-lt 0 8 (drop k bytes) (IsBytes-drop k bytes are))

-- a field and the bytes behind it
pub field : (k n : ℕ) (bytes : List ℕ) → take n (drop k bytes) ++ drop (k + n) bytes ≡ drop k bytes
field k n bytes = ap (λ (l : List ℕ). take n (drop k bytes) ++ l) (sym (drop-drop n k bytes)) ∙ take-append-drop n (drop k bytes)

pub assoc3 : (a b c r : List ℕ) → ((a ++ b) ++ c) ++ r ≡ a ++ (b ++ (c ++ r))
assoc3 a b c r = simp append_assoc

assoc4 : (a b c d r : List ℕ) → (((a ++ b) ++ c) ++ d) ++ r ≡ a ++ (b ++ (c ++ (d ++ r)))
assoc4 a b c d r = simp append_assoc

pub assoc5 : (a b c d e r : List ℕ) → ((((a ++ b) ++ c) ++ d) ++ e) ++ r ≡ a ++ (b ++ (c ++ (d ++ (e ++ r))))
assoc5 a b c d e r = simp append_assoc

-- the fields of a header, and the bytes behind it
pub header_fields : (bytes : List ℕ)
    → ((((take 4 bytes ++ take 4 (drop 4 bytes)) ++ take 8 (drop 8 bytes)) ++ take 4 (drop 16 bytes)) ++ take 4 (drop 20 bytes)) ++ drop 24 bytes ≡ bytes
header_fields bytes =
    let a = take 4 bytes in
    let b = take 4 (drop 4 bytes) in
    let c = take 8 (drop 8 bytes) in
    let d = take 4 (drop 16 bytes) in
    assoc5 a b c d (take 4 (drop 20 bytes)) (drop 24 bytes)
    ∙ ap (λ (l : List ℕ). a ++ (b ++ (c ++ (d ++ l)))) (field 20 4 bytes)
    ∙ ap (λ (l : List ℕ). a ++ (b ++ (c ++ l))) (field 16 4 bytes)
    ∙ ap (λ (l : List ℕ). a ++ (b ++ l)) (field 8 8 bytes)
    ∙ ap (λ (l : List ℕ). a ++ l) (field 4 4 bytes)
    ∙ take-append-drop 4 bytes

-- the fields of an access: a handle and two numbers
pub access_fields : (bytes : List ℕ) → length bytes ≡ 40
    → (((take 8 bytes ++ take 8 (drop 8 bytes)) ++ take 8 (drop 16 bytes)) ++ take 8 (drop 24 bytes)) ++ take 8 (drop 32 bytes) ≡ bytes
access_fields bytes long =
    let a = take 8 bytes in
    let b = take 8 (drop 8 bytes) in
    let c = take 8 (drop 16 bytes) in
    let d = take 8 (drop 24 bytes) in
    assoc4 a b c d (take 8 (drop 32 bytes))
    ∙ ap (λ (l : List ℕ). a ++ (b ++ (c ++ (d ++ l)))) (take_all 8 (drop 32 bytes) (omega (arith, length-drop 32 bytes)))
    ∙ ap (λ (l : List ℕ). a ++ (b ++ (c ++ l))) (field 24 8 bytes)
    ∙ ap (λ (l : List ℕ). a ++ (b ++ l)) (field 16 8 bytes)
    ∙ ap (λ (l : List ℕ). a ++ l) (field 8 8 bytes)
    ∙ take-append-drop 8 bytes
