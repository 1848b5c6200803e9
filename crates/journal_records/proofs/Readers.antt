-- What is read is spelled so, and what is spelled so is read: for each reader of any format.
use Rattle.std.proofs.Common.{◌≡◌, ℕ, zero, suc, ◌+◌, ◌^◌, ◌<◌, ◌≤◌, false, ltb, List, [], ◌∷◌, ◌++◌, length, get_or, take, drop, Option, Some, refl}
use Rattle.std.proofs.Common.{sym, ap, ◌∙◌, append_assoc, arith}
use Rattle.std.specs.List.{flat_map, AllByRecursion}
use Rattle.std.specs.Option.{IfSome}
use Rattle.std.proofs.lemmas.Bool.{le-ltb}
use Rattle.std.proofs.lemmas.List.{take_at, drop_at, take-append-drop, length-append, length-take, get_or-drop, get_or_past}
use Rattle.std.proofs.lemmas.Grind.{common_steps}
use Rattle.std.proofs.lemmas.Nat.{be_bytes_2, be_bytes_4, be_bytes_8}
use Rattle.byteorder.specs.Endian.{big_bytes, big_number}
use Rattle.byteorder.specs.Numbers.{big_number-reads_back, big_from-lt, big_from-take, length-bytes_high_first}
use Rattle.journal_records.specs.Reading.{number_at, bytes_at, both, made, several, counted}

abbrev pub IsBytes : List ℕ → Type 0
IsBytes bytes = (i : ℕ) → get_or bytes i 0 < 256

pub IsBytes-drop : (n : ℕ) (bytes : List ℕ) → IsBytes bytes → IsBytes (drop n bytes)
IsBytes-drop n bytes h i = rw get_or-drop (h (n + i))

IsBytes-take : (n : ℕ) (bytes : List ℕ) → IsBytes bytes → IsBytes (take n bytes)
IsBytes-take n bytes h i = grind (arith, common_steps, h i, get_or_past (take n bytes) i 0, length-take n bytes)

-- a value that fits, of its text, and the bytes after it
pub record Takes {X : Type 0} (text : X → List ℕ) (Fit : X → Type 0) (bytes : List ℕ) (x : X × List ℕ) : Type 0 where
  pub parts : bytes ≡ text x.0 ++ x.1
  pub fit : Fit x.0
  pub rest : IsBytes x.1

-- The reader reads just the values that fit, each of its text.
pub record IsReader {X : Type 0} (reader : List ℕ → Option (X × List ℕ)) (text : X → List ℕ) (Fit : X → Type 0) : Type 0 where
  pub takes : (bytes : List ℕ) → IsBytes bytes → IfSome (reader bytes) (Takes text Fit bytes)
  pub again : (x : X) (rest : List ℕ) → Fit x → reader (text x ++ rest) ≡ Some (x, rest)

-- values that fit are described in another way
pub refit : {X : Type 0} {reader : List ℕ → Option (X × List ℕ)} {text : X → List ℕ} {F G : X → Type 0} → IsReader reader text F → ((x : X) → F x → G x) → ((x : X) → G x → F x) → IsReader reader text G
refit p to back = record {
  takes = λ bytes ok. grind (arith, p.takes bytes ok, to);
  again = λ x rest fit. p.again x rest (back x fit);
}

pub bytes_read : (n : ℕ) → IsReader (bytes_at n) (λ bytes. bytes) (λ bytes. (length bytes ≡ n) × Unit {0})
bytes_read n = record { takes = λ bytes ok. grind (arith, common_steps, IsBytes-drop n bytes ok, take-append-drop n bytes); again = λ x rest fit. grind (arith, take_at, drop_at, length-append x rest) }

-- the bytes of the number in n bytes are these
abbrev pub IsWide : ℕ → Type 0
IsWide n = (bytes : List ℕ) → length bytes ≡ n → IsBytes bytes → big_bytes n (big_number n bytes) ≡ bytes

pub wide1 : IsWide 1
wide1 (a ∷ []) len fits = ap (λ (x : ℕ). x ∷ []) (omega (arith, fits 0))
wide1 bytes len fits = absurd (omega arith)

pub wide2 : IsWide 2
wide2 bytes len fits = be_bytes_2 bytes _ len fits (omega arith)

pub wide4 : IsWide 4
wide4 bytes len fits = be_bytes_4 bytes _ len fits (omega arith)

pub wide8 : IsWide 8
wide8 bytes len fits = be_bytes_8 bytes _ len fits (omega arith)

pub number_reads : {n : ℕ} → IsWide n → IsReader (number_at n) (big_bytes n) (λ x. x < 256 ^ n)
number_reads {n} wide = record {
  takes = λ bytes ok.
      let front = λ (long : n ≤ length bytes). ap (big_bytes n) (sym (big_from-take 0 n n bytes (omega arith))) ∙ wide (take n bytes) (omega (arith, length-take n bytes)) (IsBytes-take n bytes ok) in
      grind (arith, front, IsBytes-drop n bytes ok, take-append-drop n bytes, big_from-lt 0 n bytes ok);
  again = λ x rest fit.
      let len = length-bytes_high_first n x in
      let long : ltb (length (big_bytes n x ++ rest)) n ≡ false = le-ltb _ _ (omega (arith, length-append (big_bytes n x) rest)) in
      rw (long, big_number-reads_back n x rest fit, drop_at (big_bytes n x) rest n len) refl;
}

module _ {A B : Type 0} {ra : List ℕ → Option (A × List ℕ)} {ta : A → List ℕ} {FA : A → Type 0} (p : IsReader ra ta FA) where
  pub both_read : {rb : List ℕ → Option (B × List ℕ)} {tb : B → List ℕ} {FB : B → Type 0} → IsReader rb tb FB → IsReader (both ra rb) (λ x. ta x.0 ++ tb x.1) (λ x. FA x.0 × FB x.1)
  unfolding both
  both_read {rb} {tb} {FB} q = record {
    takes = λ bytes ok. grind (arith, append_assoc, p.takes bytes ok, q.takes);
    again = λ x rest fit. grind (arith, append_assoc, p.again x.0 (tb x.1 ++ rest) fit.0, q.again x.1 rest fit.1);
  }

  -- a value made of what is read, which can be taken apart again
  pub made_reads : {make : A → B} {Fit : B → Type 0} (parts : B → A) → ((b : B) → make (parts b) ≡ b) → ((a : A) → parts (make a) ≡ a) → ((a : A) → FA a → Fit (make a)) → ((b : B) → Fit b → FA (parts b)) → IsReader (made make ra) (λ b. ta (parts b)) Fit
  unfolding made
  made_reads {make} {Fit} parts whole apart fits fits_back = record {
    takes = λ bytes ok. grind (arith, p.takes bytes ok, apart, fits);
    again = λ x rest fit. grind (arith, p.again (parts x) rest (fits_back x fit), whole x);
  }

module _ {X : Type 0} {reader : List ℕ → Option (X × List ℕ)} {text : X → List ℕ} {Fit : X → Type 0} (p : IsReader reader text Fit) where
  pub several_read : (n : ℕ) → IsReader (several reader n) (flat_map text) (λ xs. (length xs ≡ n) × AllByRecursion Fit xs)
  unfolding several
  several_read n = record { takes = taken n; again = again_all n }
    where
      taken : (k : ℕ) (bytes : List ℕ) → IsBytes bytes → IfSome (several reader k bytes) (Takes (flat_map text) (λ xs. (length xs ≡ k) × AllByRecursion Fit xs) bytes)
      taken zero bytes ok = record { parts = refl; fit = (refl, tt); rest = ok }
      taken (suc k) bytes ok = grind (arith, append_assoc, p.takes bytes ok, taken k)

      again_all : (k : ℕ) (xs : List X) (rest : List ℕ) → (length xs ≡ k) × AllByRecursion Fit xs → several reader k (flat_map text xs ++ rest) ≡ Some (xs, rest)
      again_all zero [] rest fit = refl
      again_all (suc k) (x ∷ xs) rest fit = rw (append_assoc (text x) (flat_map text xs) rest, p.again x (flat_map text xs ++ rest) fit.1.0, again_all k xs rest (omega arith, fit.1.1)) refl
      again_all k xs rest fit = absurd (omega arith)

-- a number, and as much as it says, which tells the number again
pub counted_reads : {X : Type 0} {reader : ℕ → List ℕ → Option (X × List ℕ)} {text : X → List ℕ} {Fit : X → Type 0} {n : ℕ} (count : X → ℕ) → IsWide n
    → ((k : ℕ) → IsReader (reader k) text (λ x. (count x ≡ k) × Fit x)) → IsReader (counted n reader) (λ x. big_bytes n (count x) ++ text x) (λ x. (count x < 256 ^ n) × Fit x)
unfolding counted
counted_reads {X} {reader} {text} {Fit} {n} count wide p = record {
  takes = λ bytes ok. let number = (number_reads wide).takes bytes ok in let value = λ (k : ℕ) (rest : List ℕ) (good : IsBytes rest). (p k).takes rest good in grind (arith, append_assoc, number, value);
  again = λ x rest fit. rw (append_assoc, (number_reads wide).again (count x) (text x ++ rest) fit.0, (p (count x)).again x rest (refl, fit.1)) refl;
}
