-- Reading values one after the other, as a loop does.
use Rattle.std.proofs.Common.{◌≡◌, ℕ, suc, ◌-◌, ◌+◌, ◌≤◌, ◌<◌, List, [], ◌∷◌, ◌++◌, Option, Some, refl, append_assoc, append-nil, arith}
use Rattle.std.proofs.lemmas.List.{map-append}
use Rattle.journal_records.specs.Reading.{◌>>=◌, several}

-- what was read before, and what is still read
abbrev pub with_front : {A : Type 0} → List A → Option (List A × List ℕ) → Option (List A × List ℕ)
with_front front read = read >>= λ x. Some (front ++ x.0, x.1)

pub several_more : {A : Type 0} (front : List A) (reader : List ℕ → Option (A × List ℕ)) (count i : ℕ) (bytes : List ℕ) → i < count
    → with_front front (several reader (count - i) bytes) ≡ (reader bytes >>= λ x. with_front (front ++ x.0 ∷ []) (several reader (count - (i + 1)) x.1))
unfolding several
several_more front reader count i bytes lt =
    let k : count - i ≡ suc (count - (i + 1)) = omega arith in
    rw k (grind (arith, append_assoc))

pub several_done : {A : Type 0} (front : List A) (reader : List ℕ → Option (A × List ℕ)) (count i : ℕ) (bytes : List ℕ) → count ≤ i → with_front front (several reader (count - i) bytes) ≡ Some (front, bytes)
unfolding several
several_done front reader count i bytes le =
    let k : count - i ≡ 0 = omega arith in
    rw (k, append-nil front) refl

pub ruleset read_steps = (several_more, several_done, map-append)
