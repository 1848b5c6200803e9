-- Which segments a range meets, and the bytes of those that a change of a body doesn't meet.
use Rattle.std.proofs.Common.{◌≡◌, ◌≤◌, ◌<◌, ◌+◌, ◌-◌, ◌*◌, ℕ, min, max, List, length, get_or, Bool, true, false, refl, sym, ◌∙◌, ap, ⊎_elim, arith}
use Rattle.std.proofs.lemmas.List.{ext_get_or}
use Rattle.std.proofs.lemmas.Bool.{false≢true, cases_lt, lt-ltb, ltb-true}
use Rattle.std.specs.Prelude.{◌&&◌, nat_lt}
use Rattle.hsm_types.specs.Limits.{segment_bytes}
use Rattle.hsm_types.specs.Segments.{meets_segment}
use Rattle.plain_model.specs.Plain.{written, resized, segment}
use Rattle.plain_model.proofs.Bodies.{length-resized, resized_low, length-written, written_low, written_in, written_high, length-read, get-read, read_same}

pub meets_true : (from to j : ℕ) → from < to → from < segment_bytes * j + segment_bytes → segment_bytes * j < to → meets_segment from to j ≡ true
meets_true from to j some low high = rw (lt-ltb from to some, lt-ltb from (segment_bytes * j + segment_bytes) low, lt-ltb (segment_bytes * j) to high) refl

all_three : (p q r : Bool) → (p && q && r) ≡ true → (p ≡ true) × (q ≡ true) × (r ≡ true)
all_three true true true is = (refl, refl, refl)
all_three true true false is = cc
all_three true false r is = cc
all_three false q r is = cc

pub meets_parts : (from to j : ℕ) → meets_segment from to j ≡ true → (from < to) × (from < segment_bytes * j + segment_bytes) × (segment_bytes * j < to)
meets_parts from to j is =
    let parts = all_three (nat_lt from to) (nat_lt from (segment_bytes * j + segment_bytes)) (nat_lt (segment_bytes * j) to) is in
    (ltb-true from to parts.0, ltb-true from (segment_bytes * j + segment_bytes) parts.1, ltb-true (segment_bytes * j) to parts.2)

-- a range that has bytes, reaches the segment and doesn't meet it begins behind it
pub behind : (from to j : ℕ) → meets_segment from to j ≡ false → from < to → segment_bytes * j < to → segment_bytes * j + segment_bytes ≤ from
behind from to j none some high =
    ⊎_elim (λ (low : from < segment_bytes * j + segment_bytes). absurd (false≢true (sym none ∙ meets_true from to j some low high))) (λ (is : segment_bytes * j + segment_bytes ≤ from). is) (cases_lt from (segment_bytes * j + segment_bytes))

-- a byte of a segment that a write doesn't meet isn't written
not_here : (o n size j i : ℕ) → meets_segment (min o size) (o + n) j ≡ false → segment_bytes * j ≤ i → i < segment_bytes * j + segment_bytes → o ≤ i → i < o + n → ⊥
not_here o n size j i none from to after here = let below = behind (min o size) (o + n) j none (omega arith) (omega arith) in omega arith

pub written_apart : (o : ℕ) (bytes body : List ℕ) (j : ℕ) → meets_segment (min o (length body)) (o + length bytes) j ≡ false → segment j (written o bytes body) ≡ segment j body
written_apart o bytes body j none =
    read_same (segment_bytes * j) segment_bytes (written o bytes body) body
    (⊎_elim
    (λ (high : segment_bytes * j < o + length bytes).
    ⊎_elim (λ (some : min o (length body) < o + length bytes). let below = behind (min o (length body)) (o + length bytes) j none some high in omega (arith, length-written o bytes body))
    (λ (empty : o + length bytes ≤ min o (length body)). omega (arith, length-written o bytes body)) (cases_lt (min o (length body)) (o + length bytes)))
    (λ (low : o + length bytes ≤ segment_bytes * j). omega (arith, length-written o bytes body)) (cases_lt (segment_bytes * j) (o + length bytes)))
    (λ i from to within.
    ⊎_elim (λ (before : i < o). written_low o bytes body i before)
    (λ (after : o ≤ i).
    ⊎_elim (λ (here : i < o + length bytes). absurd (not_here o (length bytes) (length body) j i none from to after here)) (λ (beyond : o + length bytes ≤ i). written_high o bytes body i beyond)
    (cases_lt i (o + length bytes))) (cases_lt i o))

pub resized_apart : (n : ℕ) (body : List ℕ) (j : ℕ) → meets_segment (min n (length body)) (max n (length body)) j ≡ false → segment j (resized n body) ≡ segment j body
resized_apart n body j none =
    read_same (segment_bytes * j) segment_bytes (resized n body) body
    (⊎_elim
    (λ (high : segment_bytes * j < max n (length body)).
    ⊎_elim (λ (some : min n (length body) < max n (length body)). let below = behind (min n (length body)) (max n (length body)) j none some high in omega (arith, length-resized n body))
    (λ (empty : max n (length body) ≤ min n (length body)). omega (arith, length-resized n body)) (cases_lt (min n (length body)) (max n (length body))))
    (λ (low : max n (length body) ≤ segment_bytes * j). omega (arith, length-resized n body)) (cases_lt (segment_bytes * j) (max n (length body))))
    (λ i from to within. resized_low n body i (omega (arith, length-resized n body)))

-- ---- a segment whose bytes are written again

-- it has these bytes
pub restored_segment : (j : ℕ) (bytes body : List ℕ) → length bytes ≡ min segment_bytes (length body - segment_bytes * j) → segment j (written (segment_bytes * j) bytes body) ≡ bytes
restored_segment j bytes body len =
    ext_get_or 0 (segment j (written (segment_bytes * j) bytes body)) bytes (omega (arith, length-read (segment_bytes * j) segment_bytes (written (segment_bytes * j) bytes body), length-written (segment_bytes * j) bytes body))
    (λ i low.
    let short : i < length bytes = omega (arith, low, length-read (segment_bytes * j) segment_bytes (written (segment_bytes * j) bytes body), length-written (segment_bytes * j) bytes body) in
    get-read (segment_bytes * j) segment_bytes (written (segment_bytes * j) bytes body) i (omega arith) ∙ written_in (segment_bytes * j) bytes body (segment_bytes * j + i) (omega arith) (omega arith) ∙ ap (λ n. get_or bytes n 0) (omega arith))

-- each other one has its own
pub restored_apart : (j q : ℕ) (bytes body : List ℕ) → length bytes ≤ segment_bytes → length (written (segment_bytes * j) bytes body) ≡ length body → (q ≡ j → ⊥) → segment q (written (segment_bytes * j) bytes body) ≡ segment q body
restored_apart j q bytes body short full other =
    read_same (segment_bytes * q) segment_bytes (written (segment_bytes * j) bytes body) body (ap (λ n. min segment_bytes (n - segment_bytes * q)) full)
    (λ i from to within.
    ⊎_elim (λ (before : i < segment_bytes * j). written_low (segment_bytes * j) bytes body i before)
    (λ (after : segment_bytes * j ≤ i). written_high (segment_bytes * j) bytes body i (⊎_elim (λ (lower : q < j). omega arith) (λ (at : j ≤ q). let above : j < q = beyond at in omega arith) (cases_lt q j))) (cases_lt i (segment_bytes * j)))
  where
    beyond : j ≤ q → j < q
    beyond le = ⊎_elim (λ (lt : j < q). lt) (λ (ge : q ≤ j). absurd (other (omega arith))) (cases_lt j q)
