-- The bytes of bodies that are written, resized and read.
use Rattle.std.proofs.Common.{◌≡◌, ◌≤◌, ◌<◌, ◌+◌, ◌-◌, ℕ, min, max, List, ◌++◌, length, get_or, take, drop, replicate, sym, ◌∙◌, ap, ⊎_elim, arith}
use Rattle.std.proofs.lemmas.List.{length-take, length-drop, length-append, length-replicate, get_or-replicate, get_or_append_left}
use Rattle.std.proofs.lemmas.List.{get_or-append_right, get_or-take, get_or-drop, get_or_past, ext_get_or}
use Rattle.std.proofs.lemmas.Bool.{cases_lt}
use Rattle.plain_model.specs.Plain.{read_at, written, resized}

pub length-resized : (n : ℕ) (body : List ℕ) → length (resized n body) ≡ n
length-resized n body = omega (arith, length-append (take n body) (replicate (n - length body) 0), length-take n body, length-replicate {A = ℕ} (n - length body) 0)

resized_high : (n : ℕ) (body : List ℕ) (i : ℕ) → n ≤ i → get_or (resized n body) i 0 ≡ 0
resized_high n body i high = get_or_past (resized n body) i 0 (omega (arith, length-resized n body))

pub resized_low : (n : ℕ) (body : List ℕ) (i : ℕ) → i < n → get_or (resized n body) i 0 ≡ get_or body i 0
resized_low n body i low =
    ⊎_elim
    (λ (there : i < length body). get_or_append_left (take n body) (replicate (n - length body) 0) 0 i (omega (arith, length-take n body)) ∙ get_or-take n body i 0 low)
    (λ (past : length body ≤ i).
    get_or-append_right (take n body) (replicate (n - length body) 0) (length body) i 0 (omega (arith, length-take n body)) past ∙ (get_or-replicate (n - length body) (i - length body) 0 0 (omega arith) ∙ sym (get_or_past body i 0 past)))
    (cases_lt i (length body))

pub length-written : (o : ℕ) (bytes body : List ℕ) → length (written o bytes body) ≡ max (length body) (o + length bytes)
length-written o bytes body =
    omega (arith, length-append (resized o body ++ bytes) (drop (o + length bytes) body), length-append (resized o body) bytes, length-resized o body, length-drop (o + length bytes) body)

pub written_low : (o : ℕ) (bytes body : List ℕ) (i : ℕ) → i < o → get_or (written o bytes body) i 0 ≡ get_or body i 0
written_low o bytes body i low =
    get_or_append_left (resized o body ++ bytes) (drop (o + length bytes) body) 0 i (omega (arith, length-append (resized o body) bytes, length-resized o body))
    ∙ (get_or_append_left (resized o body) bytes 0 i (omega (arith, length-resized o body)) ∙ resized_low o body i low)

pub written_in : (o : ℕ) (bytes body : List ℕ) (i : ℕ) → o ≤ i → i < o + length bytes → get_or (written o bytes body) i 0 ≡ get_or bytes (i - o) 0
written_in o bytes body i low high =
    get_or_append_left (resized o body ++ bytes) (drop (o + length bytes) body) 0 i (omega (arith, length-append (resized o body) bytes, length-resized o body))
    ∙ get_or-append_right (resized o body) bytes o i 0 (length-resized o body) low

pub written_high : (o : ℕ) (bytes body : List ℕ) (i : ℕ) → o + length bytes ≤ i → get_or (written o bytes body) i 0 ≡ get_or body i 0
written_high o bytes body i high =
    get_or-append_right (resized o body ++ bytes) (drop (o + length bytes) body) (o + length bytes) i 0 (omega (arith, length-append (resized o body) bytes, length-resized o body)) high
    ∙ (get_or-drop (o + length bytes) body (i - (o + length bytes)) 0 ∙ ap (λ n. get_or body n 0) (omega arith))

-- two bodies that agree at a byte agree there after the same change
pub written_agree : (o : ℕ) (bytes b c : List ℕ) (i : ℕ) → get_or b i 0 ≡ get_or c i 0 → get_or (written o bytes b) i 0 ≡ get_or (written o bytes c) i 0
written_agree o bytes b c i same =
    ⊎_elim (λ (low : i < o). written_low o bytes b i low ∙ (same ∙ sym (written_low o bytes c i low)))
    (λ (from : o ≤ i).
    ⊎_elim (λ (here : i < o + length bytes). written_in o bytes b i from here ∙ sym (written_in o bytes c i from here)) (λ (high : o + length bytes ≤ i). written_high o bytes b i high ∙ (same ∙ sym (written_high o bytes c i high)))
    (cases_lt i (o + length bytes))) (cases_lt i o)

pub resized_agree : (n : ℕ) (b c : List ℕ) (i : ℕ) → (i < n → get_or b i 0 ≡ get_or c i 0) → get_or (resized n b) i 0 ≡ get_or (resized n c) i 0
resized_agree n b c i same =
    ⊎_elim (λ (low : i < n). resized_low n b i low ∙ (same low ∙ sym (resized_low n c i low))) (λ (high : n ≤ i). resized_high n b i high ∙ sym (resized_high n c i high)) (cases_lt i n)

-- ---- what is read

pub length-read : (o n : ℕ) (b : List ℕ) → length (read_at o n b) ≡ min n (length b - o)
length-read o n b = omega (arith, length-take n (drop o b), length-drop o b)

pub get-read : (o n : ℕ) (b : List ℕ) (i : ℕ) → i < n → get_or (read_at o n b) i 0 ≡ get_or b (o + i) 0
get-read o n b i low = get_or-take n (drop o b) i 0 low ∙ get_or-drop o b i 0

-- the same is read of two bodies that agree there
pub read_same : (o n : ℕ) (b c : List ℕ) → min n (length b - o) ≡ min n (length c - o) → ((i : ℕ) → o ≤ i → i < o + n → i < length b → get_or b i 0 ≡ get_or c i 0) → read_at o n b ≡ read_at o n c
read_same o n b c sizes same =
    ext_get_or 0 (read_at o n b) (read_at o n c) (length-read o n b ∙ (sizes ∙ sym (length-read o n c)))
    (λ i low. let within : i < min n (length b - o) = omega (arith, low, length-read o n b) in get-read o n b i (omega arith) ∙ (same (o + i) (omega arith) (omega arith) (omega arith) ∙ sym (get-read o n c i (omega arith))))

-- what is read and written again where it stood leaves the body
pub rewritten : (o n : ℕ) (body : List ℕ) → o ≤ length body → written o (read_at o n body) body ≡ body
rewritten o n body within =
    ext_get_or 0 (written o (read_at o n body) body) body (omega (arith, length-written o (read_at o n body) body, length-read o n body))
    (λ i low.
    ⊎_elim (λ (before : i < o). written_low o (read_at o n body) body i before)
    (λ (from : o ≤ i).
    ⊎_elim (λ (here : i < o + length (read_at o n body)).
    written_in o (read_at o n body) body i from here ∙ (get-read o n body (i - o) (omega (arith, length-read o n body)) ∙ ap (λ m. get_or body m 0) (omega arith)))
    (λ (high : o + length (read_at o n body) ≤ i). written_high o (read_at o n body) body i high) (cases_lt i (o + length (read_at o n body)))) (cases_lt i o))
