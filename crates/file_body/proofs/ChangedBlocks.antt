-- The blocks of a body that is written or resized.
use Rattle.std.proofs.Common.{◌≡◌, ⊎_elim, ℕ, ◌+◌, ◌-◌, ◌*◌, ◌<◌, ◌≤◌, List, ◌++◌, length, take, drop, min, get_or, sym, ◌∙◌, arith, rules}
use Rattle.std.proofs.Common.{length-append, length-take}
use Rattle.std.specs.Prelude.{replicate}
use Rattle.std.proofs.lemmas.Bool.{cases_lt}
use Rattle.std.proofs.lemmas.List.{same_lists, ext_get_or, get_or-take, get_or_append_left, places}
use Rattle.hsm_types.specs.Limits.{block_bytes}
use Rattle.plain_model.specs.Effects.{Resizes}
use Rattle.plain_model.specs.Plain.{written, resized, rebody}
use Rattle.file_body.specs.BodyBlocks.{block_of}

-- so many bytes from the start on, with zeros past the end
abbrev window : ℕ → ℕ → List ℕ → List ℕ
window start count body = take count (drop start body ++ replicate count 0)

length-window : (start count : ℕ) (body : List ℕ) → length (window start count body) ≡ count
length-window start count body = search (rules, places)

byte-window : (start count i : ℕ) (body : List ℕ) → i < count → get_or (window start count body) i 0 ≡ get_or body (start + i) 0
byte-window start count i body h = grind (arith, places)

-- ---- bytes put over others

-- bytes that begin at an offset, put over others that begin at a start, as far as they meet
abbrev pub overlaid : ℕ → ℕ → List ℕ → List ℕ → List ℕ
overlaid start offset bytes old = take (offset - start) old ++ take (length old - (offset - start)) (drop (start - offset) bytes) ++ drop (offset + length bytes - start) old

length-overlaid : (start offset : ℕ) (bytes old : List ℕ) → length (overlaid start offset bytes old) ≡ length old
length-overlaid start offset bytes old = search (rules, places)

overlaid_before : (start offset i : ℕ) (bytes old : List ℕ) → i < length old → start + i < offset → get_or (overlaid start offset bytes old) i 0 ≡ get_or old i 0
overlaid_before start offset i bytes old h low =
    let front : List ℕ = take (offset - start) old in
    let mid : List ℕ = take (length old - (offset - start)) (drop (start - offset) bytes) in
    let long : length front ≡ min (offset - start) (length old) = length-take (offset - start) old in
    get_or_append_left (front ++ mid) (drop (offset + length bytes - start) old) 0 i (omega (arith, length-append front mid))
    ∙ get_or_append_left front mid 0 i (omega arith)
    ∙ get_or-take (offset - start) old i 0 (omega arith)

overlaid_in : (start offset i : ℕ) (bytes old : List ℕ) → i < length old → offset ≤ start + i → start + i < offset + length bytes → get_or (overlaid start offset bytes old) i 0 ≡ get_or bytes (start + i - offset) 0
overlaid_in start offset i bytes old h low high = grind (arith, places)

overlaid_behind : (start offset i : ℕ) (bytes old : List ℕ) → i < length old → offset ≤ start + i → offset + length bytes ≤ start + i → get_or (overlaid start offset bytes old) i 0 ≡ get_or old i 0
overlaid_behind start offset i bytes old h low high = grind (arith, places)

-- ---- a body that is written

written_before : (offset k : ℕ) (bytes body : List ℕ) → k < offset → get_or (written offset bytes body) k 0 ≡ get_or body k 0
written_before offset k bytes body low = grind (arith, places)

written_in : (offset k : ℕ) (bytes body : List ℕ) → offset ≤ k → k < offset + length bytes → get_or (written offset bytes body) k 0 ≡ get_or bytes (k - offset) 0
written_in offset k bytes body low high = grind (arith, places)

written_behind : (offset k : ℕ) (bytes body : List ℕ) → offset + length bytes ≤ k → get_or (written offset bytes body) k 0 ≡ get_or body k 0
written_behind offset k bytes body high = grind (arith, places)

written_window : (start count offset : ℕ) (bytes body : List ℕ) → overlaid start offset bytes (window start count body) ≡ window start count (written offset bytes body)
written_window start count offset bytes body =
    let old : List ℕ = window start count body in
    let whole : length old ≡ count = length-window start count body in
    let same : length (overlaid start offset bytes old) ≡ length old = length-overlaid start offset bytes old in
    ext_get_or 0 (overlaid start offset bytes old) (window start count (written offset bytes body)) (same ∙ whole ∙ sym (length-window start count (written offset bytes body))) (λ i h.
    let l : i < count = omega arith in
    let m : i < length old = omega arith in
    let was = byte-window start count i body l in
    let is = byte-window start count i (written offset bytes body) l in
    ⊎_elim
    (λ (low : start + i < offset). overlaid_before start offset i bytes old m low ∙ was ∙ sym (is ∙ written_before offset (start + i) bytes body low))
    (λ (from : offset ≤ start + i).
    ⊎_elim
    (λ (met : start + i < offset + length bytes). overlaid_in start offset i bytes old m from met ∙ sym (is ∙ written_in offset (start + i) bytes body from met))
    (λ (high : offset + length bytes ≤ start + i). overlaid_behind start offset i bytes old m from high ∙ was ∙ sym (is ∙ written_behind offset (start + i) bytes body high))
    (cases_lt (start + i) (offset + length bytes)))
    (cases_lt (start + i) offset))

-- a block of a written body is that of the body with the bytes put over it
pub written-block : (offset : ℕ) (bytes body : List ℕ) (block : ℕ) → overlaid (block_bytes * block) offset bytes (block_of body block) ≡ block_of (written offset bytes body) block
unfolding block_of
written-block offset bytes body block = written_window (block_bytes * block) block_bytes offset bytes body

-- ---- a body that is resized

resized_window : (start count to : ℕ) (body : List ℕ) → length body ≤ to → window start count (resized to body) ≡ window start count body
resized_window start count to body longer = same_lists _ _ (search (rules, places)) (λ i d h. grind (arith, places))

-- zeros behind a body change none of its blocks
pub resized-block : (body : List ℕ) (to k : ℕ) → length body ≤ to → block_of (rebody (Resizes to) body) k ≡ block_of body k
unfolding block_of
resized-block body to k longer = resized_window (block_bytes * k) block_bytes to body longer
