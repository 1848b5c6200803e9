-- The zeros that stand for a segment.
use Rattle.std.proofs.Common.{◌≡◌, ℕ, ◌+◌, ◌-◌, List, ◌++◌, take, min, length, sym, ◌∙◌, ap, true, arith, rules}
use Rattle.std.specs.Prelude.{replicate}
use Rattle.std.proofs.lemmas.List.{same_lists, places, replicate-append-replicate}
use Rattle.file_body.specs.HeldBodies.{HeldSegment}

-- a segment of these bytes that is away
abbrev gone : List ℕ → HeldSegment
gone bytes = record { bytes = bytes; away = true }

-- a front of the zeros
pub zeros_kept : (count old : ℕ) → gone (replicate (min count old) 0) ≡ gone (take count (replicate old 0))
zeros_kept count old = ap gone (same_lists _ _ (search (rules, places)) (λ i d h. grind (arith, places)))

-- more zeros
pub zeros_grown : (end count old : ℕ) → end ≡ old + count → replicate {A = ℕ} end 0 ≡ replicate old 0 ++ replicate count 0
zeros_grown end count old is = ap (λ (n : ℕ). replicate {A = ℕ} n 0) is ∙ sym (replicate-append-replicate old count 0)

-- bytes that are lengthened
pub bytes_grown : (end size count : ℕ) (l : List ℕ) → size ≡ length l → end ≡ size + count → take end l ++ replicate (end - size) 0 ≡ l ++ replicate count 0
bytes_grown end size count l has is = same_lists _ _ (rw (is, has) (search (rules, places))) (λ i d h. rw (is, has) (grind (arith, places)))
