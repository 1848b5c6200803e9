-- Blocks of a body as pieces of it.
use Rattle.std.proofs.Common.{◌≡◌, ℕ, ◌-◌, ◌*◌, ◌≤◌, List, [], ◌++◌, length, take, drop, ◌∙◌, ap, refl, arith, rules, length-append, length-take}
use Rattle.std.specs.Prelude.{replicate, min}
use Rattle.std.proofs.lemmas.List.{same_lists, places, length-drop, length-replicate}
use Rattle.hsm_types.specs.Limits.{block_bytes}
use Rattle.file_body.specs.BodyBlocks.{block_of}

-- a front of a list, with zeros up to a length
filled : (n count : ℕ) (l : List ℕ) → count ≡ min n (length l) → take count l ++ replicate (n - count) 0 ≡ take n (l ++ replicate n 0)
filled n count l is = same_lists _ _ (search (rules, places)) (λ i d h. grind (arith, places))

-- the bytes of a block that a body has, and zeros
pub block_is : (body piece : List ℕ) (block at : ℕ) → at ≡ block_bytes * block → length piece ≡ min (length body - at) block_bytes → piece ≡ take (length piece) (drop at body) → piece ++ replicate (block_bytes - length piece) 0 ≡ block_of body block
unfolding block_of
block_is body piece block at there len is =
    ap (λ (p : List ℕ). p ++ replicate (block_bytes - length piece) 0) is ∙ filled block_bytes (length piece) (drop at body) (omega (arith, length-drop at body))
    ∙ ap (λ (n : ℕ). take block_bytes (drop n body ++ replicate block_bytes 0)) there

-- a block past the body's end
pub block_none : (body : List ℕ) (block : ℕ) → length body ≤ block_bytes * block → replicate block_bytes 0 ≡ block_of body block
block_none body block past = block_is body [] block (block_bytes * block) refl (omega arith) refl

-- each block has all its bytes
pub length-block_of : (body : List ℕ) (block : ℕ) → length (block_of body block) ≡ block_bytes
unfolding block_of
length-block_of body block = whole block_bytes (drop (block_bytes * block) body)
  where
    whole : (n : ℕ) (l : List ℕ) → length (take n (l ++ replicate n 0)) ≡ n
    whole n l = omega (arith, length-take n (l ++ replicate n 0), length-append l (replicate n 0), length-replicate {A = ℕ} n 0)
