-- The bytes of a body by blocks.
use Rattle.std.specs.Prelude.{ℕ, ◌*◌, List, ◌++◌, take, drop, replicate}
use Rattle.hsm_types.specs.Limits.{block_bytes}

-- a block of a body, with zeros past the body's end
unfoldable pub block_of : List ℕ → ℕ → List ℕ
block_of body block = take block_bytes (drop (block_bytes * block) body ++ replicate block_bytes 0)
