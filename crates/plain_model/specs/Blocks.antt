-- Blocks of `block_bytes`, `segment_blocks` to a segment: which of them an effect touches, and which are mapped after it.
use Rattle.std.specs.Prelude.{ℕ, ◌+◌, ◌-◌, ◌*◌, ◌/◌, ◌%◌, max, min, List, [], ◌∷◌, ◌++◌, length, take, drop, replicate, slice_set, Bool, true, false}
use Rattle.std.specs.Prelude.{◌==◌, ◌&&◌, nat_lt, if◌then◌else◌}
use Rattle.hsm_types.specs.Limits.{block_bytes, segment_bytes, segment_blocks}
pub use Rattle.hsm_types.specs.Segments.{from_on}
use Rattle.plain_model.specs.Effects.{Effect, Writes, Resizes, Punches, Restores}

-- how many blocks a body of that size has
abbrev pub blocks_in : ℕ → ℕ
blocks_in size = (size + (block_bytes - 1)) / block_bytes

-- the blocks that the bytes from the offset to the end meet
abbrev pub met : ℕ → ℕ → List ℕ
met offset end = from_on (offset / block_bytes) (blocks_in end - offset / block_bytes)

-- the block in which a body of that size ends, where it doesn't fill it
abbrev pub old_end : ℕ → List ℕ
old_end size = if size % block_bytes == 0 then [] else (size / block_bytes) ∷ []

-- the blocks that an effect touches of a file of that size: those that its bytes meet, and that of the old end where the file grows
abbrev pub touched : Effect → ℕ → List ℕ
touched (Writes offset bytes) size =
    if nat_lt size (offset + length bytes) && nat_lt (size / block_bytes) (offset / block_bytes)
    then old_end size ++ met offset (offset + length bytes)
    else met offset (offset + length bytes)
touched (Resizes to) size = if nat_lt size to then old_end size else []
touched (Restores j bytes) size = met (segment_bytes * j) (segment_bytes * j + length bytes)
touched effect size = []

-- the size after the effect
abbrev pub size_after : Effect → ℕ → ℕ
size_after (Writes offset bytes) size = max size (offset + length bytes)
size_after (Resizes to) size = to
size_after effect size = size

-- these blocks become mapped
abbrev pub with_mapped : List ℕ → List Bool → List Bool
with_mapped [] mapped = mapped
with_mapped (b ∷ bs) mapped = with_mapped bs (slice_set mapped b true)

-- as many blocks as a body of that size has: more of them are holes
abbrev pub fitted : ℕ → List Bool → List Bool
fitted size mapped = take (blocks_in size) mapped ++ replicate (blocks_in size - length mapped) false

-- for each block whether it is mapped, after the bytes of a file of that size have changed
abbrev pub mapped_after : Effect → ℕ → List Bool → List Bool
mapped_after effect size mapped = with_mapped (touched effect size) (fitted (size_after effect size) mapped)

-- the blocks of the segments from the first up to the second are holes
abbrev pub with_holes : ℕ → ℕ → List Bool → List Bool
with_holes from to mapped = take (segment_blocks * from) mapped ++ replicate (min (segment_blocks * to) (length mapped) - segment_blocks * from) false ++ drop (segment_blocks * max from to) mapped

-- and after any effect
abbrev pub remapped : Effect → ℕ → List Bool → List Bool
remapped (Writes offset bytes) size mapped = mapped_after (Writes offset bytes) size mapped
remapped (Resizes to) size mapped = mapped_after (Resizes to) size mapped
remapped (Punches from to) size mapped = with_holes from to mapped
remapped (Restores j bytes) size mapped = mapped_after (Restores j bytes) size mapped
remapped effect size mapped = mapped
