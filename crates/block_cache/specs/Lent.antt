-- The parts that a cache lends of a run of bytes, whose blocks lie at places of a disk.
use Rattle.std.specs.Prelude.{◌≡◌, ℕ, ◌+◌, ◌-◌, ◌*◌, ◌<◌, ◌==◌, min, if◌then◌else◌, List, [], ◌∷◌, take, drop, replicate, true, Option, Some, None, Contains}
use Rattle.std.specs.Option.{option_map_or}
use Rattle.std.specs.List.{concat, flat_map}
use Rattle.hsm_types.specs.Limits.{block_bytes}
use Rattle.disk_model.specs.Images.{part}
use Rattle.block_cache.specs.Cached.{Cache, AreBlocks, AreShown, cached_blocks, has, cached_bytes}
use Rattle.block_cache.specs.declared.parts.Part.{Part}
use Rattle.block_cache.specs.declared.parts.Part.TheVariants.{Bytes, Zeros}

-- the bytes of a part
abbrev pub part_bytes : Part → List ℕ
part_bytes (Bytes bytes) = bytes.now
part_bytes (Zeros count) = replicate count 0

-- a block at that place; a hole is zeros
abbrev pub cached_block : Cache → Option ℕ → List ℕ
cached_block cache None = replicate block_bytes 0
cached_block cache (Some block) = option_map_or (λ bytes. bytes) (cached_bytes cache block) (replicate block_bytes 0)

-- the same in the content of a disk, whose block 0 begins at that place
abbrev pub block_on_disk : ℕ → List ℕ → Option ℕ → List ℕ
block_on_disk at content None = replicate block_bytes 0
block_on_disk at content (Some block) = part content (at + block_bytes * block) block_bytes

-- the block at that place is in the list, if it isn't a hole
abbrev pub IsCached : Cache → Option ℕ → Type 0
IsCached cache place = (block : ℕ) → place ≡ Some block → has block (cached_blocks cache) ≡ true

-- the block at each of these places is, if it isn't a hole
abbrev pub AreCached : Cache → List (Option ℕ) → Type 0
AreCached cache places = (block : ℕ) → Contains places (Some block) → has block (cached_blocks cache) ≡ true

-- the parts of so many bytes that begin at that place of the first block: one of each block
unfoldable pub lent_parts : Cache → List (Option ℕ) → ℕ → ℕ → List (List ℕ)
lent_parts cache [] start count = []
lent_parts cache (p ∷ ps) start count = if count == 0 then [] else (take (min count (block_bytes - start)) (drop start (cached_block cache p)) ∷ lent_parts cache ps 0 (count - min count (block_bytes - start)))

-- the bytes that the blocks at these places have together
abbrev pub bytes_on_disk : ℕ → List ℕ → List (Option ℕ) → List ℕ
bytes_on_disk at content places = flat_map (block_on_disk at content) places

-- the parts of blocks that are what a content has are its bytes
abbrev pub PartsAreShown : Cache → List ℕ → Type 0
PartsAreShown cache content =
    AreShown cache.at content cache.entries → AreBlocks cache.entries → (places : List (Option ℕ)) → AreCached cache places
    → (start count : ℕ) → start < block_bytes → concat (lent_parts cache places start count) ≡ take count (drop start (bytes_on_disk cache.at content places))
