-- The blocks that a cache holds, and when they are what the disk's reads give.
use Rattle.std.specs.Prelude.{◌≡◌, ℕ, ◌+◌, ◌*◌, ◌<◌, ◌≤◌, nat_eq, if◌then◌else◌, List, [], ◌∷◌, length, take, slice_index_or, Contains, Bool, true, false, Option}
use Rattle.std.specs.List.{list_any, AllByRecursion}
use Rattle.std.specs.Map.{keys_of, lookup}
use Rattle.hsm_types.specs.Limits.{block_bytes}
use Rattle.disk_model.specs.declared.device.Disk as disk
use Rattle.disk_model.specs.Images.{part, Alike}
use Rattle.disk_model.specs.Moments.{Keeps, Same}

pub record Cache : Type 0 where
  -- where block 0 lies on the disk
  pub at : ℕ
  -- the blocks with their bytes, the most recently used first
  pub entries : List (ℕ × List ℕ)

-- how many blocks are kept
abbrev pub most_kept : ℕ
most_kept = 256

-- how many a load may name
abbrev pub most_loaded : ℕ
most_loaded = 32

-- their numbers
abbrev pub cached_blocks : Cache → List ℕ
cached_blocks cache = keys_of cache.entries

-- what reads leave: no image has changed
abbrev pub ImagesStay : {D : Type 0} → disk.Ghosts D → D → D → Type 0
ImagesStay g old new = Keeps g old new Same × Alike (g.gives old) (g.gives new)

-- the block lies on a disk of that length
abbrev pub LiesOn : ℕ → ℕ → ℕ → Type 0
LiesOn at length block = at + block_bytes * block + block_bytes ≤ length

-- each block but the first is the neighbour of the one before
abbrev pub AreNeighbours : ℕ → List ℕ → Type 0
AreNeighbours first blocks = (i : ℕ) → i < length blocks → slice_index_or blocks i 0 ≡ first + i

-- each has the bytes of a block
abbrev pub AreBlocks : List (ℕ × List ℕ) → Type 0
AreBlocks entries = (e : ℕ × List ℕ) → Contains entries e → length e.1 ≡ block_bytes

-- each is what the content has at its place
abbrev pub AreShown : ℕ → List ℕ → List (ℕ × List ℕ) → Type 0
AreShown at content entries = (e : ℕ × List ℕ) → Contains entries e → e.1 ≡ part content (at + block_bytes * e.0) block_bytes

-- each is what a read would give
abbrev pub IsFresh : {D : Type 0} → disk.Ghosts D → D → Cache → Type 0
IsFresh g d cache = (c : List ℕ) → g.gives d c → AreShown cache.at c cache.entries

-- the list without the block
abbrev pub without : ℕ → List ℕ → List ℕ
without block [] = []
without block (b ∷ bs) = if nat_eq block b then bs else b ∷ without block bs

-- the block comes to the front, the others keep their order, and the list is cut to as many as are kept
abbrev pub used_last : ℕ → List ℕ → List ℕ
used_last block blocks = take most_kept (block ∷ without block blocks)

-- the same of each of these in turn
abbrev pub all_used_last : List ℕ → List ℕ → List ℕ
all_used_last [] blocks = blocks
all_used_last (b ∷ bs) blocks = all_used_last bs (used_last b blocks)

-- the list has the block
abbrev pub has : ℕ → List ℕ → Bool
has block blocks = list_any (nat_eq block) blocks

-- all of these are in the list
abbrev pub AreIn : List ℕ → List ℕ → Type 0
AreIn blocks list = AllByRecursion (λ b. has b list ≡ true) blocks

-- none of these is
abbrev pub AreAbsent : List ℕ → List ℕ → Type 0
AreAbsent blocks list = (i : ℕ) → i < length blocks → has (slice_index_or blocks i 0) list ≡ false

-- a use of these stopped at one that isn't there: the list is that after those before it
abbrev pub HasStopped : List ℕ → List ℕ → List ℕ → Type 0
HasStopped blocks old new = (n : ℕ) × (n < length blocks) × (new ≡ all_used_last (take n blocks) old) × (has (slice_index_or blocks n 0) new ≡ false)

-- the bytes of a block, none where it isn't there
abbrev pub cached_bytes : Cache → ℕ → Option (List ℕ)
cached_bytes cache block = lookup (nat_eq block) cache.entries
