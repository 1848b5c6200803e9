-- Where the blocks of files lie on a disk.
use Rattle.std.specs.Prelude.{◌≡◌, ℕ, ◌^◌, ◌||◌, ◌&&◌, ◌==◌, nat_lt, nat_le, if◌then◌else◌, List, [], ◌∷◌, take, drop, filter, map, Bool, true, false, not, Option, Some, None, ⊤}
use Rattle.std.specs.List.{AllByRecursion}
use Rattle.extent_map.specs.declared.extents.Extent.{Extent}

-- the map, as its entries in the order of inodes and then of file blocks, and how many there may be
pub record Extents : Type 0 where
  pub total : ℕ
  pub entries : List Extent

-- ---- one entry

-- the entry is that of the file block
abbrev pub is_entry_of : ℕ → ℕ → Extent → Bool
is_entry_of ino block e = (e.ino == ino) && (e.block == block)

-- it comes before the file block
abbrev pub precedes : ℕ → ℕ → Extent → Bool
precedes ino block e = nat_lt e.ino ino || ((e.ino == ino) && nat_lt e.block block)

-- it is that of one of the file's blocks from the first up to the second
abbrev pub is_within : ℕ → ℕ → ℕ → Extent → Bool
is_within ino from to e = (e.ino == ino) && (nat_le from e.block && nat_lt e.block to)

-- more than any number of a file block
abbrev pub all_blocks : ℕ
all_blocks = 2 ^ 32

-- ---- the map

-- where a file block lies, none where it has no entry
abbrev pub place_of : ℕ → ℕ → List Extent → Option ℕ
place_of ino block [] = None
place_of ino block (e ∷ es) = if is_entry_of ino block e then Some e.at else place_of ino block es

-- an entry in its order, in the place of that of the same file block
abbrev pub with_extent : Extent → List Extent → List Extent
with_extent e [] = e ∷ []
with_extent e (x ∷ xs) = if precedes e.ino e.block x then x ∷ with_extent e xs else (if is_entry_of e.ino e.block x then e ∷ xs else e ∷ x ∷ xs)

-- where the file's blocks from the first up to the second lie, in their order
abbrev pub places_within : ℕ → ℕ → ℕ → List Extent → List ℕ
places_within ino from to es = map (λ e. e.at) (filter (is_within ino from to) es)

-- the entries without these
abbrev pub without_range : ℕ → ℕ → ℕ → List Extent → List Extent
without_range ino from to es = filter (λ e. not (is_within ino from to e)) es

-- the file block lies there, and all others where they lay
pub record MapsTo (ino block at : ℕ) (old new : List Extent) : Type 0 where
  pub there : place_of ino block new ≡ Some at
  pub others : (i b : ℕ) → ((i == ino) && (b == block)) ≡ false → place_of i b new ≡ place_of i b old

-- the file's blocks from the first up to the second have no entry, and all others lie where they lay
pub record HasHoles (ino from to : ℕ) (old new : List Extent) : Type 0 where
  pub holes : (b : ℕ) → (nat_le from b && nat_lt b to) ≡ true → place_of ino b new ≡ None
  pub others : (i b : ℕ) → ((i == ino) && (nat_le from b && nat_lt b to)) ≡ false → place_of i b new ≡ place_of i b old

-- ---- their order

-- each entry comes before all that follow
abbrev pub ExtentsAscend : List Extent → Type 0
ExtentsAscend [] = ⊤
ExtentsAscend (e ∷ es) = AllByRecursion (λ x. precedes x.ino x.block e ≡ true) es × ExtentsAscend es

-- so many entries come before the file block, and no other
abbrev pub CutsExtents : ℕ → ℕ → ℕ → List Extent → Type 0
CutsExtents ino block n es = AllByRecursion (λ e. precedes ino block e ≡ true) (take n es) × AllByRecursion (λ e. precedes ino block e ≡ false) (drop n es)
