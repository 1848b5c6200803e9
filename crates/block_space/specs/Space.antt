-- Which blocks of a disk are in use.
use Rattle.std.specs.Prelude.{ℕ, ◌≡◌, ◌+◌, ◌<◌, ◌≤◌, ◌^◌, length, List, [], ◌∷◌, Bool, true, false, ◌||◌, slice_index_or, slice_set, if◌then◌else◌}
use Rattle.plain_model.specs.Blocks.{with_mapped}

-- for each block, whether the current map and whether the durable one uses it
pub record Space : Type 0 where
  pub current : List Bool
  pub durable : List Bool

-- these blocks become used
abbrev pub marked : List ℕ → List Bool → List Bool
marked blocks flags = with_mapped blocks flags

-- these blocks become unused
abbrev pub unmarked : List ℕ → List Bool → List Bool
unmarked [] flags = flags
unmarked (b ∷ bs) flags = unmarked bs (slice_set flags b false)

-- the blocks from n on that neither map uses, the lowest first
abbrev pub free_in : ℕ → List Bool → List Bool → List ℕ
free_in n [] ds = []
free_in n (c ∷ cs) [] = []
free_in n (c ∷ cs) (d ∷ ds) = if c || d then free_in (n + 1) cs ds else n ∷ free_in (n + 1) cs ds

abbrev pub free : Space → List ℕ
free s = free_in 0 s.current s.durable

-- each block below that one is used by a map
abbrev pub UsedBelow : ℕ → List Bool → List Bool → Type 0
UsedBelow low cs ds = (b : ℕ) → b < low → (slice_index_or cs b false || slice_index_or ds b false) ≡ true

-- each block below that one that the durable map uses is used by the current map too
abbrev pub KeptBelow : ℕ → List Bool → List Bool → Type 0
KeptBelow released cs ds = (b : ℕ) → b < released → slice_index_or ds b false ≡ true → slice_index_or cs b false ≡ true

-- what is true of each space: no block below the first is free, and none below the second was released since the last commit
pub record IsSpace (low released : ℕ) (current durable : List Bool) : Type 0 where
  pub lengths : length durable ≡ length current
  pub few : length current < 2 ^ 32
  pub within : low ≤ length current
  pub used : UsedBelow low current durable
  pub kept : KeptBelow released current durable
