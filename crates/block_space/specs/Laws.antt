-- Laws on the blocks that are used and free.
use Rattle.std.specs.Prelude.{ℕ, ◌≡◌, ◌+◌, ◌<◌, List, ◌∷◌, ◌++◌, length, take, replicate, Bool, true, false, ◌==◌, ◌&&◌, not, slice_index_or, slice_set}
use Rattle.std.specs.List.{All, list_any}
use Rattle.plain_model.specs.Distinct.{Distinct}
use Rattle.block_space.specs.Space.{Space, marked, unmarked, free_in, free}

-- a block is on the disk, and neither map uses it
pub record IsFree (s : Space) (block : ℕ) : Type 0 where
  pub within : block < length s.current
  pub current : slice_index_or s.current block true ≡ false
  pub durable : slice_index_or s.durable block true ≡ false

-- of so many blocks these are used, and all others are free
abbrev pub OthersAreFree : ℕ → List ℕ → Type 0
OthersAreFree total blocks =
    Distinct blocks → All (λ b. b < total) blocks → length (free_in 0 (marked blocks (replicate total false)) (marked blocks (replicate total false))) + length blocks ≡ total

-- the free blocks are all that are free, each once
pub record ListedAreFree (s : Space) : Type 0 where
  pub each : All (IsFree s) (free s)
  pub once : Distinct (free s)
  pub all : (b : ℕ) → IsFree s b → list_any (λ m. m == b) (free s) ≡ true

-- blocks that are taken are free, and none is taken twice
pub record TakenAreFree (s : Space) (n : ℕ) : Type 0 where
  pub each : All (IsFree s) (take n (free s))
  pub once : Distinct (take n (free s))

-- a block has a mark just where it's one of those that were marked
abbrev pub MarksAreMembers : ℕ → List ℕ → ℕ → Type 0
MarksAreMembers total blocks b = b < total → slice_index_or (marked blocks (replicate total false)) b false ≡ list_any (λ m. m == b) blocks

-- marks don't depend on the order
abbrev pub MarksForgetOrder : ℕ → List ℕ → List ℕ → Type 0
MarksForgetOrder total xs ys = ((b : ℕ) → list_any (λ m. m == b) xs ≡ list_any (λ m. m == b) ys) → marked xs (replicate total false) ≡ marked ys (replicate total false)

-- marks one after the other are marks together
abbrev pub MarksJoin : ℕ → List ℕ → List ℕ → Type 0
MarksJoin total xs ys = marked ys (marked xs (replicate total false)) ≡ marked (xs ++ ys) (replicate total false)

-- blocks that are taken are none of those that the current map uses
abbrev pub TakeAddsOthers : ℕ → List ℕ → List Bool → ℕ → Type 0
TakeAddsOthers total blocks durable n = Distinct blocks → Distinct (blocks ++ take n (free (record { current = marked blocks (replicate total false); durable = durable })))

-- without the mark of one block there are the marks of the others
abbrev pub ReleaseLeavesOthers : ℕ → List ℕ → ℕ → List ℕ → Type 0
ReleaseLeavesOthers total xs b ys =
    Distinct (xs ++ b ∷ ys) → b < total → (slice_set (marked (xs ++ b ∷ ys) (replicate total false)) b false ≡ marked (xs ++ ys) (replicate total false)) × Distinct (xs ++ ys)

-- without the marks of some blocks there are the marks of the others
abbrev pub ReleaseLeaves : ℕ → List ℕ → List ℕ → List ℕ → Type 0
ReleaseLeaves total xs bs ys =
    ((b : ℕ) → list_any (λ m. m == b) ys ≡ (list_any (λ m. m == b) xs && not (list_any (λ m. m == b) bs))) → unmarked bs (marked xs (replicate total false)) ≡ marked ys (replicate total false)

-- releasing what was just taken gives the old flags
abbrev pub ReleaseUndoesTake : List Bool → List ℕ → Type 0
ReleaseUndoesTake flags blocks = All (λ b. slice_index_or flags b true ≡ false) blocks → unmarked blocks (marked blocks flags) ≡ flags
