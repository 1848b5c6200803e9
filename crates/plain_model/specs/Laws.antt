-- Laws over whole histories.
use Rattle.std.specs.Prelude.{ℕ, ◌≡◌, ◌<◌, List, ◌++◌, take}
use Rattle.hsm_types.specs.declared.keys.FileKey.{FileKey}
use Rattle.hsm_types.specs.declared.stores.Superblock.{Superblock}
use Rattle.plain_model.specs.declared.entries.Entry.{Entry}
use Rattle.plain_model.specs.Plain.{File, greatest}
use Rattle.plain_model.specs.Step.{start}
use Rattle.plain_model.specs.Legal.{Legal, After, NoClash}
use Rattle.plain_model.specs.Once.{Once}
use Rattle.plain_model.specs.PlainFold.{plain_after}
use Rattle.plain_model.specs.State.{Held, State, names_of, just_opened}
use Rattle.plain_model.specs.Stands.{Stands, StandsFor, InOrder}
use Rattle.plain_model.specs.Exact.{Exact, ExactSeen, state_by}
use Rattle.plain_model.specs.Side.{sides_of, side_after}
use Rattle.plain_model.specs.Stamps.{stamp}

-- Where no digest clashes, the files after each beginning of the history are those that were never moved.
abbrev pub IsPlain : List File → List Entry → Type 0
IsPlain P es = NoClash (start P) es → (i : ℕ) → (After (start P) (take i es)).files ≡ plain_after P (take i es)

-- each legal history is so
abbrev pub IsTransparent : Superblock → List File → List Entry → Type 0
IsTransparent s P es = Legal s (start P) es → IsPlain P es

-- what a store holds when it is opened: each generation is below the next one
abbrev pub IsOpening : Held → Type 0
IsOpening h = greatest (names_of h.files) < h.next

-- a run of a store that held this when it was opened under that number: its history is exact from there
pub record IsRun (s : Superblock) (base : ℕ) (h : Held) (es : List Entry) : Type 0 where
  pub opening : IsOpening h
  pub exact : Exact s (just_opened base h) es

-- The same where the disk may not give back what was written: each answer is exact but for bytes, and for whether these refuse a seal; where the disk tells
-- what it holds it is exact in these too.
pub record IsRunSeen (Tells : Type 0) (s : Superblock) (base : ℕ) (h : Held) (es : List Entry) : Type 0 where
  pub opening : IsOpening h
  pub exact : ExactSeen Tells s (just_opened base h) es

-- where the disk tells it is a run, as it was
abbrev pub TellsAll : Superblock → ℕ → Held → List Entry → Type 0
TellsAll s base h es = IsRunSeen (Unit {0}) s base h es → IsRun s base h es

-- each beginning of a run is one
abbrev pub BeginningIsRun : Superblock → ℕ → Held → List Entry → List Entry → Type 0
BeginningIsRun s base h first rest = IsRun s base h (first ++ rest) → IsRun s base h first

-- the store after the first i entries
abbrev pub state_at : Superblock → ℕ → Held → List Entry → ℕ → State
state_at s base h es i = state_by s (just_opened base h) (take i es)

-- Of its answers alone, whatever the disk gives back: each token is used once, and the tables are in order after each beginning.
pub record IsOrderly (s : Superblock) (base : ℕ) (h : Held) (es : List Entry) : Type 0 where
  pub once : Once es
  pub ordered : (i : ℕ) → InOrder (state_at s base h es i)

-- a run is such on each disk, and so on one that never tells what it holds
abbrev pub SeenIsOrderly : Superblock → ℕ → Held → List Entry → Type 0
SeenIsOrderly s base h es = IsRunSeen ⊥ s base h es → IsOrderly s base h es

-- Seen from a plain map for which the opening stands the run is good: it is legal; after each beginning of it the store stands for the world, its mapped
-- blocks and what sessions keep are those of the rules, and its stamps are those of the accesses; and its files are plain.
pub record IsGoodFrom (s : Superblock) (base : ℕ) (h : Held) (es : List Entry) (P : List File) : Type 0 where
  pub legal : Legal s (start P) es
  pub stands : (i : ℕ) → StandsFor (state_at s base h es i) (After (start P) (take i es))
  pub sides : (i : ℕ) → sides_of (state_at s base h es i).held.files ≡ side_after (start P) (sides_of h.files) (take i es)
  pub stamps : (i : ℕ) (k : FileKey) → (state_at s base h es i).stamps k ≡ stamp (start P) base k (take i es)
  pub plain : IsPlain P es

-- a run that uses each token once, keeps its tables in order, and is good from each such map
pub record IsGoodRun (s : Superblock) (base : ℕ) (h : Held) (es : List Entry) : Type 0 where
  pub run : IsRun s base h es
  pub once : Once es
  pub ordered : (i : ℕ) → InOrder (state_at s base h es i)
  pub good : (P : List File) → Stands h.files P → IsGoodFrom s base h es P

-- each run is such
abbrev pub RunIsGood : Superblock → ℕ → Held → List Entry → Type 0
RunIsGood s base h es = IsRun s base h es → IsGoodRun s base h es
