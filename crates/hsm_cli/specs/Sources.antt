-- How much of a source is read.
use Rattle.std.specs.Prelude.{ℕ, ◌≡◌, ◌+◌, ◌≤◌, List, ◌++◌, length, take, Option, IfSome}
use Rattle.std.specs.Io.KnownBytes.{Consumes, IsAtEnd}

-- one byte more than any script has: 100,000 lines of 4,096 bytes and their newlines
abbrev pub most_read : ℕ
most_read = 409700001

-- at most so many bytes
abbrev pub script_bytes : List ℕ → List ℕ
script_bytes all = take most_read all

-- n bytes more were read, as far as a script may go, and none only at the end
pub record ReadsMore (old new : Option (List ℕ)) (bytes longer : List ℕ) (n : ℕ) : Type 0 where
  pub more : List ℕ
  pub longer_by : longer ≡ bytes ++ more
  pub consumed : Consumes old new more
  pub count : length longer ≡ length bytes + n
  pub within : length longer ≤ most_read
  pub ended : n ≡ 0 → IsAtEnd new

-- a source gave more bytes behind these, at most as many as a script may have
pub record GivesMore (old new : Option (List ℕ)) (bytes : List ℕ) : Type 0 where
  pub more : List ℕ
  pub consumed : Consumes old new more
  pub within : length bytes + length more ≤ most_read

-- it gave its first bytes
pub record GivesFirst (old new : Option (List ℕ)) : Type 0 where
  pub bytes : List ℕ
  pub consumed : Consumes old new bytes
  pub within : length bytes ≤ most_read

-- it gave all that a script may have
abbrev pub GivesWhole : Option (List ℕ) → Option (List ℕ) → Type 0
GivesWhole old new = IfSome old (λ all. Consumes old new (script_bytes all))
