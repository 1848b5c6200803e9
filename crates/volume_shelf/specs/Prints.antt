-- The fingerprint of bytes that come in pieces.
use Rattle.std.specs.Prelude.{◌≡◌, ℕ, List, length}
use Rattle.sha2.specs.Hashers.{Holds256}
use Rattle.volume_shelf.specs.declared.prints.Pieces.{Pieces}

-- these are the bytes so far
pub record AreSoFar (pieces : Pieces) (bytes : List ℕ) : Type 0 where
  pub digest : Holds256 pieces.hasher bytes
  pub counted : pieces.len ≡ length bytes
