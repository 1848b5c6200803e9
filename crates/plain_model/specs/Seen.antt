-- What is seen of files on a disk that may not tell what it holds.
use Rattle.std.specs.Prelude.{◌≡◌, ℕ, List, [], ◌∷◌, ◌++◌, length, map, take, drop, replicate, Bool, true, false}
use Rattle.hsm_types.specs.Limits.{block_bytes}
use Rattle.plain_model.specs.State.{FileState, Held}

-- bytes with zeros for those of mapped blocks: all that is known of them without their disk
abbrev pub unmapped_bytes : List Bool → List ℕ → List ℕ
unmapped_bytes [] body = body
unmapped_bytes (true ∷ mapped) body = replicate (length (take block_bytes body)) 0 ++ unmapped_bytes mapped (drop block_bytes body)
unmapped_bytes (false ∷ mapped) body = take block_bytes body ++ unmapped_bytes mapped (drop block_bytes body)

-- the file so, with all else of it
abbrev pub blank : FileState → FileState
blank f = record f { body = unmapped_bytes f.mapped f.body }

abbrev pub blanked : Held → Held
blanked h = record h { files = map blank h.files }

-- All but the bytes of mapped blocks is seen as it is held, and where the disk tells what it holds these are too.
pub record IsSeen (Tells : Type 0) (held seen : Held) : Type 0 where
  pub alike : blanked seen ≡ blanked held
  pub told : Tells → seen ≡ held

-- it is so over files that are seen so
abbrev pub IsOfSeen : Type 0 → Held → (Held → Type 0) → Type 0
IsOfSeen Tells held P = (seen : Held) × IsSeen Tells held seen × P seen
