-- What a run begins with: the store that it opened, or a new one.
use Rattle.std.specs.Prelude.{ℕ, Option, Some, None}
use Rattle.std.specs.Option.{option_map}
use Rattle.hsm_types.specs.Limits.{small_geometry}
use Rattle.hsm_types.specs.declared.stores.Superblock.{Superblock}
use Rattle.plain_model.specs.State.{Held, nothing_held}
use Rattle.file_store.specs.Stores.{Store, superblock_of}
use Rattle.hsm_cli.specs.declared.outcomes.Outcome.{Outcome}

-- the store that was opened, if one was
abbrev pub opened_in : {D M : Type 0} → Outcome D M → Option (Store D)
opened_in o = option_map (λ s. s.value) o.opening

-- the store that `replay` makes in memory: small, with the file system id 1
abbrev pub replay_store : Superblock
replay_store = record { geometry = small_geometry; fsid = 1 }

-- how that store was formatted
abbrev pub superblock_at : {D : Type 0} → Option (Store D) → Superblock
superblock_at None = replay_store
superblock_at (Some s) = superblock_of s

-- what it held
abbrev pub held_at : {D : Type 0} → Option (Store D) → Held
held_at None = nothing_held
held_at (Some s) = s.held

-- the number of its snapshot
abbrev pub base_of : {D : Type 0} → Option (Store D) → ℕ
base_of None = 0
base_of (Some s) = s.meta.number
