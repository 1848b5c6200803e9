-- How much space a punch frees.
use Rattle.std.specs.Prelude.{◌≡◌, ℕ, ◌+◌, ◌*◌, List, [], ◌∷◌, ◌++◌, slice_range, count_by, Bool}
use Rattle.hsm_types.specs.Limits.{segment_blocks}
use Rattle.hsm_types.specs.declared.dm.DmCall.TheVariants.{PunchHole}
use Rattle.hsm_types.specs.declared.dm.DmReply.TheVariants.{Done}
use Rattle.hsm_types.specs.declared.keys.Handle.{Handle}
use Rattle.hsm_types.specs.declared.keys.Sid.{Sid}
use Rattle.hsm_types.specs.declared.keys.Token.{Token}
use Rattle.hsm_types.specs.declared.stores.Superblock.{Superblock}
use Rattle.plain_model.specs.declared.entries.Action.TheVariants.{Dm}
use Rattle.plain_model.specs.declared.entries.Actor.TheVariants.{Session}
use Rattle.plain_model.specs.declared.entries.Answer.TheVariants.{Dm as Told}
use Rattle.plain_model.specs.declared.entries.Entry.{Entry}
use Rattle.plain_model.specs.Effects.{punch_from, punch_to}
use Rattle.plain_model.specs.Exact.{held_by}
use Rattle.plain_model.specs.Laws.{IsRunSeen}
use Rattle.plain_model.specs.State.{Held, file_at, used}
use Rattle.hsm_core.specs.Answers.{entry_of}

-- how many blocks of the segments from the first up to the second are mapped
abbrev pub freed : ℕ → ℕ → List Bool → ℕ
freed from to mapped = count_by (λ b. b) (slice_range mapped (segment_blocks * from) (segment_blocks * to))

-- the session's punch was done
abbrev pub punch_done : Sid → Token → Handle → ℕ → ℕ → Entry
punch_done sid t handle offset len = entry_of (Session sid) (Dm (PunchHole t handle offset len)) (Told Done)

-- each such punch frees just the blocks of its segments that were mapped before it
abbrev pub PunchesFree : Superblock → ℕ → Held → List Entry → Type 0
PunchesFree s base h es = (before : List Entry) (sid : Sid) (t : Token) (handle : Handle) (offset len : ℕ) (rest : List Entry) → es ≡ before ++ punch_done sid t handle offset len ∷ rest
    → used (held_by s base h before).files
    ≡ used (held_by s base h (before ++ punch_done sid t handle offset len ∷ [])).files + freed (punch_from offset) (punch_to offset len) (file_at handle.key (held_by s base h before).files).mapped

-- so it is in each run
abbrev pub PunchFrees : Superblock → ℕ → Held → List Entry → Type 0
PunchFrees s base h es = IsRunSeen ⊥ s base h es → PunchesFree s base h es
