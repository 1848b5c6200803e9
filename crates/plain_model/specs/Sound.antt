-- When an effect may come to a file of which bytes may be away.
use Rattle.std.specs.Prelude.{ℕ, ◌≡◌, ◌≢◌, ◌+◌, ◌*◌, ◌<◌, ◌≤◌, min, length, true, false, Some}
use Rattle.hsm_types.specs.Limits.{segment_bytes}
use Rattle.hsm_types.specs.Regions.{covers}
use Rattle.hsm_types.specs.Segments.{meets_segment}
use Rattle.hsm_types.specs.Stubs.{Stubs, print_of, stub_at, offline_at, entry_print}
use Rattle.hsm_types.specs.declared.stubs.Stub.{Stub}
use Rattle.plain_model.specs.Effects.{Effect, Writes, Resizes, Manages, Seals, Punches, Restores}
use Rattle.plain_model.specs.Plain.{segment}
use Rattle.plain_model.specs.State.{FileState}

-- the bytes of each segment that the range meets are here
abbrev pub IsFree : Stubs → ℕ → ℕ → Type 0
IsFree stubs from to = (j : ℕ) → meets_segment from to j ≡ true → offline_at stubs j ≡ false

-- so are those of the segment that has n strictly inside
abbrev pub IsFreeAround : Stubs → ℕ → Type 0
IsFreeAround stubs n = (j : ℕ) → segment_bytes * j < n → n < segment_bytes * j + segment_bytes → offline_at stubs j ≡ false

-- Bytes are written, and cut, only where they are here. A segment is sealed by the fingerprint of its bytes, which are here. One or more of the file's go
-- away, each only with an entry and where it is covered; one comes back only by bytes of its entry's fingerprint; and regions cover each one that is away.
abbrev pub IsSound : Effect → FileState → Type 0
IsSound (Writes offset bytes) f = IsFree f.kept.stubs (min offset (length f.body)) (offset + length bytes)
IsSound (Resizes to) f = to ≢ length f.body → IsFreeAround f.kept.stubs (min to (length f.body))
IsSound (Manages regions) f = (j : ℕ) → offline_at f.kept.stubs j ≡ true → covers regions j ≡ true
IsSound (Seals j entry) f = (segment_bytes * j < length f.body) × (offline_at f.kept.stubs j ≡ false) × (entry_print entry ≡ print_of (segment j f.body))
IsSound (Punches from to) f = (segment_bytes * from < length f.body) × ((j : ℕ) → from ≤ j → j < to → segment_bytes * j < length f.body → (stub : Stub) × (stub_at j f.kept.stubs ≡ Some stub) × (covers f.kept.regions j ≡ true))
IsSound (Restores j bytes) f = (segment_bytes * j < length f.body) × ((stub : Stub) × (stub_at j f.kept.stubs ≡ Some stub) × (entry_print stub.entry ≡ print_of bytes))
IsSound effect f = Unit {0}
