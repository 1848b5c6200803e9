-- Reading the bytes of a snapshot from left to right.
use Rattle.std.specs.Prelude.{ℕ, List, Bool, true, false, Option, Some, None, ◌==◌, if◌then◌else◌}
use Rattle.hsm_types.specs.declared.keys.FileKey.{FileKey}
use Rattle.hsm_types.specs.declared.attributes.AttrName.{AttrName}
use Rattle.hsm_types.specs.declared.stubs.Stub.{Stub}
use Rattle.journal_records.specs.Reading.{◌>>=◌, number_at, bytes_at, both, made, several, counted, region_at, attr_name_at, entry_in}
use Rattle.journal_records.specs.declared.refusals.Unread.{Unread}
use Rattle.journal_records.specs.declared.refusals.Unread.TheVariants.{Memory, Bad}
use Rattle.snapshot_text.specs.declared.snapshot.Mapping.{Mapping}
use Rattle.snapshot_text.specs.declared.snapshot.ReadRefusal.{ReadRefusal}
use Rattle.snapshot_text.specs.declared.snapshot.ReadRefusal.TheVariants as refusal
use Rattle.snapshot_text.specs.Snapshots.{SnapshotFile, Snapshot}

-- bytes that are no field are no snapshot
abbrev pub unread_as : Unread → ReadRefusal
unread_as Bad = refusal.Corrupt
unread_as Memory = refusal.Memory

-- a number of n bytes that has to be this one
unfoldable pub only_at : ℕ → ℕ → List ℕ → Option (Unit {0} × List ℕ)
only_at n wanted bytes = do
  number ← number_at n bytes
  if number.0 == wanted then Some (tt, number.1) else None

-- ---- the parts of a snapshot

unfoldable pub key_at : List ℕ → Option (FileKey × List ℕ)
key_at = made (λ n. record { ino = n.0; igen = n.1 }) (both (number_at 8) (number_at 8))

-- the name of an attribute, and its value
unfoldable pub attribute_at : List ℕ → Option ((AttrName × List ℕ) × List ℕ)
attribute_at = both attr_name_at (counted 2 bytes_at)

unfoldable pub extent_at : List ℕ → Option (Mapping × List ℕ)
extent_at = made (λ n. record { block = n.0; place = n.1 }) (both (number_at 4) (number_at 4))

-- the state of a segment with an entry: whether it is offline
abbrev pub offline_in : ℕ → Option Bool
offline_in state = if state == 1 then Some false else if state == 2 then Some true else None

unfoldable pub state_at : List ℕ → Option (Bool × List ℕ)
state_at bytes = do
  state ← number_at 1 bytes
  offline ← offline_in state.0
  Some (offline, state.1)

-- a segment, its state and its entry
unfoldable pub stub_in : List ℕ → Option ((ℕ × Stub) × List ℕ)
stub_in = made (λ p. (p.0.0, record { entry = p.1; offline = p.0.1 })) (both (both (number_at 4) state_at) entry_in)

unfoldable pub file_at : List ℕ → Option (SnapshotFile × List ℕ)
file_at = made (λ p. record { key = p.0.0.0.0.0.0; size = p.0.0.0.0.0.1; name = p.0.0.0.0.1; kept = record { regions = p.0.0.0.1; attributes = p.0.0.1; stubs = p.1 }; extents = p.0.1 })
    (both (both (both (both (both (both key_at (number_at 8)) (counted 1 bytes_at)) (counted 1 (several region_at))) (counted 4 (several attribute_at))) (counted 4 (several extent_at))) (counted 4 (several stub_in)))

unfoldable pub snapshot_at : List ℕ → Option (Snapshot × List ℕ)
snapshot_at = made (λ p. record { number = p.0.0.0; next = p.0.0.1; files = p.1 })
    (both (both (both (number_at 8) (number_at 8)) (only_at 4 1)) (counted 4 (several file_at)))
