-- What a store holds, and a store at a moment.
use Rattle.std.specs.Prelude.{ℕ, ◌+◌, ◌-◌, ◌*◌, max, min, List, [], length, map, replicate, sum_by, count_by, Bool, false, Option, Some, None}
use Rattle.hsm_types.specs.Attributes.{with_value, without_value}
use Rattle.hsm_types.specs.Kept.{Kept, nothing_kept}
use Rattle.hsm_types.specs.Limits.{segment_bytes}
use Rattle.hsm_types.specs.Rights.{Rights, released}
use Rattle.hsm_types.specs.Sessions.{SessionTable, no_sessions, responded}
use Rattle.hsm_types.specs.Stubs.{sealed, punched, restored, unsealed}
use Rattle.hsm_types.specs.declared.keys.FileKey.{FileKey}
use Rattle.hsm_types.specs.Keyed.{find_key, change_key, put_key, drop_key}
use Rattle.plain_model.specs.Effects.{Effect, Leaves, Makes, Drops, Writes, Resizes, Manages, Attaches, Detaches, Seals, Punches, Restores, Change}
use Rattle.plain_model.specs.Effects.{Nothing, OfFile, OfSessions, OfRights, Closes}
use Rattle.plain_model.specs.Plain.{Listed, free_inode, written, rebody}
use Rattle.plain_model.specs.Ledger.{Ledger, no_ledger, next_token}
use Rattle.plain_model.specs.Blocks.{remapped}

-- a file as the store holds it: its bytes, with zeros where they are away, for each of its blocks whether it is mapped, and what sessions keep with it
pub record FileState : Type 0 where
  pub key : FileKey
  pub name : List ℕ
  pub body : List ℕ
  pub mapped : List Bool
  pub kept : Kept

-- what a store holds: its files in the order of their inodes, and the generation that the next create gives
pub record Held : Type 0 where
  pub files : List FileState
  pub next : ℕ

-- a new store
abbrev pub nothing_held : Held
nothing_held = record { files = []; next = 1 }

-- a new file
abbrev pub new_file : FileKey → List ℕ → FileState
new_file k name = record { key = k; name = name; body = []; mapped = []; kept = nothing_kept }

-- the key and the name of each file
abbrev pub names_of : List FileState → List Listed
names_of files = map (λ f. record { key = f.key; name = f.name }) files

-- the key that the next create gives
abbrev pub next_key : Held → FileKey
next_key h = record { ino = free_inode 1 (names_of h.files); igen = h.next }

abbrev pub file_or_new : FileKey → Option FileState → FileState
file_or_new k None = new_file k []
file_or_new k (Some f) = f

-- the file with that key; where there is none, one with nothing in it
abbrev pub file_at : FileKey → List FileState → FileState
file_at k files = file_or_new k (find_key (λ f. f.key) k files)

-- the bytes that are held of the file with that key
abbrev pub bytes_of : FileKey → List FileState → List ℕ
bytes_of k files = (file_at k files).body

-- how many blocks are mapped
abbrev pub used_by : FileState → ℕ
used_by f = count_by (λ b. b) f.mapped

abbrev pub used : List FileState → ℕ
used files = sum_by used_by files

-- ---- effects

-- What is kept with a file after an effect on it, which had that size. What changes bytes of a segment drops its entry
abbrev pub rekept : Effect → ℕ → Kept → Kept
rekept (Writes offset bytes) size kept = record kept { stubs = unsealed (min offset size) (offset + length bytes) kept.stubs }
rekept (Resizes to) size kept = record kept { stubs = unsealed (min to size) (max to size) kept.stubs }
rekept (Manages regions) size kept = record kept { regions = regions }
rekept (Attaches name value) size kept = record kept { attributes = with_value name value kept.attributes }
rekept (Detaches name) size kept = record kept { attributes = without_value name kept.attributes }
rekept (Seals j entry) size kept = record kept { stubs = sealed j entry kept.stubs }
rekept (Punches from to) size kept = record kept { stubs = punched from to kept.stubs }
rekept (Restores j bytes) size kept = record kept { stubs = restored j kept.stubs }
rekept effect size kept = kept

-- what is held of the bytes after an effect: zeros of those that are away then, and else as in a plain map
abbrev pub rebody_held : Effect → List ℕ → List ℕ
rebody_held (Punches from to) body = written (segment_bytes * from) (replicate (min (segment_bytes * to) (length body) - segment_bytes * from) 0) body
rebody_held effect body = rebody effect body

-- the file after an effect on it
abbrev pub remade : Effect → FileState → FileState
remade effect f = record f { body = rebody_held effect f.body; mapped = remapped effect (length f.body) f.mapped; kept = rekept effect (length f.body) f.kept }

-- the files after an effect on the one with that key
abbrev pub affected_held : Effect → FileKey → List FileState → List FileState
affected_held Leaves k files = files
affected_held (Makes name) k files = put_key (λ f. f.key) (new_file k name) files
affected_held Drops k files = drop_key (λ f. f.key) k files
affected_held effect k files = change_key (λ f. f.key) k (remade effect) files

-- ---- the store at a moment

-- Beside an access that waits, as it will be judged once its token is continued: whether an event of it was continued, and whether one for want of space
-- was. Only a continue lets a parked access go on, and nothing judges by them before, so both are set when it parks.
pub record Flags : Type 0 where
  pub cleared : Bool
  pub spaced : Bool

-- of an access that has not waited
abbrev pub no_flags : Flags
no_flags = record { cleared = false; spaced = false }

pub record State : Type 0 where
  pub held : Held
  -- of each file, the number of the last entry that completed a read, a write or a truncate of it since the opening, 0 for none
  pub stamps : FileKey → ℕ
  -- the number of the last entry
  pub number : ℕ
  pub sessions : SessionTable
  -- what tokens hold
  pub rights : Rights
  -- of each caller, beside its access that waits
  pub flags : ℕ → Flags
  pub ledger : Ledger

-- a store that holds this and was just opened. Its entries are counted on from the number that was found
abbrev pub just_opened : ℕ → Held → State
just_opened base h = record { held = h; stamps = λ k. 0; number = base; sessions = no_sessions; rights = []; flags = λ c. no_flags; ledger = no_ledger }

-- an entry more, which changes nothing else
abbrev pub noted : State → State
noted st = record st { number = st.number + 1 }

-- the store after a change
abbrev pub changed : Change → State → State
changed Nothing st = st
changed (OfFile k effect) st = record st { held = record st.held { files = affected_held effect k st.held.files } }
changed (OfSessions to) st = record st { sessions = to (next_token st.ledger) st.sessions }
changed (OfRights to) st = record st { rights = to st.rights }
changed (Closes sid token) st = record st { sessions = responded sid token st.sessions; rights = released token st.rights }
