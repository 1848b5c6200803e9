-- The file that a call means.
use Rattle.std.specs.Prelude.{◌≡◌, ◌≤◌, ◌+◌, ℕ, List, length, Option, Some, None, IfSome, IsSome, IsSomeAnd}
use Rattle.std.specs.List.{AllByRecursion}
use Rattle.hsm_types.specs.Limits.{access_bytes, file_bytes}
use Rattle.hsm_types.specs.declared.keys.FileKey.{FileKey}
use Rattle.hsm_types.specs.declared.stores.Limits.{Limits}
use Rattle.hsm_types.specs.declared.stores.Superblock.{Superblock}
use Rattle.hsm_types.specs.declared.calls.Call.{Call}
use Rattle.hsm_types.specs.declared.calls.Call.TheVariants.{Create, Write, Truncate, Sync}
use Rattle.plain_model.specs.declared.facts.Facts.{Facts}
use Rattle.hsm_types.specs.Keyed.{find_key}
use Rattle.plain_model.specs.Effects.{effect_of}
use Rattle.plain_model.specs.Plain.{key_meant, refusal_of}
use Rattle.plain_model.specs.Ledger.{Ledger}
use Rattle.plain_model.specs.Sound.{IsSound}
use Rattle.plain_model.specs.State.{FileState, Held, names_of, file_at, bytes_of, used}
use Rattle.plain_model.specs.Verdict.{shortage, facts_of}
use Rattle.file_store.specs.Stores.{IsStubbed}
use Rattle.hsm_core.specs.declared.judging.Target.{Target}

-- the live file with that key, and its size, which is that of a body
pub record IsTarget (files : List FileState) (k : FileKey) (t : Target) : Type 0 where
  pub key : t.key ≡ k
  pub live : IsSome (find_key (λ f. f.key) t.key files)
  pub size : t.size ≡ length (bytes_of t.key files)
  pub limit : t.size ≤ file_bytes

-- a create and a sync are on no file, and each other call is on the live one with that key
abbrev pub IsOn : List FileState → FileKey → Call → Option Target → Type 0
IsOn files k (Create name) target = target ≡ None
IsOn files k Sync target = target ≡ None
IsOn files k call target = IsSomeAnd target (λ t. IsTarget files k t)

-- the call means this file by its name
abbrev pub IsMeant : List FileState → Call → Option Target → Type 0
IsMeant files call target = IsOn files (key_meant (names_of files) call) call target

abbrev pub key_in : Option Target → FileKey
key_in None = record { ino = 0; igen = 0 }
key_in (Some t) = t.key

-- a write has bytes, no more than the longest access, and ends within the limit of a file, and so does a truncate
abbrev pub IsBounded : Limits → Call → Type 0
IsBounded limits (Write name offset bytes) = (1 ≤ length bytes) × (offset + length bytes ≤ limits.bytes) × (length bytes ≤ access_bytes)
IsBounded limits (Truncate name size) = size ≤ limits.bytes
IsBounded limits call = Unit {0}

-- what was judged of a call that is done: of a create the names of the files, of any other what bounds it
abbrev pub MayDo : Superblock → List FileState → Call → Type 0
MayDo s files (Create name) = refusal_of s (names_of files) (Create name) ≡ None
MayDo s files call = IsBounded s.geometry.limits call

-- What is known of a call on the file with that key, and of all files: no more blocks are mapped than there are, and stub entries are lawful.
pub record AreKnown (s : Superblock) (h : Held) (k : FileKey) (call : Call) (facts : Facts) : Type 0 where
  pub known : facts ≡ facts_of s h k call
  pub mapped : used h.files ≤ s.geometry.blocks
  pub stubbed : AllByRecursion IsStubbed h.files

-- what was judged of a call on a file that is done
pub record MayComplete (s : Superblock) (h : Held) (call : Call) (target : Option Target) : Type 0 where
  pub on : IsSomeAnd target (λ t. IsOn h.files t.key call (Some t))
  pub bounded : IsBounded s.geometry.limits call
  pub fits : shortage s h (key_in target) call ≡ None
  pub mapped : used h.files ≤ s.geometry.blocks
  pub sound : IsSound (effect_of call) (file_at (key_in target) h.files)

-- it is on a file
abbrev pub IsOnFile : Call → Type 0
IsOnFile (Create name) = ⊥
IsOnFile Sync = ⊥
IsOnFile call = Unit {0}

-- a call that waits is on a file, and what bounds it was judged before
abbrev pub MayLast : Limits → Call → Type 0
MayLast limits call = IsOnFile call × IsBounded limits call

-- each access that waits is such
abbrev pub EachLasts : Limits → Ledger → Type 0
EachLasts limits L = (c : ℕ) → IfSome (L.pending c) (λ a. MayLast limits a.call)
