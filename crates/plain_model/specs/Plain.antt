-- A plain map of files, what refuses a call on it, and what calls and effects do to it.
use Rattle.std.specs.Prelude.{ℕ, ◌+◌, ◌-◌, ◌*◌, ◌^◌, max, min, List, [], ◌∷◌, ◌++◌, length, map, take, drop, replicate, ◌==◌, ◌&&◌, nat_lt, nat_le}
use Rattle.std.specs.Prelude.{if◌then◌else◌, Bool, Option, Some, None, is_some}
use Rattle.hsm_types.specs.Limits.{segment_bytes, access_bytes}
use Rattle.hsm_types.specs.Names.{is_name}
use Rattle.hsm_types.specs.Refusals.{first_refusal}
use Rattle.hsm_types.specs.declared.keys.FileKey.{FileKey}
use Rattle.hsm_types.specs.declared.stores.Limits.{Limits}
use Rattle.hsm_types.specs.declared.stores.Superblock.{Superblock}
use Rattle.hsm_types.specs.declared.calls.Call.{Call}
use Rattle.hsm_types.specs.declared.calls.Call.TheVariants.{Create, Read, Write, Truncate, Remove, Stat, Sync}
use Rattle.hsm_types.specs.declared.calls.Reply.{Reply}
use Rattle.hsm_types.specs.declared.calls.Reply.TheVariants.{Done, Made, Data, Size}
use Rattle.hsm_types.specs.declared.calls.CallRefusal.{CallRefusal}
use Rattle.hsm_types.specs.declared.calls.CallRefusal.TheVariants.{Missing, Exists, BadName, TooBig, BadLength, NoInodes}
use Rattle.hsm_types.specs.Keyed.{find_key, change_key, put_key, drop_key}
pub use Rattle.hsm_types.specs.Listing.{Listed, named, free_inode}
use Rattle.plain_model.specs.Effects.{Effect, Makes, Drops, Writes, Resizes, Restores, effect_of}

-- a file: its key, its name and its bytes. A plain map is a list of files in the order of their inodes
pub record File : Type 0 where
  pub key : FileKey
  pub name : List ℕ
  pub body : List ℕ

-- what a call is judged by: the key and the name of each file
abbrev pub listing : List File → List Listed
listing files = map (λ f. record { key = f.key; name = f.name }) files

-- a file has the key
abbrev pub has_key : FileKey → List Listed → Bool
has_key k files = is_some (find_key (λ l. l.key) k files)

-- the greatest generation of the files, 0 for no file
abbrev pub greatest : List Listed → ℕ
greatest [] = 0
greatest (l ∷ ls) = max l.key.igen (greatest ls)

-- ---- what refuses a call, in the order of judgement

-- the word can't be a name
abbrev pub bad_name : List ℕ → Option CallRefusal
bad_name name = if is_name name then None else Some BadName

-- an access has from 1 to `access_bytes`
abbrev pub bad_length : ℕ → Option CallRefusal
bad_length len = if nat_le 1 len && nat_le len access_bytes then None else Some (BadLength len)

abbrev pub missing : List ℕ → List Listed → Option CallRefusal
missing name files = if is_some (named name files) then None else Some Missing

abbrev pub exists : List ℕ → List Listed → Option CallRefusal
exists name files = if is_some (named name files) then Some Exists else None

-- a file has at most the bytes that its format allows. The end is told as far as a u64 goes
abbrev pub too_big : Limits → ℕ → Option CallRefusal
too_big limits end = if nat_lt limits.bytes end then Some (TooBig (min end (2 ^ 64 - 1))) else None

-- each inode is in use
abbrev pub no_inodes : ℕ → List Listed → Option CallRefusal
no_inodes count files = if length files == count then Some (NoInodes count) else None

-- what refuses the call on these files, if anything does
abbrev pub refusal_of : Superblock → List Listed → Call → Option CallRefusal
refusal_of s files (Create name) = first_refusal (bad_name name ∷ exists name files ∷ no_inodes s.geometry.files files ∷ [])
refusal_of s files (Read name offset len) = first_refusal (bad_name name ∷ bad_length len ∷ missing name files ∷ [])
refusal_of s files (Write name offset bytes) = first_refusal (bad_name name ∷ bad_length (length bytes) ∷ missing name files ∷ too_big s.geometry.limits (offset + length bytes) ∷ [])
refusal_of s files (Truncate name size) = first_refusal (bad_name name ∷ missing name files ∷ too_big s.geometry.limits size ∷ [])
refusal_of s files (Remove name) = first_refusal (bad_name name ∷ missing name files ∷ [])
refusal_of s files (Stat name) = first_refusal (bad_name name ∷ missing name files ∷ [])
refusal_of s files Sync = None

-- ---- which file a call means: settled once, at its issue

abbrev pub key_or_none : Option Listed → FileKey
key_or_none None = record { ino = 0; igen = 0 }
key_or_none (Some l) = l.key

-- the key of the file with the call's name. A create has none yet
abbrev pub key_meant : List Listed → Call → FileKey
key_meant files (Create name) = key_or_none None
key_meant files (Read name offset len) = key_or_none (named name files)
key_meant files (Write name offset bytes) = key_or_none (named name files)
key_meant files (Truncate name size) = key_or_none (named name files)
key_meant files (Remove name) = key_or_none (named name files)
key_meant files (Stat name) = key_or_none (named name files)
key_meant files Sync = key_or_none None

-- the key of the file on which a call was done: of a create, the one that its reply tells
abbrev pub key_by : FileKey → Reply → FileKey
key_by k (Made j) = j
key_by k reply = k

-- ---- what a call does

-- at most len bytes of the body from the offset on
abbrev pub read_at : ℕ → ℕ → List ℕ → List ℕ
read_at offset len body = take len (drop offset body)

-- the body is lengthened by zeros to the offset, and then the bytes stand there
abbrev pub written : ℕ → List ℕ → List ℕ → List ℕ
written offset bytes body = take offset body ++ replicate (offset - length body) 0 ++ bytes ++ drop (offset + length bytes) body

-- the body is cut to that size, or lengthened by zeros
abbrev pub resized : ℕ → List ℕ → List ℕ
resized size body = take size body ++ replicate (size - length body) 0

-- the bytes of a segment of the body
abbrev pub segment : ℕ → List ℕ → List ℕ
segment j body = read_at (segment_bytes * j) segment_bytes body

-- the bytes after an effect
abbrev pub rebody : Effect → List ℕ → List ℕ
rebody (Writes offset bytes) body = written offset bytes body
rebody (Resizes size) body = resized size body
rebody (Restores j bytes) body = written (segment_bytes * j) bytes body
rebody effect body = body

abbrev pub body_or_none : Option File → List ℕ
body_or_none None = []
body_or_none (Some f) = f.body

-- the bytes of the file with that key
abbrev pub body_of : FileKey → List File → List ℕ
body_of k P = body_or_none (find_key (λ f. f.key) k P)

-- the plain map after an effect on the file with that key. It doesn't know what sessions keep with files
abbrev pub affected : Effect → FileKey → List File → List File
affected (Makes name) k P = put_key (λ f. f.key) (record { key = k; name = name; body = [] }) P
affected Drops k P = drop_key (λ f. f.key) k P
affected (Writes offset bytes) k P = change_key (λ f. f.key) k (λ f. record f { body = rebody (Writes offset bytes) f.body }) P
affected (Resizes size) k P = change_key (λ f. f.key) k (λ f. record f { body = rebody (Resizes size) f.body }) P
affected (Restores j bytes) k P = change_key (λ f. f.key) k (λ f. record f { body = rebody (Restores j bytes) f.body }) P
affected effect k P = P

-- the reply to a call on the file with that key and these bytes
abbrev pub reply_on : FileKey → List ℕ → Call → Reply
reply_on k body (Create name) = Made k
reply_on k body (Read name offset len) = Data (read_at offset len body)
reply_on k body (Stat name) = Size (length body)
reply_on k body call = Done

-- the plain meaning of a call on the file with that key: its reply, and the files after it
abbrev pub act : List File → FileKey → Call → Reply × List File
act P k call = (reply_on k (body_of k P) call, affected (effect_of call) k P)
