-- The keys and names of a table's files, in the order of their inodes, and what is true of them.
use Rattle.std.specs.Prelude.{◌≡◌, ℕ, ◌+◌, ◌<◌, ◌≤◌, List, [], ◌∷◌, map, Bool, true, false, ◌==◌, if◌then◌else◌, Option, Some, None}
use Rattle.std.specs.Option.{option_map}
use Rattle.hsm_types.specs.declared.keys.FileKey.{FileKey}
use Rattle.hsm_types.specs.Listing.{Listed, named}
use Rattle.inode_table.specs.declared.entries.FileEntry.{FileEntry}

abbrev pub listed : FileEntry → Listed
listed f = record { key = f.key; name = f.name }

-- the key and the name of each file
abbrev pub listing : List FileEntry → List Listed
listing files = map listed files

-- the key of the file with that name, if there is one
abbrev pub key_named : List ℕ → List Listed → Option FileKey
key_named name files = option_map (λ l. l.key) (named name files)

-- the key of the first file with that inode, if there is one
abbrev pub key_at : ℕ → List Listed → Option FileKey
key_at ino [] = None
key_at ino (l ∷ ls) = if l.key.ino == ino then Some l.key else key_at ino ls

-- whether a file has that inode
abbrev pub has_inode : ℕ → List Listed → Bool
has_inode ino [] = false
has_inode ino (l ∷ ls) = if l.key.ino == ino then true else has_inode ino ls

-- the inodes ascend, from that one on
abbrev pub Ascend : ℕ → List Listed → Type 0
Ascend low [] = Unit {0}
Ascend low (l ∷ ls) = (low ≤ l.key.ino) × Ascend (l.key.ino + 1) ls

-- no inode is above the limit, and each generation is below the next one
abbrev pub Within : ℕ → ℕ → List Listed → Type 0
Within limit next [] = Unit {0}
Within limit next (l ∷ ls) = (l.key.ino ≤ limit) × (l.key.igen < next) × Within limit next ls

-- no two files have one name
abbrev pub Differ : List Listed → Type 0
Differ [] = Unit {0}
Differ (l ∷ ls) = (named l.name ls ≡ None) × Differ ls
