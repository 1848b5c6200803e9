-- The files of a store by name, inode and size.
use Rattle.std.specs.Prelude.{ℕ, ◌+◌, max, List}
use Rattle.hsm_types.specs.declared.keys.FileKey.{FileKey}
use Rattle.hsm_types.specs.Keyed.{put_key}
use Rattle.hsm_types.specs.Listing.{Listed, free_inode}
use Rattle.inode_table.specs.declared.entries.FileEntry.{FileEntry}
use Rattle.inode_table.specs.Listing.{listing, Ascend, Within, Differ}

-- the files in the order of their inodes, the next generation, and the greatest inode, which is how many files there may be
pub record Table : Type 0 where
  pub limit : ℕ
  pub next : ℕ
  pub files : List FileEntry

-- what is true of each table
pub record IsTable (limit next : ℕ) (files : List Listed) : Type 0 where
  pub ascend : Ascend 1 files
  pub within : Within limit next files
  pub differ : Differ files

abbrev pub entry_of : FileKey → List ℕ → ℕ → FileEntry
entry_of key name size = record { key = key; name = name; size = size }

-- the lowest free inode, with the next generation
abbrev pub next_key : Table → FileKey
next_key t = record { ino = free_inode 1 (listing t.files); igen = t.next }

-- one file more. Its generation and those before it aren't given again
abbrev pub with_file : FileEntry → Table → Table
with_file f t = record { limit = t.limit; next = max t.next (f.key.igen + 1); files = put_key (λ g. g.key) f t.files }
