-- Files as calls are judged by them.
use Rattle.std.specs.Prelude.{ℕ, ◌+◌, List, [], ◌∷◌, ◌==◌, if◌then◌else◌, Option, Some, None}
use Rattle.std.specs.Str.{bytes_eq}
use Rattle.hsm_types.specs.declared.keys.FileKey.{FileKey}

-- the key and the name of a file
pub record Listed : Type 0 where
  pub key : FileKey
  pub name : List ℕ

-- the file of that name, if there is one
abbrev pub named : List ℕ → List Listed → Option Listed
named name [] = None
named name (l ∷ ls) = if bytes_eq l.name name then Some l else named name ls

-- the lowest inode from n on that no file has
abbrev pub free_inode : ℕ → List Listed → ℕ
free_inode n [] = n
free_inode n (l ∷ ls) = if l.key.ino == n then free_inode (n + 1) ls else n
