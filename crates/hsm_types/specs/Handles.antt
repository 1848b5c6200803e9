-- Keys of files, and their handles as the bytes that sessions and media have.
use Rattle.std.specs.Prelude.{ℕ, ◌<◌, ◌^◌, List, ◌++◌, Bool, ◌==◌, ◌&&◌}
use Rattle.byteorder.specs.Endian.{big_bytes}
use Rattle.hsm_types.specs.declared.keys.FileKey.{FileKey}
use Rattle.hsm_types.specs.declared.keys.Handle.{Handle}

abbrev pub same_key : FileKey → FileKey → Bool
same_key j k = (j.ino == k.ino) && (j.igen == k.igen)

-- the file system id, the inode and the generation, in eight bytes each, the highest first
unfoldable pub handle_bytes : Handle → List ℕ
handle_bytes h = big_bytes 8 h.fsid ++ big_bytes 8 h.key.ino ++ big_bytes 8 h.key.igen

-- each number is one of 64 bits, as in every handle of a program
pub record IsHandle (h : Handle) : Type 0 where
  pub fsid : h.fsid < 2 ^ 64
  pub ino : h.key.ino < 2 ^ 64
  pub igen : h.key.igen < 2 ^ 64
