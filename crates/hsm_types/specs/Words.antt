-- Words of the lines that are told.
use Rattle.std.specs.Prelude.{ℕ, List, ◌++◌, codes}
use Rattle.std.specs.List.{join_with_byte}
use Rattle.std.specs.Fmt.{decimal}
use Rattle.hsm_types.specs.declared.keys.FileKey.{FileKey}

-- words with a space between each two
abbrev pub spaced : List (List ℕ) → List ℕ
spaced words = join_with_byte 32 words

-- a key: the inode and the generation
abbrev pub key_word : FileKey → List ℕ
key_word k = decimal k.ino ++ codes "." ++ decimal k.igen
