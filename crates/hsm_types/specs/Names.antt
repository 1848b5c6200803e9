-- The words that can be names of files.
use Rattle.std.specs.Prelude.{ℕ, List, length, Bool, ◌==◌, ◌&&◌, not, nat_le}
use Rattle.std.specs.List.{list_all}
use Rattle.hsm_types.specs.Limits.{name_bytes}

-- a visible byte that is no slash
abbrev pub is_name_byte : ℕ → Bool
is_name_byte b = nat_le 0x21 b && nat_le b 0x7e && not (b == 47)

-- from 1 to `name_bytes` such bytes
abbrev pub is_name : List ℕ → Bool
is_name word = not (length word == 0) && nat_le (length word) name_bytes && list_all is_name_byte word
