-- The hash of handles.
use Rattle.std.specs.Prelude.{ℕ, ◌*◌, ◌%◌, ◌^◌, List, fold, bit_xor}

-- FNV-1a of 64 bits: each byte is xored into the hash, which is then multiplied by a prime
abbrev pub fnv_1a : List ℕ → ℕ
fnv_1a bytes = fold (λ hash byte. bit_xor hash byte * 0x100_0000_01b3 % 2 ^ 64) 0xcbf2_9ce4_8422_2325 bytes
