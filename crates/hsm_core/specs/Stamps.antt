-- Stamps as they are kept.
use Rattle.std.specs.Prelude.{ℕ, List, Option, Some, None}
use Rattle.std.specs.Map.{lookup}
use Rattle.hsm_types.specs.declared.keys.FileKey.{FileKey}
use Rattle.hsm_types.specs.Keyed.{same_key}

abbrev pub number_or_none : Option ℕ → ℕ
number_or_none None = 0
number_or_none (Some number) = number

-- the stamp of the file with that key, 0 where none is kept
abbrev pub stamp_in : List (FileKey × ℕ) → FileKey → ℕ
stamp_in entries k = number_or_none (lookup (same_key k) entries)
