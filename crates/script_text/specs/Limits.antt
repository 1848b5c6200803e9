-- The limits of scripts and of their lines.
use Rattle.std.specs.Prelude.{ℕ}

-- the bytes of the longest line, without its newline
abbrev pub line_bytes : ℕ
line_bytes = 4096

-- the lines of the longest script
abbrev pub script_lines : ℕ
script_lines = 100000

-- the most bytes that the accesses of a script may have together
abbrev pub script_access_bytes : ℕ
script_access_bytes = 536870912

-- the most regions of a line
abbrev pub line_regions : ℕ
line_regions = 64

-- the bytes of the longest data that are given by a seed
abbrev pub pattern_bytes : ℕ
pattern_bytes = 131072

-- the greatest seed
abbrev pub greatest_seed : ℕ
greatest_seed = 255
