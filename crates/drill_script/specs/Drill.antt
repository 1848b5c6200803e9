-- The script of a drill, which is drawn from one number.
use Rattle.std.specs.Prelude.{ℕ, zero, suc, ◌+◌, ◌*◌, ◌/◌, ◌%◌, ◌^◌, List, [], ◌∷◌, ◌++◌, map, codes, Option, Some, None, nat_lt, if◌then◌else◌}
use Rattle.std.specs.List.{range_with_len}
use Rattle.std.specs.Fmt.{decimal}
use Rattle.hsm_types.specs.Limits.{block_bytes}
use Rattle.hsm_types.specs.declared.calls.Call.{Call}
use Rattle.hsm_types.specs.declared.calls.Call.TheVariants.{Create, Read, Write, Truncate}
use Rattle.hsm_types.specs.declared.daemons.Daemon.TheVariants.{Recall, Migrate}
use Rattle.plain_model.specs.declared.entries.Actor.TheVariants.{Caller}
use Rattle.plain_model.specs.declared.entries.Action.TheVariants.{Issue}
use Rattle.script_text.specs.declared.lines.Line.{Line}
use Rattle.script_text.specs.declared.lines.Line.TheVariants.{Event, Start, Settle}
use Rattle.script_text.specs.Lines.{pattern}
use Rattle.drill_script.specs.declared.draws.Turn.{Turn}

-- ---- draws

-- a draw replaces x by this
unfoldable pub next : ℕ → ℕ
next x = (6364136223846793005 * x + 1442695040888963407) % 2 ^ 64

-- and it gives this of m
abbrev pub draw : ℕ → ℕ → ℕ
draw m x = next x / 2 ^ 33 % m

-- what a turn draws, in this order
unfoldable pub turn_from : ℕ → Turn
turn_from x = record {
  action = draw 10 x;
  file = draw 40 (next x);
  offset = block_bytes * draw 64 (next (next x));
  seed = draw 256 (next (next (next x)));
}

-- the x that the turn leaves
abbrev pub next_turn : ℕ → ℕ
next_turn x = next (next (next (next x)))

-- ---- lines

abbrev pub file_name : ℕ → List ℕ
file_name file = codes "f" ++ decimal file

-- a call of caller 1, and the seed of its data if they are given by one
abbrev pub line_of : Call → Option ℕ → Line
line_of call seed = Event (Caller 1) (Issue call) seed

abbrev pub create_line : ℕ → Line
create_line file = line_of (Create (file_name file)) None

-- a write of that many bytes
unfoldable pub write_line : ℕ → Turn → Line
write_line len turn = line_of (Write (file_name turn.file) turn.offset (pattern len turn.seed)) (Some turn.seed)

-- how many bytes a turn reads
abbrev pub read_bytes : ℕ
read_bytes = 4096

abbrev pub read_line : Turn → Line
read_line turn = line_of (Read (file_name turn.file) turn.offset read_bytes) None

abbrev pub truncate_line : Turn → Line
truncate_line turn = line_of (Truncate (file_name turn.file) turn.offset) None

-- and how many it writes
abbrev pub write_bytes : ℕ
write_bytes = 32768

-- of ten actions five write, four read and one truncates
unfoldable pub turn_line : Turn → Line
turn_line turn =
    if nat_lt turn.action 5 then write_line write_bytes turn
    else if nat_lt turn.action 9 then read_line turn
    else truncate_line turn

-- the first files are created
unfoldable pub create_lines : ℕ → List Line
create_lines count = map create_line (range_with_len 0 count)

-- that many turns, each with a settle behind it
unfoldable pub turn_lines : ℕ → ℕ → List Line
turn_lines zero x = []
turn_lines (suc count) x = turn_line (turn_from x) ∷ Settle ∷ turn_lines count (next_turn x)

-- the script that a drill makes of n
unfoldable pub drill_lines : ℕ → List Line
drill_lines n = Start Recall ∷ Start Migrate ∷ create_lines 40 ++ turn_lines 600 n
