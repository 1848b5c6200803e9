-- The lines of a drill are those of a script.
use Rattle.std.proofs.Common.{◌≡◌, ℕ, zero, suc, ◌+◌, ◌*◌, ◌^◌, ◌%◌, ◌<◌, ◌≤◌, true, false, List, [], ◌∷◌, ◌++◌, length, length-append, map, Some, refl, arith}
use Rattle.std.specs.Prelude.{sum_by, nat_lt, if◌then◌else◌}
use Rattle.std.specs.List.{list_all, range_with_len, AllByRecursion}
use Rattle.std.specs.Fmt.{decimal}
use Rattle.std.proofs.lemmas.Bool.Decides.{nat_tests}
use Rattle.std.proofs.lemmas.Fmt.{decimal_by_steps, length-decimal-le}
use Rattle.std.proofs.lemmas.List.Folds.{list_all-append}
use Rattle.std.proofs.lemmas.List.FromFn.{length-map-range_with_len}
use Rattle.std.proofs.lemmas.List.Sums.{sum_by-cons}
use Rattle.hsm_types.specs.declared.calls.Call.TheVariants.{Write}
use Rattle.hsm_types.specs.declared.daemons.Daemon.TheVariants.{Recall, Migrate}
use Rattle.script_text.specs.Limits.{line_bytes}
use Rattle.script_text.specs.declared.lines.Line.{Line}
use Rattle.script_text.specs.declared.lines.Line.TheVariants.{Start, Settle}
use Rattle.script_text.specs.Lines.{pattern, pattern_byte, line_text, is_word, is_word_byte, IsLine, access_length}
use Rattle.script_text.specs.Scripts.{AreLawful}
use Rattle.drill_script.specs.declared.draws.Turn.{Turn}
use Rattle.drill_script.specs.Drill.{file_name, line_of, create_line, write_line, read_line, truncate_line, read_bytes, write_bytes, turn_line}
use Rattle.drill_script.specs.Drill.{turn_from, next_turn, create_lines, turn_lines, drill_lines}

-- ---- lines that are lawful in any number below 16,384

pub record IsLight (line : Line) : Type 0 where
  pub lawful : IsLine line
  pub short : length (line_text line) ≤ line_bytes
  pub light : access_length line ≤ write_bytes

abbrev AreLight : List Line → Type 0
AreLight lines = AllByRecursion IsLight lines

each_lawful : (lines : List Line) → AreLight lines → AllByRecursion IsLine lines
each_lawful [] h = tt
each_lawful (line ∷ lines) h = (h.0.lawful, each_lawful lines h.1)

each_short : (lines : List Line) → AreLight lines → AllByRecursion (λ line. length (line_text line) ≤ line_bytes) lines
each_short [] h = tt
each_short (line ∷ lines) h = (h.0.short, each_short lines h.1)

all_light : (lines : List Line) → AreLight lines → sum_by access_length lines ≤ write_bytes * length lines
all_light [] h = omega arith
all_light (line ∷ lines) h =
    let first = h.0.light in
    let rest = all_light lines h.1 in
    rw (sum_by-cons access_length line lines) (omega arith)

AreLawful-light : (lines : List Line) → AreLight lines → length lines ≤ 16384 → AreLawful lines
AreLawful-light lines h few =
    let total = all_light lines h in
    record {
      lawful = each_lawful lines h;
      short = each_short lines h;
      few = omega arith;
      light = omega arith;
    }

AreLight-append : (lines more : List Line) → AreLight lines → AreLight more → AreLight (lines ++ more)
AreLight-append [] more h k = k
AreLight-append (line ∷ lines) more h k = (h.0, AreLight-append lines more h.1 k)

-- ---- names

visible_decimal : (n : ℕ) → n < 2 ^ 64 → list_all is_word_byte (decimal n) ≡ true
visible_decimal n small =
    decimal_by_steps
    (λ n ds. list_all is_word_byte ds ≡ true)
    (λ n below. grind (arith, nat_tests))
    (λ n ds many before. rw (list_all-append is_word_byte ds ((48 + n % 10) ∷ []), before) (grind (arith, nat_tests)))
    n
    small

is_word-cons : (b : ℕ) (bs : List ℕ) → is_word_byte b ≡ true → list_all is_word_byte bs ≡ true → is_word (b ∷ bs) ≡ true
is_word-cons b bs first rest = rw (first, rest) (grind (arith, nat_tests))

is_word-file_name : (f : ℕ) → f < 40 → is_word (file_name f) ≡ true
is_word-file_name f few = is_word-cons 102 (decimal f) refl (visible_decimal f (omega arith))

-- ---- lines

create_light : (f : ℕ) → f < 40 → IsLight (create_line f)
create_light f few =
    let one = length-decimal-le 1 1 (omega arith) (omega arith) (omega arith) in
    let digits = length-decimal-le 2 f (omega arith) (omega arith) (omega arith) in
    record {
      lawful = ((omega arith, omega arith), (is_word-file_name f few, refl));
      short = simp length-append (omega arith);
      light = omega arith;
    }

-- what a turn draws is below these
pub record IsTurn (t : Turn) : Type 0 where
  pub file : t.file < 40
  pub offset : t.offset < 262144
  pub seed : t.seed < 256

IsTurn-turn_from : (x : ℕ) → IsTurn (turn_from x)
unfolding turn_from
IsTurn-turn_from x = record { file = omega arith; offset = omega arith; seed = omega arith }

read_light : (t : Turn) → IsTurn t → IsLight (read_line t)
read_light t h =
    let few = h.file in let near = h.offset in
    let one = length-decimal-le 1 1 (omega arith) (omega arith) (omega arith) in
    let digits = length-decimal-le 2 t.file (omega arith) (omega arith) (omega arith) in
    let places = length-decimal-le 6 t.offset (omega arith) (omega arith) (omega arith) in
    let bytes = length-decimal-le 4 read_bytes (omega arith) (omega arith) (omega arith) in
    record {
      lawful = ((omega arith, omega arith), ((is_word-file_name t.file few, refl), ((omega arith, refl), (omega arith, refl))));
      short = simp length-append (omega arith);
      light = omega arith;
    }

truncate_light : (t : Turn) → IsTurn t → IsLight (truncate_line t)
truncate_light t h =
    let few = h.file in let near = h.offset in
    let one = length-decimal-le 1 1 (omega arith) (omega arith) (omega arith) in
    let digits = length-decimal-le 2 t.file (omega arith) (omega arith) (omega arith) in
    let places = length-decimal-le 6 t.offset (omega arith) (omega arith) (omega arith) in
    record {
      lawful = ((omega arith, omega arith), ((is_word-file_name t.file few, refl), (omega arith, refl)));
      short = simp length-append (omega arith);
      light = omega arith;
    }

length-pattern : (len seed : ℕ) → length (pattern len seed) ≡ len
length-pattern len seed = length-map-range_with_len (pattern_byte seed) 0 len

write_short : (t : Turn) (bytes : List ℕ) → IsTurn t → length bytes ≤ write_bytes → length (line_text (line_of (Write (file_name t.file) t.offset bytes) (Some t.seed))) ≤ line_bytes
write_short t bytes h few_bytes =
    let few = h.file in let near = h.offset in let low = h.seed in
    let one = length-decimal-le 1 1 (omega arith) (omega arith) (omega arith) in
    let digits = length-decimal-le 2 t.file (omega arith) (omega arith) (omega arith) in
    let places = length-decimal-le 6 t.offset (omega arith) (omega arith) (omega arith) in
    let count = length-decimal-le 5 (length bytes) (omega arith) (omega arith) (omega arith) in
    let seed = length-decimal-le 3 t.seed (omega arith) (omega arith) (omega arith) in
    simp length-append (omega arith)

write_access : (t : Turn) (bytes : List ℕ) → length bytes ≤ write_bytes → access_length (line_of (Write (file_name t.file) t.offset bytes) (Some t.seed)) ≤ write_bytes
write_access t bytes few_bytes = omega arith

write_light : (len : ℕ) (t : Turn) → len ≤ write_bytes → IsTurn t → IsLight (write_line len t)
unfolding write_line
write_light len t few_bytes h =
    let few = h.file in let near = h.offset in let low = h.seed in
    let many = length-pattern len t.seed in
    let fits : length (pattern len t.seed) ≤ write_bytes = omega arith in
    record {
      lawful = (
        (omega arith, omega arith),
        ((is_word-file_name t.file few, refl), ((omega arith, refl), (omega arith, omega arith, rw many refl))),
      );
      short = write_short t (pattern len t.seed) h fits;
      light = write_access t (pattern len t.seed) fits;
    }

turn_light : (t : Turn) → IsTurn t → IsLight (turn_line t)
unfolding turn_line
turn_light t h =
    elim (nat_lt t.action 5) as (λ writes. IsLight (if writes then write_line write_bytes t else if nat_lt t.action 9 then read_line t else truncate_line t)) [
      | true ↦ write_light write_bytes t (omega arith) h
      | false ↦ elim (nat_lt t.action 9) as (λ reads. IsLight (if reads then read_line t else truncate_line t)) [
        | true ↦ read_light t h
        | false ↦ truncate_light t h
      ]
    ]

Settle_light : IsLight Settle
Settle_light = record { lawful = tt; short = omega arith; light = omega arith }

-- ---- the script

each_create_light : (from count : ℕ) → from + count ≤ 40 → AreLight (map create_line (range_with_len from count))
each_create_light from zero few = tt
each_create_light from (suc count) few = (create_light from (omega arith), each_create_light (from + 1) count (omega arith))

create_lines_light : (count : ℕ) → count ≤ 40 → AreLight (create_lines count)
unfolding create_lines
create_lines_light count few = each_create_light 0 count (omega arith)

length-create_lines : (count : ℕ) → length (create_lines count) ≡ count
unfolding create_lines
length-create_lines count = length-map-range_with_len create_line 0 count

turn_lines_light : (count x : ℕ) → AreLight (turn_lines count x)
unfolding turn_lines
turn_lines_light zero x = tt
turn_lines_light (suc count) x = (turn_light (turn_from x) (IsTurn-turn_from x), (Settle_light, turn_lines_light count (next_turn x)))

length-turn_lines : (count x : ℕ) → length (turn_lines count x) ≡ 2 * count
unfolding turn_lines
length-turn_lines zero x = refl
length-turn_lines (suc count) x = let rest = length-turn_lines count (next_turn x) in omega arith

-- two daemons are started
starts_light : (rest : List Line) → AreLight rest → AreLight (Start Recall ∷ Start Migrate ∷ rest)
starts_light rest h =
    (record { lawful = tt; short = omega arith; light = omega arith }, (record { lawful = tt; short = omega arith; light = omega arith }, h))

opened_lawful : (count n : ℕ) (first : List Line) → AreLight first → length first ≡ 40 → count ≤ 600 → AreLawful (Start Recall ∷ Start Migrate ∷ first ++ turn_lines count n)
opened_lawful count n first h many few =
    let lines = starts_light (first ++ turn_lines count n) (AreLight-append first (turn_lines count n) h (turn_lines_light count n)) in
    let all = length-append first (turn_lines count n) in
    let drawn = length-turn_lines count n in
    AreLawful-light _ lines (omega arith)

pub drill_lawful : (n : ℕ) → AreLawful (drill_lines n)
unfolding drill_lines
drill_lawful n = opened_lawful 600 n (create_lines 40) (create_lines_light 40 (omega arith)) (length-create_lines 40) (omega arith)
