-- What is printed is read again.
use Rattle.std.proofs.Common.{◌≡◌, ℕ, ◌+◌, ◌≤◌, List, [], ◌∷◌, ◌++◌, length, map, refl, sym, ap, ◌∙◌, subst, arith, append_assoc, length-append}
use Rattle.std.specs.Prelude.{sum_by}
use Rattle.std.specs.List.{AllByRecursion}
use Rattle.std.proofs.lemmas.List.Sums.{sum_by_push, sum_by-cons}
use Rattle.script_text.specs.Limits.{line_bytes, script_lines, script_access_bytes}
use Rattle.script_text.specs.declared.lines.Allowed.{Allowed}
use Rattle.script_text.specs.declared.lines.Allowed.TheVariants.{All}
use Rattle.script_text.specs.declared.lines.Line.{Line}
use Rattle.script_text.specs.Lines.{line_text, IsLine, IsAllowed, access_length}
use Rattle.script_text.specs.Scripts.{texts_of, AreLines, IsScriptOf, IsScript, AreLawful, script_text}
use Rattle.script_text.specs.Laws.{IsReadAgainOf, IsReadAgain}
use Rattle.script_text.proofs.Cutting.{texts_of-line}
use Rattle.script_text.proofs.Speaking.{Lacks-newline}
use Rattle.script_text.proofs.NextLines.{one_script, of_allowed}

abbrev AreShort : List Line → Type 0
AreShort lines = AllByRecursion (λ line. length (line_text line) ≤ line_bytes) lines

-- ---- from lines to their text

texts_of-script : (lines : List Line) → AllByRecursion IsLine lines → texts_of (script_text lines) ≡ map line_text lines
texts_of-script [] h = refl
texts_of-script (line ∷ lines) h =
    ap texts_of (append_assoc (line_text line) (10 ∷ []) (script_text lines))
    ∙ texts_of-line (line_text line) (script_text lines) (Lacks-newline line h.0)
    ∙ ap (λ ts. line_text line ∷ ts) (texts_of-script lines h.1)

lines_go_on : (before lines : List Line) → AllByRecursion IsLine lines → AreShort lines → length before + length lines ≤ script_lines
    → sum_by access_length before + sum_by access_length lines ≤ script_access_bytes → AreLines All before (map line_text lines) lines
lines_go_on before [] h short few light = tt
lines_go_on before (line ∷ lines) h short few light =
    let count = length-append before (line ∷ []) in
    let pushed = sum_by_push access_length before line in
    let first = sum_by-cons access_length line lines in (
      record { spelled = refl; lawful = h.0; taken = tt; short = short.0; few = omega (arith, few); light = omega (arith, first, light) },
      lines_go_on (before ++ line ∷ []) lines h.1 short.1 (omega (arith, count, few)) (omega (arith, pushed, first, light)),
    )

pub read_again : (lines : List Line) → AreLawful lines → IsReadAgain lines
read_again lines a =
    let P : List (List ℕ) → Type 0 = λ ts. AreLines All [] ts lines in
    let script : IsScript (script_text lines) lines =
    subst P (sym (texts_of-script lines a.lawful)) (lines_go_on [] lines a.lawful a.short (omega (arith, a.few)) (omega (arith, a.light))) in
    record { script = script; one = one_script All (script_text lines) lines script }

pub read_again_of : (allowed : Allowed) (lines : List Line) → AreLawful lines → AllByRecursion (IsAllowed allowed) lines → IsReadAgainOf allowed lines
read_again_of allowed lines a each =
    let script = (of_allowed allowed (script_text lines) lines).1 ((read_again lines a).script, each) in
    record { script = script; one = one_script allowed (script_text lines) lines script }

-- ---- from a script to its lines

lawful_lines : (before : List Line) (texts : List (List ℕ)) (lines : List Line) → AreLines All before texts lines → AllByRecursion IsLine lines
lawful_lines before [] [] h = tt
lawful_lines before (text ∷ texts) (line ∷ lines) h = (h.0.lawful, lawful_lines (before ++ line ∷ []) texts lines h.1)
lawful_lines before [] (line ∷ lines) h = absurd h
lawful_lines before (text ∷ texts) [] h = absurd h

short_lines : (before : List Line) (texts : List (List ℕ)) (lines : List Line) → AreLines All before texts lines → AreShort lines
short_lines before [] [] h = tt
short_lines before (text ∷ texts) (line ∷ lines) h = (rw h.0.spelled at h.0.short, short_lines (before ++ line ∷ []) texts lines h.1)
short_lines before [] (line ∷ lines) h = absurd h
short_lines before (text ∷ texts) [] h = absurd h

few_lines : (before : List Line) (texts : List (List ℕ)) (lines : List Line) → AreLines All before texts lines → length before ≤ script_lines → length before + length lines ≤ script_lines
few_lines before [] [] h few = omega (arith, few)
few_lines before (text ∷ texts) (line ∷ lines) h few =
    let count = length-append before (line ∷ []) in
    omega (arith, count, few_lines (before ++ line ∷ []) texts lines h.1 (omega (arith, count, h.0.few)))
few_lines before [] (line ∷ lines) h few = absurd h
few_lines before (text ∷ texts) [] h few = absurd h

light_lines : (before : List Line) (texts : List (List ℕ)) (lines : List Line) → AreLines All before texts lines → sum_by access_length before ≤ script_access_bytes
    → sum_by access_length before + sum_by access_length lines ≤ script_access_bytes
light_lines before [] [] h light = omega (arith, light)
light_lines before (text ∷ texts) (line ∷ lines) h light =
    let pushed = sum_by_push access_length before line in
    let first = sum_by-cons access_length line lines in
    omega (arith, pushed, first, light_lines (before ++ line ∷ []) texts lines h.1 (omega (arith, pushed, h.0.light)))
light_lines before [] (line ∷ lines) h light = absurd h
light_lines before (text ∷ texts) [] h light = absurd h

pub script_lawful : (allowed : Allowed) (bytes : List ℕ) (lines : List Line) → IsScriptOf allowed bytes lines → AreLawful lines
script_lawful allowed bytes lines read = let h = ((of_allowed allowed bytes lines).0 read).0 in record {
  lawful = lawful_lines [] (texts_of bytes) lines h;
  short = short_lines [] (texts_of bytes) lines h;
  few = omega (arith, few_lines [] (texts_of bytes) lines h (omega arith));
  light = omega (arith, light_lines [] (texts_of bytes) lines h (omega arith));
}
