-- Laws of all scripts.
use Rattle.std.specs.Prelude.{ℕ, ◌≡◌, ◌↔◌, List}
use Rattle.std.specs.List.{AllByRecursion}
use Rattle.script_text.specs.declared.lines.Allowed.{Allowed}
use Rattle.script_text.specs.declared.lines.Allowed.TheVariants.{All}
use Rattle.script_text.specs.declared.lines.Line.{Line}
use Rattle.script_text.specs.Lines.{IsAllowed}
use Rattle.script_text.specs.Scripts.{IsScriptOf, IsScript, IsFirstBadOf, script_text}

-- The same bytes are no two scripts, and bytes that are a script have no bad line.
pub record IsOneScriptOf (allowed : Allowed) (bytes : List ℕ) (lines : List Line) : Type 0 where
  pub one : (others : List Line) → IsScriptOf allowed bytes others → others ≡ lines
  pub good : (n : ℕ) → ¬ (IsFirstBadOf allowed bytes n)

abbrev pub IsOneScript : List ℕ → List Line → Type 0
IsOneScript bytes lines = IsOneScriptOf All bytes lines

-- The first bad line is one.
abbrev pub FirstBadIsOneOf : Allowed → List ℕ → Type 0
FirstBadIsOneOf allowed bytes = (m n : ℕ) → IsFirstBadOf allowed bytes m → IsFirstBadOf allowed bytes n → m ≡ n

abbrev pub FirstBadIsOne : List ℕ → Type 0
FirstBadIsOne bytes = FirstBadIsOneOf All bytes

-- A script of allowed lines is a script, and each of its lines is allowed.
abbrev pub IsOfAllowed : Allowed → List ℕ → List Line → Type 0
IsOfAllowed allowed bytes lines = IsScriptOf allowed bytes lines ↔ (IsScript bytes lines × AllByRecursion (IsAllowed allowed) lines)

-- The text of lawful lines, if they are allowed, is a script of these lines, and of no others.
pub record IsReadAgainOf (allowed : Allowed) (lines : List Line) : Type 0 where
  pub script : IsScriptOf allowed (script_text lines) lines
  pub one : IsOneScriptOf allowed (script_text lines) lines

abbrev pub IsReadAgain : List Line → Type 0
IsReadAgain lines = IsReadAgainOf All lines
