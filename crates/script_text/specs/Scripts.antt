-- Scripts: bytes that are lines, each ended by a newline byte. The last newline may be missing.
use Rattle.std.specs.Prelude.{ℕ, ◌≡◌, ◌+◌, ◌<◌, ◌≤◌, ◌==◌, List, [], ◌∷◌, ◌++◌, length, sum_by, if◌then◌else◌}
use Rattle.std.specs.List.{slice_split, flat_map, AllByRecursion}
use Rattle.script_text.specs.Limits.{line_bytes, script_lines, script_access_bytes}
use Rattle.script_text.specs.declared.lines.Allowed.{Allowed}
use Rattle.script_text.specs.declared.lines.Allowed.TheVariants.{All}
use Rattle.script_text.specs.declared.lines.Line.{Line}
use Rattle.script_text.specs.declared.parser.ParseRefusal.{ParseRefusal}
use Rattle.script_text.specs.declared.parser.ParseRefusal.TheVariants.{BadLine, Memory}
use Rattle.script_text.specs.Lines.{line_text, IsLine, IsAllowed, access_length}

-- the texts but for an empty last one
abbrev pub ended_texts : List (List ℕ) → List (List ℕ)
ended_texts [] = []
ended_texts (text ∷ []) = if length text == 0 then [] else text ∷ []
ended_texts (text ∷ next ∷ texts) = text ∷ ended_texts (next ∷ texts)

-- the texts of the lines
abbrev pub texts_of : List ℕ → List (List ℕ)
texts_of bytes = ended_texts (slice_split (λ b. b == 10) bytes)

-- the text is that of the line, which is allowed and may come after the lines before it
pub record IsNextLine (allowed : Allowed) (before : List Line) (text : List ℕ) (line : Line) : Type 0 where
  pub spelled : text ≡ line_text line
  pub lawful : IsLine line
  pub taken : IsAllowed allowed line
  pub short : length text ≤ line_bytes
  pub few : length before < script_lines
  pub light : sum_by access_length before + access_length line ≤ script_access_bytes

-- one by one, the texts are those of the lines
abbrev pub AreLines : Allowed → List Line → List (List ℕ) → List Line → Type 0
AreLines allowed before [] [] = Unit {0}
AreLines allowed before (text ∷ texts) (line ∷ lines) = IsNextLine allowed before text line × AreLines allowed (before ++ line ∷ []) texts lines
AreLines allowed before [] (line ∷ lines) = ⊥
AreLines allowed before (text ∷ texts) [] = ⊥

-- a script of allowed lines
abbrev pub IsScriptOf : Allowed → List ℕ → List Line → Type 0
IsScriptOf allowed bytes lines = AreLines allowed [] (texts_of bytes) lines

-- a script, of lines of any kind
abbrev pub IsScript : List ℕ → List Line → Type 0
IsScript bytes lines = IsScriptOf All bytes lines

-- lines that a script may have: lawful ones, none too long, not too many, and not too much access in all
pub record AreLawful (lines : List Line) : Type 0 where
  pub lawful : AllByRecursion IsLine lines
  pub short : AllByRecursion (λ line. length (line_text line) ≤ line_bytes) lines
  pub few : length lines ≤ script_lines
  pub light : sum_by access_length lines ≤ script_access_bytes

-- the text of lines, each ended by a newline byte
abbrev pub script_text : List Line → List ℕ
script_text lines = flat_map (λ line. line_text line ++ 10 ∷ []) lines

-- the first texts are those of allowed lines, and with the next one, the n-th, no allowed line goes on
pub record IsFirstBadOf (allowed : Allowed) (bytes : List ℕ) (n : ℕ) : Type 0 where
  pub texts : List (List ℕ)
  pub lines : List Line
  pub text : List ℕ
  pub rest : List (List ℕ)
  pub split : texts_of bytes ≡ texts ++ text ∷ rest
  pub before : AreLines allowed [] texts lines
  pub bad : (line : Line) → ¬ (IsNextLine allowed lines text line)
  pub count : n ≡ length texts + 1

-- the same where lines of any kind are allowed
abbrev pub IsFirstBad : List ℕ → ℕ → Type 0
IsFirstBad bytes n = IsFirstBadOf All bytes n

-- what a refusal tells of the bytes. Want of memory tells nothing
abbrev pub Tells : Allowed → List ℕ → ParseRefusal → Type 0
Tells allowed bytes (BadLine n) = IsFirstBadOf allowed bytes n
Tells allowed bytes Memory = Unit {0}
