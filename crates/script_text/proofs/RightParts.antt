-- What rights spell.
use Rattle.std.proofs.Common.{◌≡◌, ℕ, List, refl}
use Rattle.std.specs.Prelude.{codes, if◌then◌else◌}
use Rattle.std.specs.Str.{bytes_eq}
use Rattle.hsm_types.specs.declared.dm.Right.{Right}
use Rattle.hsm_types.specs.declared.dm.Right.TheVariants.{Null, Shared, Excl}
use Rattle.event_text.specs.Render.{right_word}
use Rattle.script_text.specs.Lines.{IsAskedRight}
use Rattle.script_text.proofs.Spelling.{IsVisible}

-- a right that is asked for is got back from its word
abbrev pub right_at : List ℕ → Right
right_at word = if bytes_eq word (codes "shared") then Shared else Excl

pub right_at-word : (right : Right) → IsAskedRight right → right_at (right_word right) ≡ right
right_at-word Null h = absurd h
right_at-word Shared h = refl
right_at-word Excl h = refl

pub visible_right : (right : Right) → IsVisible (right_word right)
visible_right Null = refl
visible_right Shared = refl
visible_right Excl = refl
