-- What contracts see of passes and of their desk.
use Rattle.std.specs.Prelude.{ℕ, ◌≡◌, ◌<◌, ◌≤◌, ◌==◌, ◌||◌, Bool, true, false, List, [], ◌∷◌, ◌++◌, map, IsTrue, Option, None, Some}
use Rattle.std.specs.List.{range_with_len, list_any}
use mathlib.Core.List.{IsPrefix}
use Rattle.atomic_table.specs.Seated.{TableId}
use Rattle.plain_model.specs.declared.entries.Entry.{Entry}
use Rattle.call_seats.specs.declared.views.Mark.{Mark}
use Rattle.call_seats.specs.declared.views.View.{View}
use Rattle.call_seats.specs.Views.{mark, made_by, longer, Begins}

-- what the holder of a pass knows: of which desk's table it is, its number, whether it may append, and what it has seen and made
pub record Knowledge : Type 0 where
  pub table : TableId
  pub number : ℕ
  pub right : Bool
  pub seen : List Mark
  pub made : List Mark

abbrev pub known_to : TableId → View → Knowledge
known_to table v = record { table = table; number = v.number; right = v.right; seen = v.seen; made = v.made }

-- a desk: its table, and how many passes it gave out
pub record DeskState : Type 0 where
  pub table : TableId
  pub passes : ℕ

-- ---- given out

-- with nothing seen yet
abbrev pub new_pass : TableId → Bool → ℕ → Knowledge
new_pass table right number = record { table = table; number = number; right = right; seen = []; made = [] }

-- those numbered 1 to count, in order
abbrev pub new_passes : TableId → ℕ → List Knowledge
new_passes table count = map (new_pass table false) (range_with_len 1 count)

-- a pass in the list has this number
abbrev pub has_number : ℕ → List Knowledge → Bool
has_number number passes = list_any (λ p. p.number == number) passes

-- each number from 1 to count is that of a pass in the list
abbrev pub AreAll : ℕ → List Knowledge → Type 0
AreAll count passes = (number : ℕ) → 0 < number → number ≤ count → IsTrue (has_number number passes)

-- ---- publishing and meeting

-- the entry ends both of its lists
abbrev pub published : Entry → Knowledge → Knowledge
published entry p = record p { seen = p.seen ++ mark p.number entry ∷ []; made = p.made ++ mark p.number entry ∷ [] }

-- Two passes that met: both have seen the longer of their lists, and the right, where either had it, is with the first.
abbrev pub met : Knowledge → Knowledge → Knowledge × Knowledge
met a b = (record a { seen = longer a.seen b.seen; right = a.right || b.right }, record b { seen = longer a.seen b.seen; right = false })

-- The shorter of two lists is a prefix of the other. Who has the right has seen the longer one.
pub record SawOneList (a b : Knowledge) : Type 0 where
  pub first : Begins a.seen b.seen
  pub second : Begins b.seen a.seen
  pub first_all : a.right ≡ true → IsPrefix b.seen a.seen
  pub second_all : b.right ≡ true → IsPrefix a.seen b.seen

-- ---- publishing for a pass by the right of the pen's

-- the marks of what is published for the pass with that number
abbrev pub marks_for : ℕ → Option Entry → List Mark
marks_for number None = []
marks_for number (Some entry) = mark number entry ∷ []

-- The pen's pass had the right, and so had seen all. The other one had seen a beginning of that, and now has seen all and its own entry. So has the pen's,
-- which has the right as before.
pub record PublishedFor (entry : Option Entry) (whole p whole_now p_now : Knowledge) : Type 0 where
  pub begins : IsPrefix p.seen whole.seen
  pub pass : p_now ≡ record p { right = false; seen = whole.seen ++ marks_for p.number entry; made = p.made ++ marks_for p.number entry }
  pub pen : whole_now ≡ record whole { seen = whole.seen ++ marks_for p.number entry }
  pub owns : made_by p_now.number p_now.seen ≡ p_now.made

-- ---- ending

-- What this pass had seen begins what the whole list is, and it has made just the entries of its number there.
pub record IsOf (all : List Mark) (p : Knowledge) : Type 0 where
  pub begins : IsPrefix p.seen all
  pub made : made_by p.number all ≡ p.made
