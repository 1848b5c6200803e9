-- What the holder of a seat knows of the published entries, and how each kind of step changes that.
use Rattle.std.specs.Prelude.{ℕ, ◌≡◌, ◌+◌, ◌≤◌, ◌==◌, ◌||◌, true, false, List, [], ◌∷◌, ◌++◌, length, filter, nat_le, if◌then◌else◌}
use mathlib.Core.List.{IsPrefix}
use Rattle.hsm_types.specs.declared.calls.Reply.TheVariants.{Done}
use Rattle.plain_model.specs.declared.entries.Entry.{Entry}
use Rattle.plain_model.specs.declared.entries.Actor.TheVariants.{Store}
use Rattle.plain_model.specs.declared.entries.Action.TheVariants.{Commit}
use Rattle.plain_model.specs.declared.entries.Answer.TheVariants.{Call}
use Rattle.call_seats.specs.declared.views.Mark.{Mark}
use Rattle.call_seats.specs.declared.views.View.{View}

-- ---- lists of marks

abbrev pub mark : ℕ → Entry → Mark
mark number entry = record { by = number; entry = entry }

-- the entries that the pass with this number made, in their order
abbrev pub made_by : ℕ → List Mark → List Mark
made_by number marks = filter (λ m. m.by == number) marks

-- if it isn't the longer one, it is a prefix of the other
abbrev pub Begins : List Mark → List Mark → Type 0
Begins xs ys = length xs ≤ length ys → IsPrefix xs ys

abbrev pub longer : List Mark → List Mark → List Mark
longer xs ys = if nat_le (length xs) (length ys) then ys else xs

-- ---- views

-- has seen nothing, and may nothing
abbrev pub spent : View
spent = record { right = false; gives = false; count = 0; named = false; number = 0; seen = []; made = []; one = []; two = []; one_whole = false; two_whole = false }

-- 1: pass 0, which has given out none
abbrev pub first_view : View
first_view = record spent { right = true; gives = true; named = true }

-- 2: it has given out one more, and that one has this number
abbrev pub dealing : View → View
dealing v = record v { count = v.count + 1 }

abbrev pub dealt : View → View
dealt v = record spent { named = true; number = v.count + 1 }

-- 3: the note has what was seen, and the right
abbrev pub without_right : View → View
without_right v = record v { right = false }

abbrev pub note_of : View → View
note_of v = record spent { right = v.right; seen = v.seen }

-- 4 and 7: the longer list is kept, with both, and the right
abbrev pub joined : View → View → View
joined v w = record v { right = v.right || w.right; seen = longer v.seen w.seen; one = v.seen; two = w.seen; one_whole = v.right; two_whole = w.right }

-- Two passes that tell each other: a note of the first goes to the second, and then a note of that goes back.
abbrev pub informed : View → View → View
informed v w = joined w (note_of v)

abbrev pub answered : View → View → View
answered v w = joined (without_right v) (note_of (informed v w))

-- 5: of the two lists that were joined one is a prefix of the other, and the one with the right is the longer
pub record Tells (v : View) : Type 0 where
  pub one : Begins v.one v.two
  pub two : Begins v.two v.one
  pub one_whole : v.one_whole ≡ true → IsPrefix v.two v.one
  pub two_whole : v.two_whole ≡ true → IsPrefix v.one v.two

-- and what it has seen of its number is what it made
abbrev pub Owns : View → Type 0
Owns v = v.named ≡ true → made_by v.number v.seen ≡ v.made

-- 6: the entry ends both lists
abbrev pub appended : View → Entry → View
appended v entry = record v { seen = v.seen ++ mark v.number entry ∷ []; made = v.made ++ mark v.number entry ∷ [] }

-- some entry, for a name that names none
abbrev pub some_entry : Entry
some_entry = record { actor = Store; action = Commit; answer = Call Done }
