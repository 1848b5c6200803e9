-- What holds of the table's word and of all views, between any two steps.
use Rattle.std.specs.Prelude.{ℕ, ◌≡◌, ◌<◌, ◌≤◌, true, List, [], length, slice_index}
use mathlib.Core.Option.{some}
use mathlib.Core.List.{IsPrefix}
use lib.ListN.{get_elem?}
use Rattle.call_seats.specs.declared.views.Mark.{Mark}
use Rattle.call_seats.specs.declared.views.View.{View}
use Rattle.call_seats.specs.Views.{made_by, Begins}

-- ---- the rule, by the list of all that was published

-- What is so of the view of one seat. It has seen a prefix of all, and with the right all. The entries of its number are those that it made, and it has
-- seen them.
pub record Fits (holder giver count : ℕ) (all : List Mark) (seat : ℕ) (v : View) : Type 0 where
  pub seen : IsPrefix v.seen all
  pub one : IsPrefix v.one all
  pub two : IsPrefix v.two all
  pub one_whole : v.one_whole ≡ true → IsPrefix v.two v.one
  pub two_whole : v.two_whole ≡ true → IsPrefix v.one v.two
  pub right : v.right ≡ true → (seat ≡ holder) × (v.seen ≡ all)
  pub gives : v.gives ≡ true → (seat ≡ giver) × (v.count ≡ count)
  pub made : v.named ≡ true → (made_by v.number all ≡ v.made) × (made_by v.number v.seen ≡ v.made)
  pub number : v.named ≡ true → v.number ≤ count

-- no two passes have one number
abbrev pub Apart : List View → Type 0
Apart views = (i j : ℕ) (v w : View) → get_elem? views i ≡ some v → get_elem? views j ≡ some w → v.named ≡ true → w.named ≡ true → v.number ≡ w.number → i ≡ j

-- a number that wasn't given out has made nothing
abbrev pub Fresh : ℕ → List Mark → Type 0
Fresh count all = (number : ℕ) → count < number → made_by number all ≡ []

abbrev pub HasRight : List View → ℕ → Type 0
HasRight views seat = (v : View) × (get_elem? views seat ≡ some v) × (v.right ≡ true)

pub record Kept (words : List ℕ) (views : List View) : Type 0 where
  pub all : List Mark
  pub holder : ℕ
  pub giver : ℕ
  pub count : ℕ
  pub nonempty : 0 < length words
  pub word : slice_index words 0 ≡ length all
  pub right : HasRight views holder
  pub fits : (seat : ℕ) (v : View) → get_elem? views seat ≡ some v → Fits holder giver count all seat v
  pub apart : Apart views
  pub fresh : Fresh count all

-- ---- the same of views alone

-- exactly one has the right, and its list is as long as the word says
pub record OneWrites (words : List ℕ) (views : List View) : Type 0 where
  pub holder : ℕ
  pub writer : View
  pub there : get_elem? views holder ≡ some writer
  pub right : writer.right ≡ true
  pub whole : length writer.seen ≡ slice_index words 0
  pub only : (seat : ℕ) (v : View) → get_elem? views seat ≡ some v → v.right ≡ true → seat ≡ holder

-- of any two lists seen one is a prefix of the other, and none is longer than the word says
abbrev pub SeeOneList : List ℕ → List View → Type 0
SeeOneList words views = ((i j : ℕ) (v w : View) → get_elem? views i ≡ some v → get_elem? views j ≡ some w → Begins v.seen w.seen)
    × ((i : ℕ) (v : View) → get_elem? views i ≡ some v → length v.seen ≤ slice_index words 0)

-- the numbers of passes differ, and are at most the count that pass 0 keeps
abbrev pub AreNumbered : List View → Type 0
AreNumbered views = Apart views
    × ((i j : ℕ) (v w : View) → get_elem? views i ≡ some v → get_elem? views j ≡ some w → v.named ≡ true → w.gives ≡ true → v.number ≤ w.count)

-- a pass has seen just what it made of the entries of its number, and each list seen has a prefix of those
abbrev pub SeeTheirOwn : List View → Type 0
SeeTheirOwn views = ((i : ℕ) (v : View) → get_elem? views i ≡ some v → v.named ≡ true → made_by v.number v.seen ≡ v.made)
    × ((i j : ℕ) (v w : View) → get_elem? views i ≡ some v → get_elem? views j ≡ some w → v.named ≡ true → IsPrefix (made_by v.number w.seen) v.made)

pub record IsOrderly (words : List ℕ) (views : List View) : Type 0 where
  pub writes : OneWrites words views
  pub sees : SeeOneList words views
  pub numbers : AreNumbered views
  pub own : SeeTheirOwn views
