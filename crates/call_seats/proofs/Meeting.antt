-- What passes know that have met.
use Rattle.std.proofs.Common.{◌≡◌, ◌||◌, Bool, true, false, List, refl, ◌∙◌}
use Rattle.atomic_table.specs.Seated.{TableId}
use Rattle.call_seats.specs.declared.views.Mark.{Mark}
use Rattle.call_seats.specs.declared.views.View.{View}
use Rattle.call_seats.specs.Views.{without_right, informed, answered, Begins, Tells, longer}
use Rattle.call_seats.specs.Passes.{known_to, met, SawOneList}
use Rattle.call_seats.proofs.Beginnings.{prefix_whole, longer_by, longer_again}

-- of a list and a prefix of it, in either order the same one is the longer
longer_swap : (xs ys : List Mark) → Begins xs ys → Begins ys xs → longer ys xs ≡ longer xs ys
longer_swap xs ys p q =
    longer_by (λ (l : List Mark). longer ys xs ≡ l) xs ys
    (λ le. longer_by (λ (l : List Mark). l ≡ ys) ys xs (λ ge. prefix_whole xs ys (p le) ge) (λ _. refl))
    (λ ge. longer_by (λ (l : List Mark). l ≡ xs) ys xs (λ _. refl) (λ le. prefix_whole ys xs (q ge) le))

or_swap : (a b : Bool) → (b || a) ≡ (a || b)
or_swap true true = refl
or_swap true false = refl
or_swap false true = refl
or_swap false false = refl

module _ (table : TableId) (v w : View) (t : Tells (informed v w)) where
  all_seen : longer v.seen (longer w.seen v.seen) ≡ longer v.seen w.seen
  all_seen = longer_again v.seen w.seen t.two t.one ∙ longer_swap v.seen w.seen t.two t.one

  pub meets : (known_to table (answered v w), known_to table (without_right (informed v w))) ≡ met (known_to table v) (known_to table w)
  meets = λ i. (
    record { table = table; number = v.number; right = or_swap v.right w.right i; seen = all_seen i; made = v.made },
    record { table = table; number = w.number; right = false; seen = longer_swap v.seen w.seen t.two t.one i; made = w.made },
  )

  pub saw_one_list : SawOneList (known_to table v) (known_to table w)
  saw_one_list = record { first = t.two; second = t.one; first_all = t.two_whole; second_all = t.one_whole }
