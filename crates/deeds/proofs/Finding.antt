-- From the life of a daemon back to its deeds: each move of it is that of one deed.
use Rattle.std.proofs.Common.{◌≡◌, ◌∙◌, ◌∷◌, ◌++◌, [], List, Option, Some, None, refl, ap}
use Rattle.std.specs.List.{filter_map, cons_option}
use Rattle.std.proofs.lemmas.Option.{none-some, same_Some}
use Rattle.hsm_types.specs.declared.daemons.Daemon.{Daemon}
use Rattle.hsm_types.specs.declared.daemons.Daemon.TheVariants.{Recall, Migrate}
use Rattle.deeds.specs.Deeds.{Deed, Starts, Kills, Refreshes, Gives, Hears, Breaks, Loses}
use Rattle.deeds.specs.Lives.{Move, Begins, Ends, Renews, Asks, Learns, Fails, Misses, move_of, deed_by, MovesAreDeeds}
use Rattle.deeds.proofs.Lists.{same_head, same_tail, nil-cons}

-- the item that gives the middle one of those found, with what gives the others
pub record IsFoundAt {X Y : Type 0} (f : X → Option Y) (xs : List X) (ys : List Y) (y : Y) (zs : List Y) : Type 0 where
  pub before : List X
  pub item : X
  pub rest : List X
  pub parted : xs ≡ before ++ item ∷ rest
  pub gives : f item ≡ Some y
  pub first : filter_map f before ≡ ys
  pub then : filter_map f rest ≡ zs

module _ {X Y : Type 0} (f : X → Option Y) where
  abbrev Found : List X → List Y → Y → List Y → Type 0
  Found = IsFoundAt f

  behind : (x : X) (xs : List X) (ys : List Y) (y : Y) (zs : List Y) → f x ≡ None → Found xs ys y zs → Found (x ∷ xs) ys y zs
  behind x xs ys y zs none is = record {
    before = x ∷ is.before;
    item = is.item;
    rest = is.rest;
    parted = ap (λ (l : List X). x ∷ l) is.parted;
    gives = is.gives;
    first = ap (λ (o : Option Y). cons_option o (filter_map f is.before)) none ∙ is.first;
    then = is.then;
  }

  one_found : (x : X) (xs : List X) (o : Option Y) (ys : List Y) (y : Y) (zs : List Y) → f x ≡ o → cons_option o (filter_map f xs) ≡ ys ++ y ∷ zs
      → ((ys : List Y) (y : Y) (zs : List Y) → filter_map f xs ≡ ys ++ y ∷ zs → Found xs ys y zs) → Found (x ∷ xs) ys y zs
  one_found x xs None ys y zs of is more = behind x xs ys y zs of (more ys y zs is)
  one_found x xs (Some a) [] y zs of is more =
      record { before = []; item = x; rest = xs; parted = refl; gives = of ∙ ap (λ (b : Y). Some b) (same_head a y (filter_map f xs) zs is); first = refl; then = same_tail a y (filter_map f xs) zs is }
  one_found x xs (Some a) (b ∷ ys) y zs of is more =
      let later = more ys y zs (same_tail a b (filter_map f xs) (ys ++ y ∷ zs) is) in
      record {
        before = x ∷ later.before;
        item = later.item;
        rest = later.rest;
        parted = ap (λ (l : List X). x ∷ l) later.parted;
        gives = later.gives;
        first = ap (λ (o : Option Y). cons_option o (filter_map f later.before)) of ∙ ap (λ (c : Y). c ∷ filter_map f later.before) (same_head a b (filter_map f xs) (ys ++ y ∷ zs) is) ∙ ap (λ (l : List Y). b ∷ l) later.first;
        then = later.then;
      }

  pub found_at : (xs : List X) (ys : List Y) (y : Y) (zs : List Y) → filter_map f xs ≡ ys ++ y ∷ zs → Found xs ys y zs
  found_at [] [] y zs is = absurd (nil-cons y zs is)
  found_at [] (b ∷ ys) y zs is = absurd (nil-cons b (ys ++ y ∷ zs) is)
  found_at (x ∷ xs) ys y zs is = one_found x xs (f x) ys y zs refl is (found_at xs)

-- ---- whose deed it was

pub deed_of : (daemon : Daemon) (deed : Deed) (move : Move) → move_of daemon deed ≡ Some move → deed ≡ deed_by daemon move
deed_of Recall (Starts Recall) move is = ap (deed_by Recall) (same_Some Begins move is)
deed_of Recall (Kills Recall) move is = ap (deed_by Recall) (same_Some Ends move is)
deed_of Recall (Gives Recall act) move is = ap (deed_by Recall) (same_Some (Asks act) move is)
deed_of Recall (Hears Recall act told) move is = ap (deed_by Recall) (same_Some (Learns act told) move is)
deed_of Recall (Breaks Recall sid call) move is = ap (deed_by Recall) (same_Some (Fails sid call) move is)
deed_of Recall (Loses Recall) move is = ap (deed_by Recall) (same_Some Misses move is)
deed_of Migrate (Starts Migrate) move is = ap (deed_by Migrate) (same_Some Begins move is)
deed_of Migrate (Kills Migrate) move is = ap (deed_by Migrate) (same_Some Ends move is)
deed_of Migrate Refreshes move is = ap (deed_by Migrate) (same_Some Renews move is)
deed_of Migrate (Gives Migrate act) move is = ap (deed_by Migrate) (same_Some (Asks act) move is)
deed_of Migrate (Hears Migrate act told) move is = ap (deed_by Migrate) (same_Some (Learns act told) move is)
deed_of Migrate (Breaks Migrate sid call) move is = ap (deed_by Migrate) (same_Some (Fails sid call) move is)
deed_of Migrate (Loses Migrate) move is = ap (deed_by Migrate) (same_Some Misses move is)
deed_of daemon deed move is = absurd (none-some move is)

pub moves_are_deeds : (daemon : Daemon) (deeds : List Deed) → MovesAreDeeds daemon deeds
moves_are_deeds daemon deeds before move behind is =
    let at : IsFoundAt (move_of daemon) deeds before move behind = found_at (move_of daemon) deeds before move behind is in
    record { first = at.before; rest = at.rest; parted = at.parted ∙ ap (λ (deed : Deed). at.before ++ deed ∷ at.rest) (deed_of daemon at.item move at.gives); before_it = at.first; behind_it = at.then }
