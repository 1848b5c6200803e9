-- Deeds one behind the other: their entries, the lives of a daemon, and what is known behind them.
use Rattle.std.proofs.Common.{◌≡◌, ◌∙◌, ◌∷◌, ◌++◌, [], List, Option, Some, None, option_map, refl, sym, ap, subst}
use Rattle.std.proofs.lemmas.List.Elements.{filter_map-append}
use Rattle.hsm_types.specs.declared.daemons.Act.{Act}
use Rattle.hsm_types.specs.declared.daemons.Daemon.{Daemon}
use Rattle.hsm_types.specs.declared.daemons.Heard.{Heard}
use Rattle.hsm_types.specs.declared.daemons.Heard.TheVariants.{Nothing}
use Rattle.deeds.specs.Deeds.{Deed, entry_in, entries_of}
use Rattle.deeds.specs.Lives.{Move, Begins, Ends, Renews, Asks, Learns, Fails, Misses, move_of, life, Workings, Living, untold, MovesTo, Lives}
use Rattle.deeds.specs.KnownByMoves.{Knowing, Standing, stands_by, stands, standing_of, IsKnown}

pub entries_then : (xs ys : List Deed) → entries_of (xs ++ ys) ≡ entries_of xs ++ entries_of ys
entries_then xs ys = filter_map-append entry_in xs ys

pub life_then : (daemon : Daemon) (xs ys : List Deed) → life daemon (xs ++ ys) ≡ life daemon xs ++ life daemon ys
life_then daemon xs ys = filter_map-append (move_of daemon) xs ys

-- ---- lives

module _ {M : Type 0} (w : Workings M) where
  pub lives_then : (xs ys : List Move) (a b c : Option (Living M)) → Lives w xs a b → Lives w ys b c → Lives w (xs ++ ys) a c
  lives_then [] ys a b c is more = subst (λ (x : Option (Living M)). Lives w ys x c) is more
  lives_then (x ∷ xs) ys a b c is more = (is.0, is.1, lives_then xs ys is.0 b c is.2 more)

  pub lives_apart : (xs ys : List Move) (a c : Option (Living M)) → Lives w (xs ++ ys) a c → (b : Option (Living M)) × Lives w xs a b × Lives w ys b c
  lives_apart [] ys a c is = (a, refl, is)
  lives_apart (x ∷ xs) ys a c is = let later = lives_apart xs ys is.0 c is.2 in (later.0, (is.0, is.1, later.1), later.2)

-- ---- what is known

abbrev stood : {K : Type 0} → K → Act → Option Heard → Option (Standing K)
stood known asked hears = Some (record { known = known; asked = asked; hears = hears })

module _ {M K : Type 0} (w : Workings M) (view : M → K) (k : Knowing K) (is : IsKnown w view k) where
  abbrev seen : Option (Living M) → Option (Standing K)
  seen r = option_map (standing_of w view) r

  one_move : (move : Move) (old new : Option (Living M)) → MovesTo w move old new → seen new ≡ stands_by k (seen old) move
  one_move Begins None new to = ap seen to ∙ ap (λ (x : K). stood x (w.asked w.first) (Some Nothing)) is.first ∙ ap (λ (a : Act). stood k.first a (Some Nothing)) w.rests
  one_move Begins (Some r) new to = ap seen to
  one_move Ends old new to = ap seen to
  one_move Renews None new to = ap seen to
  one_move Renews (Some r) new to = ap seen to ∙ ap (λ (x : K). stood x (w.asked (w.again r.machine)) (option_map untold r.hears)) (is.again r.machine)
      ∙ ap (λ (a : Act). stood (k.again (view r.machine)) a (option_map untold r.hears)) (w.still r.machine)
  one_move (Asks act) old new to = ap seen to.5 ∙ ap (λ (x : K). stood x (w.asked to.2) None) (is.goes to.0 to.1 act to.2 to.4)
      ∙ ap (λ (a : Act). stood (k.asks (k.hears (view to.0) (w.asked to.0) to.1) act) a None) (w.gives to.0 to.1 act to.2 to.4) ∙ sym (ap (λ (x : Option (Living M)). stands_by k (seen x) (Asks act)) to.3)
  one_move (Learns act told) old new to = ap seen to.4 ∙ sym (ap (λ (x : Option (Living M)). stands_by k (seen x) (Learns act told)) to.1)
  one_move (Fails sid call) old new to = ap seen to.3 ∙ sym (ap (λ (x : Option (Living M)). stands_by k (seen x) (Fails sid call)) to.1)
  one_move Misses old new to = ap seen to.2 ∙ sym (ap (λ (x : Option (Living M)). stands_by k (seen x) Misses) to.1)

  -- the fold is exact
  pub exactly : (moves : List Move) (old new : Option (Living M)) → Lives w moves old new → seen new ≡ stands k moves (seen old)
  exactly [] old new lives = ap seen lives
  exactly (move ∷ moves) old new lives = exactly moves lives.0 new lives.2 ∙ ap (λ (s : Option (Standing K)). stands k moves s) (one_move move old lives.0 lives.1)

pub stands_exactly : {M K : Type 0} (w : Workings M) (view : M → K) (k : Knowing K) (moves : List Move) (old new : Option (Living M)) → IsKnown w view k → Lives w moves old new
    → option_map (standing_of w view) new ≡ stands k moves (option_map (standing_of w view) old)
stands_exactly w view k moves old new is lives = exactly w view k is moves old new lives
