-- Which act was given last, and the history: by deeds, one list behind the other, and by the machines, which is the same.
use Rattle.std.proofs.Common.{◌≡◌, ◌∙◌, ◌∷◌, ◌++◌, [], List, Option, Some, None, refl, sym, ap, ap₂, append-nil, append_assoc}
use Rattle.hsm_types.specs.declared.daemons.Act.{Act}
use Rattle.hsm_types.specs.declared.daemons.Daemon.{Daemon}
use Rattle.hsm_types.specs.declared.daemons.Daemon.TheVariants.{Recall, Migrate}
use Rattle.plain_model.specs.declared.entries.Entry.{Entry}
use Rattle.deeds.specs.Deeds.{Deed, entries_of}
use Rattle.deeds.specs.Given.{Given, asked_by, asked_behind, given_behind, asked_in, given_in}
use Rattle.deeds.specs.Leads.{Situation, Leads}
use Rattle.deeds.specs.Lives.{Move, Begins, Ends, Renews, Asks, Learns, Fails, Misses, life, Workings, Living, MovesTo, Lives}
use Rattle.deeds.proofs.Living.{entries_then, life_then}

abbrev given_as : List Entry → Option Act → Option Act → Given
given_as history recall migrate = record { recall = recall; migrate = migrate; history = history }

-- part by part
pub given_by : (a b : Given) → a.recall ≡ b.recall → a.migrate ≡ b.migrate → a.history ≡ b.history → a ≡ b
given_by a b recall migrate history = ap (λ (es : List Entry). given_as es a.recall a.migrate) history ∙ ap₂ (given_as b.history) recall migrate

-- ---- by deeds

asked_then : (xs ys : List Move) (asked : Option Act) → asked_behind (xs ++ ys) asked ≡ asked_behind ys (asked_behind xs asked)
asked_then [] ys asked = refl
asked_then (x ∷ xs) ys asked = asked_then xs ys (asked_by asked x)

pub own_then : (daemon : Daemon) (xs ys : List Deed) (asked : Option Act) → asked_behind (life daemon (xs ++ ys)) asked ≡ asked_behind (life daemon ys) (asked_behind (life daemon xs) asked)
own_then daemon xs ys asked = ap (λ (moves : List Move). asked_behind moves asked) (life_then daemon xs ys) ∙ asked_then (life daemon xs) (life daemon ys) asked

pub given_then : (xs ys : List Deed) (given : Given) → given_behind (xs ++ ys) given ≡ given_behind ys (given_behind xs given)
given_then xs ys given = given_by (given_behind (xs ++ ys) given) (given_behind ys (given_behind xs given)) (own_then Recall xs ys given.recall) (own_then Migrate xs ys given.migrate)
    (ap (λ (es : List Entry). given.history ++ es) (entries_then xs ys) ∙ sym (append_assoc given.history (entries_of xs) (entries_of ys)))

pub given_none : (given : Given) → given_behind [] given ≡ given
given_none given = given_by (given_behind [] given) given refl refl (append-nil given.history)

-- ---- by machines

module _ {M : Type 0} (w : Workings M) where
  abbrev in_it : Option (Living M) → Option Act
  in_it r = asked_in w r

  one_asked : (move : Move) (old new : Option (Living M)) → MovesTo w move old new → in_it new ≡ asked_by (in_it old) move
  one_asked Begins None new to = ap in_it to ∙ ap (λ (a : Act). Some a) w.rests
  one_asked Begins (Some r) new to = ap in_it to
  one_asked Ends old new to = ap in_it to
  one_asked Renews None new to = ap in_it to
  one_asked Renews (Some r) new to = ap in_it to ∙ ap (λ (a : Act). Some a) (w.still r.machine)
  one_asked (Asks act) old new to = ap in_it to.5 ∙ ap (λ (a : Act). Some a) (w.gives to.0 to.1 act to.2 to.4) ∙ sym (ap (λ (r : Option (Living M)). asked_by (in_it r) (Asks act)) to.3)
  one_asked (Learns act told) old new to = ap in_it to.4 ∙ sym (ap in_it to.1)
  one_asked (Fails sid call) old new to = ap in_it to.3 ∙ sym (ap in_it to.1)
  one_asked Misses old new to = ap in_it to.2 ∙ sym (ap in_it to.1)

  asked_exactly : (moves : List Move) (old new : Option (Living M)) → Lives w moves old new → in_it new ≡ asked_behind moves (in_it old)
  asked_exactly [] old new lives = ap in_it lives
  asked_exactly (move ∷ moves) old new lives = asked_exactly moves lives.0 new lives.2 ∙ ap (λ (a : Option Act). asked_behind moves a) (one_asked move old lives.0 lives.1)

pub given_exactly : {R M : Type 0} (recalls : Workings R) (migrates : Workings M) (deeds : List Deed) (old new : Situation R M) → Leads recalls migrates deeds old new
    → given_in recalls migrates new ≡ given_behind deeds (given_in recalls migrates old)
given_exactly recalls migrates deeds old new leads = given_by (given_in recalls migrates new) (given_behind deeds (given_in recalls migrates old))
    (asked_exactly recalls (life Recall deeds) old.recall new.recall leads.recall) (asked_exactly migrates (life Migrate deeds) old.migrate new.migrate leads.migrate) leads.entries
