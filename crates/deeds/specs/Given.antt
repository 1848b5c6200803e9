-- What deeds have left: which act each daemon gave last, and the history. By deeds alone.
use Rattle.std.specs.Prelude.{◌≡◌, List, [], ◌∷◌, ◌++◌, Option, None, Some}
use Rattle.std.specs.Option.{option_map, option_or}
use Rattle.hsm_types.specs.declared.daemons.Act.{Act}
use Rattle.hsm_types.specs.declared.daemons.Act.TheVariants.{Idle}
use Rattle.hsm_types.specs.declared.daemons.Daemon.{Daemon}
use Rattle.hsm_types.specs.declared.daemons.Daemon.TheVariants.{Recall, Migrate}
use Rattle.plain_model.specs.declared.entries.Entry.{Entry}
use Rattle.deeds.specs.Deeds.{Deed, entries_of}
use Rattle.deeds.specs.Leads.{Situation, Leads}
use Rattle.deeds.specs.Lives.{Move, Begins, Ends, Asks, life, Workings, Living}

-- what deeds before have left: the last act of either daemon, and the history. A daemon that doesn't run has none
pub record Given : Type 0 where
  pub recall : Option Act
  pub migrate : Option Act
  pub history : List Entry

-- no daemon has given an act, and there is no entry
abbrev pub none_given : Given
none_given = record { recall = None; migrate = None; history = [] }

abbrev pub given_of : Daemon → Given → Option Act
given_of Recall given = given.recall
given_of Migrate given = given.migrate

-- ---- by deeds

-- One that was just started has given a rest.
abbrev pub asked_by : Option Act → Move → Option Act
asked_by asked Begins = option_or asked (Some Idle)
asked_by asked Ends = None
asked_by asked (Asks act) = option_map (λ (last : Act). act) asked
asked_by asked move = asked

abbrev pub asked_behind : List Move → Option Act → Option Act
asked_behind [] asked = asked
asked_behind (move ∷ moves) asked = asked_behind moves (asked_by asked move)

abbrev pub given_behind : List Deed → Given → Given
given_behind deeds given = record { recall = asked_behind (life Recall deeds) given.recall; migrate = asked_behind (life Migrate deeds) given.migrate; history = given.history ++ entries_of deeds }

-- ---- by machines

abbrev pub asked_in : {M : Type 0} → Workings M → Option (Living M) → Option Act
asked_in {M = M} w r = option_map (λ (x : Living M). w.asked x.machine) r

module _ {R M : Type 0} (recalls : Workings R) (migrates : Workings M) where
  abbrev pub given_in : Situation R M → Given
  given_in s = record { recall = asked_in recalls s.recall; migrate = asked_in migrates s.migrate; history = s.history }

  -- The deeds tell just what machines gave last, and the history.
  abbrev pub GivenExactly : List Deed → Type 0
  GivenExactly deeds = (old new : Situation R M) → Leads recalls migrates deeds old new → given_in new ≡ given_behind deeds (given_in old)
