-- Deeds with one call: its answer may be heard once and not twice, and a call whose answer is lost may be given again.
use Rattle.std.proofs.Common.{◌≡◌, ◌∙◌, ◌∷◌, ◌++◌, [], List, Some, None, refl, sym}
use Rattle.std.proofs.lemmas.List.Elements.{All-nil, All-cons}
use Rattle.hsm_types.specs.declared.daemons.Act.{Act}
use Rattle.hsm_types.specs.declared.daemons.Act.TheVariants.{Dm, Idle}
use Rattle.hsm_types.specs.declared.daemons.Daemon.TheVariants.{Recall}
use Rattle.hsm_types.specs.declared.daemons.Heard.{Heard}
use Rattle.hsm_types.specs.declared.daemons.Heard.TheVariants as heard
use Rattle.hsm_types.specs.declared.daemons.Heard.TheVariants.{Nothing}
use Rattle.hsm_types.specs.declared.dm.DmCall.TheVariants.{GetAllSessions}
use Rattle.hsm_types.specs.declared.dm.DmReply.TheVariants.{Sids}
use Rattle.hsm_types.specs.declared.keys.Sid.{Sid}
use Rattle.deeds.specs.Deeds.{Deed, Starts, Gives, Hears, Loses, entries_of, Fits, IsRight}
use Rattle.deeds.specs.Answers.{IsLast}
use Rattle.deeds.specs.Leads.{Served}
use Rattle.deeds.specs.Lives.{Move, Begins, Asks, Learns, Workings, hearing, begun}
use Rattle.deeds.proofs.Leading.{served_once}
use Rattle.deeds.proofs.Lists.{nil-cons}

-- a machine that may give any act
abbrev any_act : Workings Act
any_act = record {
  first = Idle;
  again = λ last. last;
  asked = λ last. last;
  StepsOn = λ last told act next. next ≡ act;
  rests = refl;
  still = λ last. refl;
  gives = λ last told act next goes. goes;
}

module _ (sid : Sid) where
  abbrev call : Act
  call = Dm sid GetAllSessions

  abbrev answer : Heard
  answer = heard.Dm (Sids [])

  fits : Fits call answer
  fits = (λ no. cc, λ no. cc)

  -- ---- once

  abbrev once : List Deed
  once = Starts Recall ∷ Gives Recall call ∷ Hears Recall call answer ∷ []

  once_served : Served any_act any_act once
  once_served = (
    record { history = entries_of once; recall = Some (hearing call (Some answer)); migrate = None },
    record {
      entries = refl;
      recall = (Some (begun any_act), refl, (Some (hearing call None), (Idle, Nothing, call, refl, refl, refl), (Some (hearing call (Some answer)), (call, refl, refl, fits, refl), refl)));
      migrate = refl;
      right = All-cons IsRight (Starts Recall) (Gives Recall call ∷ Hears Recall call answer ∷ []) tt (All-cons IsRight (Gives Recall call) (Hears Recall call answer ∷ []) tt (All-cons IsRight (Hears Recall call answer) [] tt (All-nil IsRight)));
    },
  )

  -- ---- lost, and given again

  abbrev again : List Deed
  again = Starts Recall ∷ Gives Recall call ∷ Loses Recall ∷ Gives Recall call ∷ []

  again_served : Served any_act any_act again
  again_served = (
    record { history = []; recall = Some (hearing call None); migrate = None },
    record {
      entries = refl;
      recall = (Some (begun any_act), refl, (Some (hearing call None), (Idle, Nothing, call, refl, refl, refl), (Some (hearing call (Some Nothing)), (hearing call None, refl, refl), (Some (hearing call None), (call, Nothing, call, refl, refl, refl), refl))));
      migrate = refl;
      right = All-cons IsRight (Starts Recall) (Gives Recall call ∷ Loses Recall ∷ Gives Recall call ∷ []) tt (All-cons IsRight (Gives Recall call) (Loses Recall ∷ Gives Recall call ∷ []) tt (All-cons IsRight (Loses Recall) (Gives Recall call ∷ []) tt (All-cons IsRight (Gives Recall call) [] tt (All-nil IsRight))));
    },
  )

  -- ---- twice, by no machine

  abbrev twice : List Deed
  twice = Starts Recall ∷ Gives Recall call ∷ Hears Recall call answer ∷ Hears Recall call answer ∷ []

  none_last : (move : Move) (moves before since : List Move) → moves ≡ [] → moves ≡ before ++ move ∷ since → ⊥
  none_last move moves [] since none is = nil-cons move since (sym none ∙ is)
  none_last move moves (x ∷ before) since none is = nil-cons x (before ++ move ∷ since) (sym none ∙ is)

  twice_not_served : {R M : Type 0} (recalls : Workings R) (migrates : Workings M) → Served recalls migrates twice → ⊥
  twice_not_served recalls migrates served =
      let last : IsLast (Asks call) [] = (served_once recalls migrates Recall twice served).1 (Begins ∷ Asks call ∷ []) (Learns call answer) [] (Learns call answer) [] call call refl refl refl in
      none_last (Asks call) [] last.before last.since refl last.parted
