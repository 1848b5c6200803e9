-- Which answers a daemon hears: each of an act of its own, and of each act one at most.
use Rattle.std.specs.Prelude.{◌≡◌, ◌⊎◌, List, ◌∷◌, ◌++◌, All, Option, None, Some}
use Rattle.hsm_types.specs.declared.daemons.Act.{Act}
use Rattle.hsm_types.specs.declared.daemons.Act.TheVariants.{Dm}
use Rattle.hsm_types.specs.declared.daemons.Heard.{Heard}
use Rattle.hsm_types.specs.declared.daemons.Heard.TheVariants.{Nothing}
use Rattle.deeds.specs.Lives.{Move, Begins, Renews, Asks, Learns, Fails, Workings, Living, hearing, Lives}

-- it leaves what was given and heard last
abbrev pub IsStill : Move → Type 0
IsStill Begins = Unit {0}
IsStill Renews = Unit {0}
IsStill move = ⊥

-- it is the last of the moves but for such
pub record IsLast (move : Move) (moves : List Move) : Type 0 where
  pub before : List Move
  pub since : List Move
  pub parted : moves ≡ before ++ move ∷ since
  pub still : All IsStill since

-- an answer to the act, or the fault of the disk with which it ended: of a call it is the entry
abbrev pub Answers : Act → Move → Type 0
Answers act (Learns asked told) = asked ≡ act
Answers act (Fails sid call) = Dm sid call ≡ act
Answers act move = ⊥

-- Each answer is one to the act that was given last, and that is all that was done before it.
abbrev pub AnswersItsAct : List Move → Type 0
AnswersItsAct moves = (before : List Move) (move : Move) (rest : List Move) (act : Act) → moves ≡ before ++ move ∷ rest → Answers act move → IsLast (Asks act) before

-- Between two answers the act of the later one is given.
abbrev pub AnswersOnce : List Move → Type 0
AnswersOnce moves = (before : List Move) (one : Move) (between : List Move) (other : Move) (rest : List Move) (first then : Act) → moves ≡ before ++ one ∷ (between ++ other ∷ rest)
    → Answers first one → Answers then other → IsLast (Asks then) between

module _ {M : Type 0} (w : Workings M) where
  -- of lives that lead from no life
  abbrev pub OnceAnswered : List Move → Type 0
  OnceAnswered moves = (end : Option (Living M)) → Lives w moves None end → AnswersItsAct moves × AnswersOnce moves

  -- What is heard next is the last that was told of the act that was given last, or it says nothing.
  abbrev pub HearsLast : List Move → Type 0
  HearsLast moves = (m : M) (told : Heard) → Lives w moves None (Some (hearing m (Some told))) → (told ≡ Nothing) ⊎ IsLast (Learns (w.asked m) told) moves
