-- What was given and heard last, along a life: so an answer is one to an act of its own.
use Rattle.std.proofs.Common.{◌≡◌, ◌∙◌, ◌⊎◌, ◌∷◌, ◌++◌, [], List, Option, Some, None, IfSome, inl, inr, refl, sym, ap, subst, append_assoc}
use Rattle.std.specs.Prelude.{MatchOption}
use Rattle.std.specs.Option.{option_map}
use Rattle.std.proofs.lemmas.List.Elements.{All-nil, All-push}
use Rattle.hsm_types.specs.declared.daemons.Act.{Act}
use Rattle.hsm_types.specs.declared.daemons.Heard.{Heard}
use Rattle.hsm_types.specs.declared.daemons.Heard.TheVariants as heard
use Rattle.hsm_types.specs.declared.daemons.Heard.TheVariants.{Nothing}
use Rattle.hsm_types.specs.declared.dm.DmReply.TheVariants.{Space}
use Rattle.deeds.specs.Lives.{Move, Begins, Renews, Asks, Learns, Fails, Workings, Living, hearing, untold, MovesTo, Lives}
use Rattle.deeds.specs.Answers.{IsStill, IsLast, Answers, AnswersItsAct, AnswersOnce, OnceAnswered, HearsLast}
use Rattle.deeds.proofs.Along as along
use Rattle.deeds.proofs.Living.{lives_apart}

-- ---- the last of moves

pub last_now : (before : List Move) (move : Move) → IsLast move (before ++ move ∷ [])
last_now before move = record { before = before; since = []; parted = refl; still = All-nil IsStill }

pub last_more : (move : Move) (moves : List Move) (next : Move) → IsStill next → IsLast move moves → IsLast move (moves ++ next ∷ [])
last_more move moves next quiet is = record {
  before = is.before;
  since = is.since ++ next ∷ [];
  parted = ap (λ (l : List Move). l ++ next ∷ []) is.parted ∙ append_assoc is.before (move ∷ is.since) (next ∷ []);
  still = All-push IsStill is.since next is.still quiet;
}

-- ---- what was given last, where it is awaited

abbrev IsGiven : Act → Option Heard → List Move → Type 0
IsGiven asked hears moves = MatchOption hears (IsLast (Asks asked) moves) (λ (told : Heard). Unit {0})

given_more : (asked : Act) (hears : Option Heard) (moves : List Move) (next : Move) → IsStill next → IsGiven asked hears moves → IsGiven asked hears (moves ++ next ∷ [])
given_more asked None moves next quiet is = last_more (Asks asked) moves next quiet is
given_more asked (Some told) moves next quiet is = tt

given_renewed : (asked again : Act) (hears : Option Heard) (moves : List Move) → again ≡ asked → IsGiven asked hears moves → IsGiven again (option_map untold hears) (moves ++ Renews ∷ [])
given_renewed asked again None moves same is = subst (λ (a : Act). IsLast (Asks a) (moves ++ Renews ∷ [])) (sym same) (last_more (Asks asked) moves Renews tt is)
given_renewed asked again (Some told) moves same is = tt

-- ---- what was heard last

abbrev IsTold : Act → Option Heard → List Move → Type 0
IsTold asked hears moves = IfSome hears (λ (told : Heard). (told ≡ Nothing) ⊎ IsLast (Learns asked told) moves)

told_more : (asked : Act) (hears : Option Heard) (moves : List Move) (next : Move) → IsStill next → IsTold asked hears moves → IsTold asked hears (moves ++ next ∷ [])
told_more asked None moves next quiet is = tt
told_more asked (Some told) moves next quiet (inl none) = inl none
told_more asked (Some told) moves next quiet (inr last) = inr (last_more (Learns asked told) moves next quiet last)

untold_or : (told : Heard) → (untold told ≡ told) ⊎ (untold told ≡ Nothing)
untold_or (heard.Dm (Space used total)) = inr refl
untold_or told = inl refl

told_renewed : (asked again : Act) (hears : Option Heard) (moves : List Move) → again ≡ asked → IsTold asked hears moves → IsTold again (option_map untold hears) (moves ++ Renews ∷ [])
told_renewed asked again None moves same is = tt
told_renewed asked again (Some told) moves same (inl none) = elim (untold_or told) [
  | inl kept ↦ inl (kept ∙ none)
  | inr lost ↦ inl lost
]
told_renewed asked again (Some told) moves same (inr last) = elim (untold_or told) [
  | inl kept ↦ inr (subst (λ (t : Heard). IsLast (Learns again t) (moves ++ Renews ∷ [])) (sym kept) (subst (λ (a : Act). IsLast (Learns a told) (moves ++ Renews ∷ [])) (sym same) (last_more (Learns asked told) moves Renews tt last)))
  | inr lost ↦ inl lost
]

module _ {M : Type 0} (w : Workings M) where
  -- ---- along a life

  abbrev Given : List Move → Living M → Type 0
  Given moves r = IsGiven (w.asked r.machine) r.hears moves

  abbrev Told : List Move → Living M → Type 0
  Told moves r = IsTold (w.asked r.machine) r.hears moves

  -- from no life, or one that hears something
  given_along : (moves : List Move) (old new : Option (Living M)) → Lives w moves old new → IfSome old (Given []) → IfSome new (Given moves)
  given_along moves old new lives start = along.along w Given
      (λ before. tt)
      (λ before r is. given_more (w.asked r.machine) r.hears before Begins tt is)
      (λ before r is. given_renewed (w.asked r.machine) (w.asked (w.again r.machine)) r.hears before (w.still r.machine) is)
      (λ before m told act n is goes. subst (λ (a : Act). IsLast (Asks a) (before ++ Asks act ∷ [])) (sym (w.gives m told act n goes)) (last_now before (Asks act)))
      (λ before m act told is asked fits. tt)
      (λ before m sid call is asked. tt)
      (λ before r is. tt)
      moves [] old new lives start

  told_along : (moves : List Move) (old new : Option (Living M)) → Lives w moves old new → IfSome old (Told []) → IfSome new (Told moves)
  told_along moves old new lives start = along.along w Told
      (λ before. inl refl)
      (λ before r is. told_more (w.asked r.machine) r.hears before Begins tt is)
      (λ before r is. told_renewed (w.asked r.machine) (w.asked (w.again r.machine)) r.hears before (w.still r.machine) is)
      (λ before m told act n is goes. tt)
      (λ before m act told is asked fits. inr (subst (λ (a : Act). IsLast (Learns a told) (before ++ Learns act told ∷ [])) (sym asked) (last_now before (Learns act told))))
      (λ before m sid call is asked. inl refl)
      (λ before r is. inl refl)
      moves [] old new lives start

  -- ---- an answer

  -- it was awaited, and something is heard next
  record IsAwaited (act : Act) (old new : Option (Living M)) : Type 0 where
    machine : M
    told : Heard
    waits : old ≡ Some (hearing machine None)
    gave : w.asked machine ≡ act
    hears : new ≡ Some (hearing machine (Some told))

  awaited : (move : Move) (act : Act) (old new : Option (Living M)) → Answers act move → MovesTo w move old new → IsAwaited act old new
  awaited (Learns asked told) act old new is to = record { machine = to.0; told = told; waits = to.1; gave = to.2 ∙ is; hears = to.4 }
  awaited (Fails sid call) act old new is to = record { machine = to.0; told = Nothing; waits = to.1; gave = to.2 ∙ is; hears = to.3 }
  awaited move act old new is to = absurd is

  -- it is one to the act that was given last
  own_act : (before : List Move) (act : Act) (start old new : Option (Living M)) → IfSome start (Given []) → Lives w before start old → IsAwaited act old new → IsLast (Asks act) before
  own_act before act start old new first lives is =
      subst (λ (a : Act). IsLast (Asks a) before) is.gave (given_along before start (Some (hearing is.machine None)) (subst (λ (r : Option (Living M)). Lives w before start r) is.waits lives) first)

  answers_its_act : (moves : List Move) (end : Option (Living M)) → Lives w moves None end → AnswersItsAct moves
  answers_its_act moves end lives before move rest act parted is =
      let there = lives_apart w before (move ∷ rest) None end (subst (λ (l : List Move). Lives w l None end) parted lives) in
      own_act before act None there.0 there.2.0 tt there.1 (awaited move act there.0 there.2.0 is there.2.1)

  answers_once : (moves : List Move) (end : Option (Living M)) → Lives w moves None end → AnswersOnce moves
  answers_once moves end lives before one between other rest first then parted is more =
      let there = lives_apart w before (one ∷ (between ++ other ∷ rest)) None end (subst (λ (l : List Move). Lives w l None end) parted lives) in
      let heard_it : IsAwaited first there.0 there.2.0 = awaited one first there.0 there.2.0 is there.2.1 in
      let later = lives_apart w between (other ∷ rest) there.2.0 end there.2.2 in
      own_act between then there.2.0 later.0 later.2.0 (subst (λ (r : Option (Living M)). IfSome r (Given [])) (sym heard_it.hears) tt) later.1 (awaited other then later.0 later.2.0 more later.2.1)

  pub once_answered : (moves : List Move) → OnceAnswered w moves
  once_answered moves end lives = (answers_its_act moves end lives, answers_once moves end lives)

  pub hears_last : (moves : List Move) → HearsLast w moves
  hears_last moves m told lives = told_along moves None (Some (hearing m (Some told))) lives tt
