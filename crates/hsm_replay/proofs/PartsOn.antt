-- Turns and settles while they go on: by the acts and the rounds that were done so far.
use Rattle.std.proofs.Common.{◌≡◌, ◌⊎◌, ◌∙◌, ℕ, ◌∷◌, ◌++◌, [], Bool, true, false, List, Option, Some, None, inl, inr, refl, sym, ap, subst}
use Rattle.std.proofs.Common.{append-nil, append_assoc}
use Rattle.std.specs.Prelude.{All, flat_map}
use Rattle.std.proofs.lemmas.List.Concat.{flat_map-append}
use Rattle.std.proofs.lemmas.List.Elements.{All-nil, All-cons, All-push}
use Rattle.hsm_types.specs.declared.daemons.Act.{Act}
use Rattle.hsm_types.specs.declared.daemons.Act.TheVariants.{Dm, Copy, Fetch, Idle}
use Rattle.hsm_types.specs.declared.daemons.Daemon.{Daemon}
use Rattle.hsm_types.specs.declared.daemons.Daemon.TheVariants.{Recall, Migrate}
use Rattle.hsm_types.specs.declared.daemons.Heard.{Heard}
use Rattle.hsm_types.specs.declared.daemons.Heard.TheVariants as heard
use Rattle.plain_model.specs.declared.entries.Entry.{Entry}
use Rattle.script_text.specs.declared.lines.Line.{Line}
use Rattle.deeds.specs.Deeds.{Deed, Refreshes, Fits}
use Rattle.deeds.specs.Given.{Given, asked_behind, given_behind}
use Rattle.deeds.specs.Lives.{life}
use Rattle.hsm_replay.specs.Parts.{Exchange, resting, done_by, IsStepFrom, IsWork, IsUpToRest}
use Rattle.hsm_replay.specs.Parts.{IsLeftFrom, IsTurnFrom, joined, are_quiet}
use Rattle.hsm_replay.specs.Parts.{IsRound, AreBusy, IsSettle}
use Rattle.hsm_replay.specs.Stopped.{Ending, IsActCut, IsStepCutFrom, IsWorkCut}
use Rattle.hsm_replay.specs.Stopped.{IsLeftCutFrom, IsTurnCutFrom, IsRoundCut, IsSettleCut}
use Rattle.hsm_replay.specs.Stopped.{IsLineCut, StopsOn}
use Rattle.hsm_replay.proofs.PartsDone.{follows_on}
use Rattle.deeds.proofs.Giving.{given_none, given_then}

-- ---- one act

abbrev IsRestOrWork : Exchange → Type 0
IsRestOrWork x = (x ≡ resting) ⊎ IsWork x

-- it is no rest, or it is the one of which nothing is heard
act_is : (asked : Act) (told : Heard) → Fits asked told → IsRestOrWork (record { asked = asked; told = told })
act_is (Dm sid call) told fits = inr ((λ is. let wrong : Dm sid call ≡ Idle = is in cc wrong), fits)
act_is (Copy volume handle segment bytes) told fits = inr ((λ is. let wrong : Copy volume handle segment bytes ≡ Idle = is in cc wrong), fits)
act_is (Fetch entry) told fits = inr ((λ is. let wrong : Fetch entry ≡ Idle = is in cc wrong), fits)
act_is Idle heard.Nothing fits = inl refl
act_is Idle (heard.Dm reply) fits = absurd fits
act_is Idle (heard.Copied answer) fits = absurd fits
act_is Idle (heard.Fetched answer) fits = absurd fits

-- a daemon that doesn't run rests
abbrev pub IsAtRest : Option Act → Type 0
IsAtRest None = Unit {0}
IsAtRest (Some Idle) = Unit {0}
IsAtRest (Some asked) = ⊥

work_on : (asked : Act) → IsAtRest (Some asked) → asked ≡ Idle
work_on Idle rests = refl
work_on (Dm sid call) rests = absurd rests
work_on (Copy volume handle segment bytes) rests = absurd rests
work_on (Fetch entry) rests = absurd rests

-- ---- the acts of one daemon

module _ (daemon : Daemon) where
  -- acts that are no rest
  abbrev IsBegun : List Deed → Type 0
  IsBegun deeds = (work : List Exchange) × All IsWork work × (deeds ≡ flat_map (done_by daemon) work)

  work_more : (work : List Exchange) (x : Exchange) → flat_map (done_by daemon) (work ++ x ∷ []) ≡ flat_map (done_by daemon) work ++ done_by daemon x
  work_more work x = flat_map-append (done_by daemon) work (x ∷ [])

  begun_on : (deeds : List Deed) (x : Exchange) → IsBegun deeds → IsWork x → IsBegun (deeds ++ done_by daemon x)
  begun_on deeds x begun work = (begun.0 ++ x ∷ [], All-push IsWork begun.0 x begun.1 work, ap (λ (ds : List Deed). ds ++ done_by daemon x) begun.2 ∙ sym (work_more begun.0 x))

  begun_rests : (deeds : List Deed) → IsBegun deeds → IsUpToRest daemon (deeds ++ done_by daemon resting)
  begun_rests deeds begun = (begun.0, begun.1, ap (λ (ds : List Deed). ds ++ done_by daemon resting) begun.2)

  begun_cut : (ending : Ending) (deeds last : List Deed) → IsBegun deeds → IsActCut daemon ending last → IsWorkCut daemon ending (deeds ++ last)
  begun_cut ending deeds last begun cut = (begun.0, last, begun.1, cut, ap (λ (ds : List Deed). ds ++ last) begun.2)

  rest_more : (x : Exchange) (deeds : List Deed) → IsWork x → IsUpToRest daemon deeds → IsUpToRest daemon (done_by daemon x ++ deeds)
  rest_more x deeds work is = (x ∷ is.0, All-cons IsWork x is.0 work is.1, ap (λ (ds : List Deed). done_by daemon x ++ ds) is.2)

  cut_more : (ending : Ending) (x : Exchange) (deeds : List Deed) → IsWork x → IsWorkCut daemon ending deeds → IsWorkCut daemon ending (done_by daemon x ++ deeds)
  cut_more ending x deeds work is = (x ∷ is.0, is.1, All-cons IsWork x is.0 work is.2, is.3, ap (λ (ds : List Deed). done_by daemon x ++ ds) is.4)

-- what was given last, behind acts of a daemon that runs
after_act : (daemon : Daemon) (x : Exchange) (last : Act) → asked_behind (life daemon (done_by daemon x)) (Some last) ≡ Some x.asked
after_act Recall x last = refl
after_act Migrate x last = refl

after_rest_of : (daemon : Daemon) (work : List Exchange) (last : Act) → asked_behind (life daemon (flat_map (done_by daemon) work ++ done_by daemon resting)) (Some last) ≡ Some Idle
after_rest_of Recall [] last = refl
after_rest_of Recall (x ∷ work) last = after_rest_of Recall work x.asked
after_rest_of Migrate [] last = refl
after_rest_of Migrate (x ∷ work) last = after_rest_of Migrate work x.asked

after_rest : (daemon : Daemon) (deeds : List Deed) (last : Act) → IsUpToRest daemon deeds → asked_behind (life daemon deeds) (Some last) ≡ Some Idle
after_rest daemon deeds last is = ap (λ (ds : List Deed). asked_behind (life daemon ds) (Some last)) is.2 ∙ after_rest_of daemon is.0 last

module _ (daemon : Daemon) where
  -- ---- what is left of a turn, while it goes on

  -- Nothing was done; or acts that are no rest, and it doesn't rest; or it has come to its rest.
  abbrev pub IsSoFar : (first : Option Act) → List Deed → (now : Option Act) → Type 0
  IsSoFar first deeds now =
      ((deeds ≡ []) × (now ≡ first))
      ⊎ ((IsAtRest first → ⊥) × ((IsBegun daemon deeds × (IsAtRest now → ⊥)) ⊎ (IsUpToRest daemon deeds × IsAtRest now)))

  pub so_far_none : (first : Option Act) → IsSoFar first [] first
  so_far_none first = inl (refl, refl)

  -- where it doesn't rest yet
  so_far_begun : (first now : Option Act) (deeds : List Deed) → IsSoFar first deeds now → (IsAtRest now → ⊥) → (IsAtRest first → ⊥) × IsBegun daemon deeds
  so_far_begun first now deeds (inl none) going = ((λ rests. going (subst IsAtRest (sym none.1) rests)), ([], All-nil IsWork, none.0))
  so_far_begun first now deeds (inr (work, inl begun)) going = (work, begun.0)
  so_far_begun first now deeds (inr (work, inr over)) going = absurd (going over.1)

  act_on : (first : Option Act) (last : Act) (deeds : List Deed) (x : Exchange) → (IsAtRest first → ⊥) → IsBegun daemon deeds → IsRestOrWork x → IsSoFar first (deeds ++ done_by daemon x) (asked_behind (life daemon (done_by daemon x)) (Some last))
  act_on first last deeds x going begun (inl rests) = inr (
    going,
    inr (
      subst (λ (y : Exchange). IsUpToRest daemon (deeds ++ done_by daemon y)) (sym rests) (begun_rests daemon deeds begun),
      subst IsAtRest (sym (after_act daemon x last ∙ ap (λ (y : Exchange). Some y.asked) rests)) tt,
    ),
  )
  act_on first last deeds x going begun (inr work) = inr (
    going,
    inl (
      begun_on daemon deeds x begun work,
      λ rests. work.0 (work_on x.asked (subst IsAtRest (after_act daemon x last) rests)),
    ),
  )

  pub so_far_on : (first now : Option Act) (deeds step : List Deed) → IsSoFar first deeds now → (IsAtRest now → ⊥) → IsStepFrom daemon now step → IsSoFar first (deeds ++ step) (asked_behind (life daemon step) now)
  so_far_on first None deeds step so going is = absurd (going tt)
  so_far_on first (Some last) deeds step so going is =
      let begun = so_far_begun first (Some last) deeds so going in
      subst (λ (ds : List Deed). IsSoFar first (deeds ++ ds) (asked_behind (life daemon ds) (Some last))) (sym is.2) (act_on first last deeds is.0 begun.0 begun.1 (act_is is.0.asked is.0.told is.1))

  left_rests : (first : Option Act) (deeds : List Deed) → IsAtRest first → deeds ≡ [] → IsLeftFrom daemon first deeds
  left_rests None deeds rests none = none
  left_rests (Some Idle) deeds rests none = none
  left_rests (Some (Dm sid call)) deeds rests none = absurd rests
  left_rests (Some (Copy volume handle segment bytes)) deeds rests none = absurd rests
  left_rests (Some (Fetch entry)) deeds rests none = absurd rests

  left_works : (first : Option Act) (deeds : List Deed) → (IsAtRest first → ⊥) → IsUpToRest daemon deeds → IsLeftFrom daemon first deeds
  left_works None deeds going is = absurd (going tt)
  left_works (Some Idle) deeds going is = absurd (going tt)
  left_works (Some (Dm sid call)) deeds going is = is
  left_works (Some (Copy volume handle segment bytes)) deeds going is = is
  left_works (Some (Fetch entry)) deeds going is = is

  pub so_far_over : (first now : Option Act) (deeds : List Deed) → IsSoFar first deeds now → IsAtRest now → IsLeftFrom daemon first deeds
  so_far_over first now deeds (inl none) rests = left_rests first deeds (subst IsAtRest none.1 rests) none.0
  so_far_over first now deeds (inr (going, inl begun)) rests = absurd (begun.1 rests)
  so_far_over first now deeds (inr (going, inr over)) rests = left_works first deeds going over.0

  cut_works : (first : Option Act) (ending : Ending) (deeds : List Deed) → (IsAtRest first → ⊥) → IsWorkCut daemon ending deeds → IsLeftCutFrom daemon first ending deeds
  cut_works None ending deeds going is = absurd (going tt)
  cut_works (Some Idle) ending deeds going is = absurd (going tt)
  cut_works (Some (Dm sid call)) ending deeds going is = is
  cut_works (Some (Copy volume handle segment bytes)) ending deeds going is = is
  cut_works (Some (Fetch entry)) ending deeds going is = is

  pub so_far_cut : (first now : Option Act) (ending : Ending) (deeds last : List Deed) → IsSoFar first deeds now → (IsAtRest now → ⊥) → IsStepCutFrom daemon now ending last → IsLeftCutFrom daemon first ending (deeds ++ last)
  so_far_cut first None ending deeds last so going cut = absurd cut
  so_far_cut first (Some asked) ending deeds last so going cut =
      let begun = so_far_begun first (Some asked) deeds so going in
      cut_works first ending (deeds ++ last) begun.0 (begun_cut daemon ending deeds last begun.1 cut)

  -- ---- a turn of one that rests: a step, and what is left behind it

  rest_behind : (x : Exchange) (rest : List Deed) → IsRestOrWork x → IsLeftFrom daemon (Some x.asked) rest → IsUpToRest daemon (done_by daemon x ++ rest)
  rest_behind x rest (inl rests) left =
      let none : rest ≡ [] = subst (λ (y : Exchange). IsLeftFrom daemon (Some y.asked) rest) rests left in
      subst (λ (y : Exchange). IsUpToRest daemon (done_by daemon y ++ rest)) (sym rests) (subst (λ (ds : List Deed). IsUpToRest daemon (done_by daemon resting ++ ds)) (sym none) ([], All-nil IsWork, refl))
  rest_behind x rest (inr work) left = rest_more daemon x rest work (left_is x.asked work.0 left)
    where
      left_is : (asked : Act) → (asked ≡ Idle → ⊥) → IsLeftFrom daemon (Some asked) rest → IsUpToRest daemon rest
      left_is Idle works is = absurd (works refl)
      left_is (Dm sid call) works is = is
      left_is (Copy volume handle segment bytes) works is = is
      left_is (Fetch entry) works is = is

  cut_behind : (ending : Ending) (x : Exchange) (rest : List Deed) → IsRestOrWork x → IsLeftCutFrom daemon (Some x.asked) ending rest → IsWorkCut daemon ending (done_by daemon x ++ rest)
  cut_behind ending x rest (inl rests) cut = absurd (subst (λ (y : Exchange). IsLeftCutFrom daemon (Some y.asked) ending rest) rests cut)
  cut_behind ending x rest (inr work) cut = cut_more daemon ending x rest work (cut_is x.asked work.0 cut)
    where
      cut_is : (asked : Act) → (asked ≡ Idle → ⊥) → IsLeftCutFrom daemon (Some asked) ending rest → IsWorkCut daemon ending rest
      cut_is Idle works is = absurd (works refl)
      cut_is (Dm sid call) works is = is
      cut_is (Copy volume handle segment bytes) works is = is
      cut_is (Fetch entry) works is = is

  pub step_turns : (asked : Option Act) (step rest : List Deed) → IsAtRest asked → IsStepFrom daemon asked step → IsLeftFrom daemon (asked_behind (life daemon step) asked) rest → IsTurnFrom daemon asked (step ++ rest)
  step_turns None step rest at is left = subst (λ (ds : List Deed). IsLeftFrom daemon (asked_behind (life daemon ds) None) rest → ds ++ rest ≡ []) (sym is) (λ none. none) left
  step_turns (Some Idle) step rest at is left =
      let behind : IsLeftFrom daemon (Some is.0.asked) rest = subst (λ (o : Option Act). IsLeftFrom daemon o rest) (ap (λ (ds : List Deed). asked_behind (life daemon ds) (Some Idle)) is.2 ∙ after_act daemon is.0 Idle) left in
      subst (λ (ds : List Deed). IsUpToRest daemon (ds ++ rest)) (sym is.2) (rest_behind is.0 rest (act_is is.0.asked is.0.told is.1) behind)
  step_turns (Some (Dm sid call)) step rest at is left = absurd at
  step_turns (Some (Copy volume handle segment bytes)) step rest at is left = absurd at
  step_turns (Some (Fetch entry)) step rest at is left = absurd at

  pub step_turns_cut : (asked : Option Act) (ending : Ending) (step last : List Deed) → IsAtRest asked → IsStepFrom daemon asked step → IsLeftCutFrom daemon (asked_behind (life daemon step) asked) ending last → IsTurnCutFrom daemon asked ending (step ++ last)
  step_turns_cut None ending step last at is cut = subst (λ (ds : List Deed). IsLeftCutFrom daemon (asked_behind (life daemon ds) None) ending last → ⊥) (sym is) (λ wrong. wrong) cut
  step_turns_cut (Some Idle) ending step last at is cut =
      let behind : IsLeftCutFrom daemon (Some is.0.asked) ending last = subst (λ (o : Option Act). IsLeftCutFrom daemon o ending last) (ap (λ (ds : List Deed). asked_behind (life daemon ds) (Some Idle)) is.2 ∙ after_act daemon is.0 Idle) cut in
      subst (λ (ds : List Deed). IsWorkCut daemon ending (ds ++ last)) (sym is.2) (cut_behind ending is.0 last (act_is is.0.asked is.0.told is.1) behind)
  step_turns_cut (Some (Dm sid call)) ending step last at is cut = absurd at
  step_turns_cut (Some (Copy volume handle segment bytes)) ending step last at is cut = absurd at
  step_turns_cut (Some (Fetch entry)) ending step last at is cut = absurd at

  pub step_cut : (asked : Option Act) (ending : Ending) (last : List Deed) → IsAtRest asked → IsStepCutFrom daemon asked ending last → IsTurnCutFrom daemon asked ending last
  step_cut None ending last at cut = cut
  step_cut (Some Idle) ending last at cut = ([], last, All-nil IsWork, cut, refl)
  step_cut (Some (Dm sid call)) ending last at cut = absurd at
  step_cut (Some (Copy volume handle segment bytes)) ending last at cut = absurd at
  step_cut (Some (Fetch entry)) ending last at cut = absurd at

  -- ---- a turn: what is left of one, and one behind it

  begun_turns : (asked : Act) (begun turn : List Deed) → IsUpToRest daemon begun → IsTurnFrom daemon (asked_behind (life daemon begun) (Some asked)) turn → IsUpToRest daemon turn
  begun_turns asked begun turn is then = subst (λ (o : Option Act). IsTurnFrom daemon o turn) (after_rest daemon begun asked is) then

  pub left_turns : (asked : Option Act) (begun turn : List Deed) → IsLeftFrom daemon asked begun → IsTurnFrom daemon (asked_behind (life daemon begun) asked) turn → IsTurnFrom daemon asked (begun ++ turn)
  left_turns None begun turn left is = subst (λ (ds : List Deed). IsTurnFrom daemon (asked_behind (life daemon ds) None) turn → ds ++ turn ≡ []) (sym left) (λ none. none) is
  left_turns (Some Idle) begun turn left is = subst (λ (ds : List Deed). IsTurnFrom daemon (asked_behind (life daemon ds) (Some Idle)) turn → IsUpToRest daemon (ds ++ turn)) (sym left) (λ whole. whole) is
  left_turns (Some (Dm sid call)) begun turn left is = (begun, turn, refl, left, begun_turns (Dm sid call) begun turn left is)
  left_turns (Some (Copy volume handle segment bytes)) begun turn left is = (begun, turn, refl, left, begun_turns (Copy volume handle segment bytes) begun turn left is)
  left_turns (Some (Fetch entry)) begun turn left is = (begun, turn, refl, left, begun_turns (Fetch entry) begun turn left is)

  pub left_cut : (asked : Option Act) (ending : Ending) (last : List Deed) → IsLeftCutFrom daemon asked ending last → IsTurnCutFrom daemon asked ending last
  left_cut None ending last cut = cut
  left_cut (Some Idle) ending last cut = absurd cut
  left_cut (Some (Dm sid call)) ending last cut = inl cut
  left_cut (Some (Copy volume handle segment bytes)) ending last cut = inl cut
  left_cut (Some (Fetch entry)) ending last cut = inl cut

  begun_turns_cut : (asked : Act) (ending : Ending) (begun turn : List Deed) → IsUpToRest daemon begun → IsTurnCutFrom daemon (asked_behind (life daemon begun) (Some asked)) ending turn → IsWorkCut daemon ending turn
  begun_turns_cut asked ending begun turn is then = subst (λ (o : Option Act). IsTurnCutFrom daemon o ending turn) (after_rest daemon begun asked is) then

  pub left_turns_cut : (asked : Option Act) (ending : Ending) (begun turn : List Deed) → IsLeftFrom daemon asked begun → IsTurnCutFrom daemon (asked_behind (life daemon begun) asked) ending turn → IsTurnCutFrom daemon asked ending (begun ++ turn)
  left_turns_cut None ending begun turn left cut = subst (λ (ds : List Deed). IsTurnCutFrom daemon (asked_behind (life daemon ds) None) ending turn → ⊥) (sym left) (λ wrong. wrong) cut
  left_turns_cut (Some Idle) ending begun turn left cut = subst (λ (ds : List Deed). IsTurnCutFrom daemon (asked_behind (life daemon ds) (Some Idle)) ending turn → IsWorkCut daemon ending (ds ++ turn)) (sym left) (λ whole. whole) cut
  left_turns_cut (Some (Dm sid call)) ending begun turn left cut = inr (begun, turn, refl, left, begun_turns_cut (Dm sid call) ending begun turn left cut)
  left_turns_cut (Some (Copy volume handle segment bytes)) ending begun turn left cut = inr (begun, turn, refl, left, begun_turns_cut (Copy volume handle segment bytes) ending begun turn left cut)
  left_turns_cut (Some (Fetch entry)) ending begun turn left cut = inr (begun, turn, refl, left, begun_turns_cut (Fetch entry) ending begun turn left cut)

-- ---- settles

module _ (quiet : Entry → Bool) (MayGoOn : List Entry → ℕ → Type 0) (given : Given) where
  -- a refresh, and rounds that aren't quiet
  pub record RoundsTo (deeds : List Deed) : Type 0 where
    pub rounds : List (List Deed)
    pub parted : deeds ≡ Refreshes ∷ joined rounds
    pub busy : AreBusy quiet MayGoOn given rounds

  pub rounds_none : RoundsTo (Refreshes ∷ [])
  rounds_none = record { rounds = []; parted = refl; busy = tt }

  behind : (deeds : List Deed) (so : RoundsTo deeds) → given_behind deeds given ≡ given_behind (joined so.rounds) given
  behind deeds so = ap (λ (ds : List Deed). given_behind ds given) so.parted

  joined_more : (rounds : List (List Deed)) (round : List Deed) → joined (rounds ++ round ∷ []) ≡ joined rounds ++ round
  joined_more rounds round = flat_map-append (λ (part : List Deed). part) rounds (round ∷ []) ∙ ap (λ (ds : List Deed). joined rounds ++ ds) (append-nil round)

module _ (quiet : Entry → Bool) (MayGoOn : List Entry → ℕ → Type 0) where
  busy_push : (given : Given) (rounds : List (List Deed)) (round : List Deed) → AreBusy quiet MayGoOn given rounds → IsRound quiet MayGoOn (given_behind (joined rounds) given) round → are_quiet quiet round ≡ false → AreBusy quiet MayGoOn given (rounds ++ round ∷ [])
  busy_push given [] round busy is loud = (subst (λ (g : Given). IsRound quiet MayGoOn g round) (given_none given) is, loud, tt)
  busy_push given (first ∷ rounds) round busy is loud = (
    busy.0,
    busy.1,
    busy_push (given_behind first given) rounds round busy.2 (subst (λ (g : Given). IsRound quiet MayGoOn g round) (given_then first (joined rounds) given) is) loud,
  )

  module _ (given : Given) (deeds : List Deed) (so : RoundsTo quiet MayGoOn given deeds) (round : List Deed) where
    on_it : IsRound quiet MayGoOn (given_behind deeds given) round → IsRound quiet MayGoOn (given_behind (joined so.rounds) given) round
    on_it is = subst (λ (g : Given). IsRound quiet MayGoOn g round) (behind quiet MayGoOn given deeds so) is

    pub rounds_on : IsRound quiet MayGoOn (given_behind deeds given) round → are_quiet quiet round ≡ false → RoundsTo quiet MayGoOn given (deeds ++ round)
    rounds_on is loud = record {
      rounds = so.rounds ++ round ∷ [];
      parted = ap (λ (ds : List Deed). ds ++ round) so.parted ∙ ap (λ (ds : List Deed). Refreshes ∷ ds) (sym (joined_more quiet MayGoOn given so.rounds round));
      busy = busy_push given so.rounds round so.busy (on_it is) loud;
    }

    pub rounds_settle : IsRound quiet MayGoOn (given_behind deeds given) round → are_quiet quiet round ≡ true → IsSettle quiet MayGoOn given (deeds ++ round)
    rounds_settle is calm = record {
      rounds = so.rounds;
      last = round;
      parted = ap (λ (ds : List Deed). ds ++ round) so.parted;
      busy = so.busy;
      round = on_it is;
      ends = calm;
    }

    pub rounds_cut : (ending : Ending) → IsRoundCut quiet MayGoOn (given_behind deeds given) ending round → IsSettleCut quiet MayGoOn given ending (deeds ++ round)
    rounds_cut ending cut = record {
      rounds = so.rounds;
      last = round;
      parted = ap (λ (ds : List Deed). ds ++ round) so.parted;
      busy = so.busy;
      cut = subst (λ (g : Given). IsRoundCut quiet MayGoOn g ending round) (behind quiet MayGoOn given deeds so) cut;
    }

  -- ---- lines

  pub stops_on : (given : Given) (lines more : List Line) → StopsOn quiet MayGoOn given lines more
  stops_on given lines more ending deeds then is stops = record {
    whole = lines ++ stops.whole;
    line = stops.line;
    left = stops.left;
    done = deeds ++ stops.done;
    last = stops.last;
    lines_parted = ap (λ (l : List Line). lines ++ l) stops.lines_parted ∙ sym (append_assoc lines stops.whole (stops.line ∷ stops.left));
    parted = ap (λ (ds : List Deed). deeds ++ ds) stops.parted ∙ sym (append_assoc deeds stops.done stops.last);
    follows = follows_on quiet MayGoOn given lines stops.whole deeds stops.done is stops.follows;
    cut = subst (λ (g : Given). IsLineCut quiet MayGoOn stops.line g ending stops.last) (sym (given_then deeds stops.done given)) stops.cut;
  }
