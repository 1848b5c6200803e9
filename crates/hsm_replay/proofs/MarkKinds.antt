-- Which marks the deeds of a line leave, by the kind of these deeds alone.
use Rattle.std.proofs.Common.{◌≡◌, ◌∙◌, ◌⊎◌, ℕ, ◌∷◌, ◌++◌, [], map, Bool, true, List, Option, Some, None, is_some, IfSome, inl, inr, refl, sym, ap, subst}
use Rattle.std.specs.Prelude.{All, flat_map}
use Rattle.std.specs.List.{AllByRecursion, cons_option}
use Rattle.std.specs.Map.{keys_of}
use Rattle.std.proofs.lemmas.List.Elements.{All-nil, All-cons, All-head, All-tail, All-append}
use Rattle.hsm_types.specs.Callers.{IsCallerNumber}
use Rattle.hsm_types.specs.declared.daemons.Act.{Act}
use Rattle.hsm_types.specs.declared.daemons.Act.TheVariants as act
use Rattle.hsm_types.specs.declared.daemons.Act.TheVariants.{Idle}
use Rattle.hsm_types.specs.declared.daemons.Daemon.{Daemon}
use Rattle.hsm_types.specs.declared.daemons.Daemon.TheVariants.{Recall, Migrate}
use Rattle.hsm_types.specs.declared.daemons.Heard.{Heard}
use Rattle.hsm_types.specs.declared.daemons.Heard.TheVariants as heard
use Rattle.plain_model.specs.declared.entries.Action.{Action}
use Rattle.plain_model.specs.declared.entries.Action.TheVariants.{Resume}
use Rattle.plain_model.specs.declared.entries.Actor.{Actor}
use Rattle.plain_model.specs.declared.entries.Actor.TheVariants.{Caller}
use Rattle.plain_model.specs.declared.entries.Answer.{Answer}
use Rattle.plain_model.specs.declared.entries.Entry.{Entry}
use Rattle.script_text.specs.declared.lines.Line.{Line}
use Rattle.script_text.specs.declared.lines.Line.TheVariants.{Event, Start, Kill, Step, Settle}
use Rattle.deeds.specs.Deeds.{entry_of, Deed, Enters, Refreshes, Gives, Hears, Breaks, Loses, Fits, StopsNothing}
use Rattle.deeds.specs.Given.{Given, given_of, given_behind}
use Rattle.plain_model.specs.Faults.{fault_of}
use Rattle.deeds.proofs.Giving.{given_none, given_then}
use Rattle.deeds.proofs.Lists.{all_first, all_rest}
use Rattle.marked_history.specs.Follows as marked
use Rattle.marked_history.specs.Follows.{IsMadeBy, IsOfSettling, IsStepOf}
use Rattle.marked_history.specs.Marks.{Mark}
use Rattle.marked_history.specs.Settling.{running_by, IsByRunning, AreByRunning}
use Rattle.marked_history.specs.Waiting.{Running, runs}
use Rattle.hsm_replay.specs.Marking.{call_mark, mark_in, marks_of}
use Rattle.hsm_replay.specs.Parts.{done_by, resume_of, IsStepFrom, IsTurnFrom, joined, IsRound, AreBusy, IsSettle, IsPartOf}
use Rattle.hsm_replay.specs.Stopped.{Ending, Broken, Unmade, Lost, IsEventCut, IsActCut, IsStepCutFrom, IsWorkCut, IsTurnCutFrom, AreResumesCut, IsRoundCut, IsSettleCut, IsLineCut}
use Rattle.hsm_replay.proofs.PartsDone.{OfActs, rest_all, resumes_all, round_of, settle_of, step_of, turn_of, work_all}
use Rattle.hsm_replay.proofs.PartsRun.{round_steady}

-- ---- marks of deeds

mark_more : (P : Mark → Type 0) (o : Option Mark) (ms : List Mark) → IfSome o P → AllByRecursion P ms → AllByRecursion P (cons_option o ms)
mark_more P None ms is all = all
mark_more P (Some m) ms is all = (is, all)

-- the mark of the deed, where it leaves one, is such
abbrev MarksSo : (Mark → Type 0) → Deed → Type 0
MarksSo P deed = IfSome (mark_in deed) P

pub marks_all : (P : Mark → Type 0) (deeds : List Deed) → All (MarksSo P) deeds → AllByRecursion P (marks_of deeds)
marks_all P [] all = tt
marks_all P (deed ∷ deeds) all = mark_more P (mark_in deed) (marks_of deeds) (All-head (MarksSo P) deed deeds all) (marks_all P deeds (All-tail (MarksSo P) deed deeds all))

call_made : (P : Mark → Type 0) (daemon : Daemon) → ((m : Mark) → IsMadeBy daemon m → P m) → (asked : Act) (told : Heard) → IfSome (call_mark daemon asked told) P
call_made P daemon so (act.Dm sid call) (heard.Dm reply) = so _ (sid, call, reply, refl)
call_made P daemon so asked told = tt

acts_made : (P : Mark → Type 0) (daemon : Daemon) → ((m : Mark) → IsMadeBy daemon m → P m) → (asked : Act) (told : Heard) → Fits asked told → MarksSo P (Gives daemon asked) × MarksSo P (Hears daemon asked told)
acts_made P daemon so asked told fits = (tt, call_made P daemon so asked told)

-- ---- steps and turns

step_one : (daemon : Daemon) (asked : Act) (told : Heard) → IsStepOf daemon (cons_option (call_mark daemon asked told) [])
step_one daemon (act.Dm sid call) (heard.Dm reply) = inr (_, refl, (sid, call, reply, refl))
step_one daemon asked told = inl refl

step_marks : (daemon : Daemon) (asked : Option Act) (deeds : List Deed) → IsStepFrom daemon asked deeds → IsStepOf daemon (marks_of deeds)
step_marks daemon None deeds is = inl (ap marks_of is)
step_marks daemon (Some asked) deeds is = subst (λ (ds : List Deed). IsStepOf daemon (marks_of ds)) (sym is.2) (step_one daemon is.0.asked is.0.told)

own : (daemon : Daemon) (m : Mark) → IsMadeBy daemon m → IsMadeBy daemon m
own daemon m is = is

pub turn_marks : (daemon : Daemon) (asked : Option Act) (deeds : List Deed) → IsTurnFrom daemon asked deeds → AllByRecursion (IsMadeBy daemon) (marks_of deeds)
turn_marks daemon asked deeds is = marks_all (IsMadeBy daemon) deeds (turn_of (MarksSo (IsMadeBy daemon)) daemon asked (λ runs. acts_made (IsMadeBy daemon) daemon (own daemon)) deeds is)

-- ---- settles

-- of the marks of a settle P holds where it holds of the calls of daemons that run, and of resumes
module _ (quiet : Entry → Bool) (MayGoOn : List Entry → ℕ → Type 0) (P : Mark → Type 0) (on : Daemon → Bool)
    (calls : (daemon : Daemon) → on daemon ≡ true → (m : Mark) → IsMadeBy daemon m → P m) (resumes : (m : Mark) → marked.IsResume m → P m) where
  -- these daemons run
  abbrev AreOn : Given → Type 0
  AreOn given = (daemon : Daemon) → is_some (given_of daemon given) ≡ on daemon

  abbrev AreSo : List Deed → Type 0
  AreSo deeds = All (MarksSo P) deeds

  called : (given : Given) → AreOn given → (daemon : Daemon) → is_some (given_of daemon given) ≡ true → OfActs (MarksSo P) daemon
  called given are daemon runs = acts_made P daemon (calls daemon (sym (are daemon) ∙ runs))

  resumed : (caller : ℕ) (told : Answer) → IsCallerNumber caller → StopsNothing told → MarksSo P (resume_of (caller, told))
  resumed caller told number served = resumes _ (caller, told, number, refl)

  round_so : (given : Given) → AreOn given → (deeds : List Deed) → IsRound quiet MayGoOn given deeds → AreSo deeds
  round_so given are = round_of quiet MayGoOn (MarksSo P) resumed given (called given are)

  on_behind : (given : Given) (round : List Deed) → IsRound quiet MayGoOn given round → AreOn given → AreOn (given_behind round given)
  on_behind given round is are daemon = round_steady quiet MayGoOn daemon given round is ∙ are daemon

  busy_so : (given : Given) → AreOn given → (rounds : List (List Deed)) → AreBusy quiet MayGoOn given rounds → AreSo (joined rounds) × AreOn (given_behind (joined rounds) given)
  busy_so given are [] busy = (All-nil (MarksSo P), subst AreOn (sym (given_none given)) are)
  busy_so given are (round ∷ rounds) busy =
      let more = busy_so (given_behind round given) (on_behind given round busy.0 are) rounds busy.2 in
      (All-append (MarksSo P) round (joined rounds) (round_so given are round busy.0) more.0, subst AreOn (sym (given_then round (joined rounds) given)) more.1)

  settle_so : (given : Given) → AreOn given → (deeds : List Deed) → IsSettle quiet MayGoOn given deeds → AreSo deeds
  settle_so given are deeds s =
      let busy = busy_so given are s.rounds s.busy in
      settle_of quiet MayGoOn (MarksSo P) resumed tt given deeds s busy.0 (round_so (given_behind (joined s.rounds) given) busy.1 s.last s.round)

  -- ---- where the run was stopped

  one_so : (deed : Deed) → MarksSo P deed → AreSo (deed ∷ [])
  one_so deed so = All-cons (MarksSo P) deed [] so (All-nil (MarksSo P))

  act_cut_so : (daemon : Daemon) → on daemon ≡ true → (ending : Ending) (deeds : List Deed) → IsActCut daemon ending deeds → AreSo deeds
  act_cut_so daemon runs Broken deeds is =
      subst AreSo (sym is.2) (All-cons (MarksSo P) (Gives daemon (act.Dm is.0 is.1)) (Breaks daemon is.0 is.1 ∷ []) tt (one_so (Breaks daemon is.0 is.1) (calls daemon runs _ (is.0, is.1, _, refl))))
  act_cut_so daemon runs Unmade deeds is = subst AreSo (sym is.2) (All-cons (MarksSo P) (Gives daemon (act.Dm is.0 is.1)) (Loses daemon ∷ []) tt (one_so (Loses daemon) tt))
  act_cut_so daemon runs Lost deeds (inl is) = subst AreSo (sym is) (one_so (Loses daemon) tt)
  act_cut_so daemon runs Lost deeds (inr is) = subst AreSo (sym is.2) (All-cons (MarksSo P) (Gives daemon is.0) (Loses daemon ∷ []) tt (one_so (Loses daemon) tt))

  work_cut_so : (daemon : Daemon) → on daemon ≡ true → (ending : Ending) (deeds : List Deed) → IsWorkCut daemon ending deeds → AreSo deeds
  work_cut_so daemon runs ending deeds is = subst AreSo (sym is.4) (All-append (MarksSo P) (flat_map (done_by daemon) is.0) is.1
      (work_all (MarksSo P) daemon (acts_made P daemon (calls daemon runs)) is.0 is.2)
      (act_cut_so daemon runs ending is.1 is.3))

  turn_cut_so : (daemon : Daemon) (asked : Option Act) → is_some asked ≡ on daemon → (ending : Ending) (deeds : List Deed) → IsTurnCutFrom daemon asked ending deeds → AreSo deeds
  turn_cut_so daemon None are ending deeds is = absurd is
  turn_cut_so daemon (Some Idle) are ending deeds is = work_cut_so daemon (sym are) ending deeds is
  turn_cut_so daemon (Some asked) are ending deeds (inl is) = work_cut_so daemon (sym are) ending deeds is
  turn_cut_so daemon (Some asked) are ending deeds (inr is) = subst AreSo (sym is.2) (All-append (MarksSo P) is.0 is.1
      (rest_all (MarksSo P) daemon (acts_made P daemon (calls daemon (sym are))) is.0 is.3)
      (work_cut_so daemon (sym are) ending is.1 is.4))

  resume_cut_so : (caller : ℕ) → IsCallerNumber caller → (ending : Ending) (deeds : List Deed) → IsEventCut (Caller caller) Resume ending deeds → AreSo deeds
  resume_cut_so caller number Broken deeds is = subst AreSo (sym is) (one_so (Enters (entry_of (Caller caller) Resume (fault_of Resume))) (resumes _ (caller, fault_of Resume, number, refl)))
  resume_cut_so caller number Unmade deeds is = subst AreSo (sym is) (All-nil (MarksSo P))
  resume_cut_so caller number Lost deeds is = absurd is

  resumes_cut_so : (given : Given) (ending : Ending) (deeds : List Deed) → AreResumesCut MayGoOn given ending deeds → AreSo deeds
  resumes_cut_so given ending deeds r = subst AreSo (sym r.parted) (All-append (MarksSo P) (map resume_of r.told) r.last
      (resumes_all quiet MayGoOn (MarksSo P) resumed r.told (all_first IsCallerNumber (keys_of r.told) (r.caller ∷ []) r.numbers) r.served)
      (resume_cut_so r.caller (All-head IsCallerNumber r.caller [] (all_rest IsCallerNumber (keys_of r.told) (r.caller ∷ []) r.numbers)) ending r.last r.cut))

  round_cut_so : (given : Given) → AreOn given → (ending : Ending) (deeds : List Deed) → IsRoundCut quiet MayGoOn given ending deeds → AreSo deeds
  round_cut_so given are ending deeds (inl is) = turn_cut_so Recall given.recall (are Recall) ending deeds is
  round_cut_so given are ending deeds (inr (inl (recalls, resumed, parted, turn, cut))) = subst AreSo (sym parted) (All-append (MarksSo P) recalls resumed
      (turn_of (MarksSo P) Recall given.recall (called given are Recall) recalls turn)
      (resumes_cut_so (given_behind recalls given) ending resumed cut))
  round_cut_so given are ending deeds (inr (inr (recalls, gone_on, migrates, parted, turn, went, quiet_so, cut))) = subst AreSo (sym parted) (All-append (MarksSo P) recalls (gone_on ++ migrates)
      (turn_of (MarksSo P) Recall given.recall (called given are Recall) recalls turn)
      (All-append (MarksSo P) gone_on migrates
      (subst AreSo (sym went.parted) (resumes_all quiet MayGoOn (MarksSo P) resumed went.told went.numbers went.served))
      (turn_cut_so Migrate given.migrate (are Migrate) ending migrates cut)))

  settle_cut_so : (given : Given) → AreOn given → (ending : Ending) (deeds : List Deed) → IsSettleCut quiet MayGoOn given ending deeds → AreSo deeds
  settle_cut_so given are ending deeds s =
      let busy = busy_so given are s.rounds s.busy in
      subst AreSo (sym s.parted) (All-cons (MarksSo P) Refreshes (joined s.rounds ++ s.last) tt (All-append (MarksSo P) (joined s.rounds) s.last busy.0 (round_cut_so (given_behind (joined s.rounds) given) busy.1 ending s.last s.cut)))

-- ---- lines

abbrev HasGiven : Given → Daemon → Bool
HasGiven given daemon = is_some (given_of daemon given)

step_cut_marks : (daemon : Daemon) (asked : Option Act) (ending : Ending) (deeds : List Deed) → IsStepCutFrom daemon asked ending deeds → IsStepOf daemon (marks_of deeds)
step_cut_marks daemon None ending deeds is = absurd is
step_cut_marks daemon (Some asked) Broken deeds is = inr (_, ap marks_of is.2, (is.0, is.1, _, refl))
step_cut_marks daemon (Some asked) Unmade deeds is = inl (ap marks_of is.2)
step_cut_marks daemon (Some asked) Lost deeds (inl is) = inl (ap marks_of is)
step_cut_marks daemon (Some asked) Lost deeds (inr is) = inl (ap marks_of is.2)

event_cut_marks : (actor : Actor) (asked : Action) (seed : Option ℕ) (ending : Ending) (deeds : List Deed) → IsEventCut actor asked ending deeds → marked.IsPartOf (Event actor asked seed) (marks_of deeds) ⊎ (marks_of deeds ≡ [])
event_cut_marks actor asked seed Broken deeds is = inl (fault_of asked, ap marks_of is)
event_cut_marks actor asked seed Unmade deeds is = inr (ap marks_of is)
event_cut_marks actor asked seed Lost deeds is = absurd is

made_by : (r : Running) (daemon : Daemon) → runs daemon r ≡ true → (m : Mark) → IsMadeBy daemon m → IsByRunning r m
made_by r daemon on m is = subst (IsByRunning r) (sym is.3) on

resumed_by : (r : Running) (m : Mark) → marked.IsResume m → IsByRunning r m
resumed_by r m is = subst (IsByRunning r) (sym is.3) tt

module _ (quiet : Entry → Bool) (MayGoOn : List Entry → ℕ → Type 0) where
  pub line_marks : (given : Given) (line : Line) (deeds : List Deed) → IsPartOf quiet MayGoOn given line deeds → marked.IsPartOf line (marks_of deeds)
  line_marks given (Event actor asked seed) deeds is = (is.0, ap marks_of is.2)
  line_marks given (Start daemon) deeds is = ap marks_of is
  line_marks given (Kill daemon) deeds is = ap marks_of is
  line_marks given (Step daemon) deeds is = step_marks daemon (given_of daemon given) deeds is
  line_marks given Settle deeds is = marks_all IsOfSettling deeds (settle_so quiet MayGoOn IsOfSettling (HasGiven given) (λ daemon runs m is. inl (daemon, is)) (λ m is. inr is) given (λ daemon. refl) deeds is)

  -- at which the run was stopped
  pub line_cut_marks : (given : Given) (line : Line) (ending : Ending) (deeds : List Deed) → IsLineCut quiet MayGoOn line given ending deeds → marked.IsPartOf line (marks_of deeds) ⊎ (marks_of deeds ≡ [])
  line_cut_marks given (Event actor asked seed) ending deeds is = event_cut_marks actor asked seed ending deeds is
  line_cut_marks given (Start daemon) ending deeds is = absurd is
  line_cut_marks given (Kill daemon) ending deeds is = absurd is
  line_cut_marks given (Step daemon) ending deeds is = inl (step_cut_marks daemon (given_of daemon given) ending deeds is)
  line_cut_marks given Settle ending deeds is = inl (marks_all IsOfSettling deeds (settle_cut_so quiet MayGoOn IsOfSettling (HasGiven given) (λ daemon runs m is. inl (daemon, is)) (λ m is. inr is) given (λ daemon. refl) ending deeds is))

  -- ---- which daemons make them

  module _ (r : Running) (given : Given) (are : (daemon : Daemon) → is_some (given_of daemon given) ≡ runs daemon r) where
    abbrev By : List Deed → Type 0
    By deeds = AreByRunning r (marks_of deeds)

    step_cut_by : (daemon : Daemon) (asked : Option Act) → is_some asked ≡ runs daemon r → (ending : Ending) (deeds : List Deed) → IsStepCutFrom daemon asked ending deeds → By deeds
    step_cut_by daemon None are ending deeds is = absurd is
    step_cut_by daemon (Some asked) are ending deeds is =
        marks_all (IsByRunning r) deeds (act_cut_so quiet MayGoOn (IsByRunning r) (λ one. runs one r) (λ one. made_by r one) (resumed_by r) daemon (sym are) ending deeds is)

    event_cut_by : (actor : Actor) (asked : Action) (ending : Ending) (deeds : List Deed) → IsEventCut actor asked ending deeds → By deeds
    event_cut_by actor asked Broken deeds is = subst By (sym is) (tt, tt)
    event_cut_by actor asked Unmade deeds is = subst By (sym is) tt
    event_cut_by actor asked Lost deeds is = absurd is

    pub line_by : (line : Line) (deeds : List Deed) → IsPartOf quiet MayGoOn given line deeds → By deeds
    line_by (Event actor asked seed) deeds is = subst By (sym is.2) (tt, tt)
    line_by (Start daemon) deeds is = subst By (sym is) tt
    line_by (Kill daemon) deeds is = subst By (sym is) tt
    line_by (Step daemon) deeds is =
        marks_all (IsByRunning r) deeds (step_of (MarksSo (IsByRunning r)) daemon (given_of daemon given) (λ on. acts_made (IsByRunning r) daemon (made_by r daemon (sym (are daemon) ∙ on))) deeds is)
    line_by Settle deeds is = marks_all (IsByRunning r) deeds (settle_so quiet MayGoOn (IsByRunning r) (λ one. runs one r) (λ one. made_by r one) (resumed_by r) given are deeds is)

    pub line_cut_by : (line : Line) (ending : Ending) (deeds : List Deed) → IsLineCut quiet MayGoOn line given ending deeds → By deeds
    line_cut_by (Event actor asked seed) ending deeds is = event_cut_by actor asked ending deeds is
    line_cut_by (Start daemon) ending deeds is = absurd is
    line_cut_by (Kill daemon) ending deeds is = absurd is
    line_cut_by (Step daemon) ending deeds is = step_cut_by daemon (given_of daemon given) (are daemon) ending deeds is
    line_cut_by Settle ending deeds is = marks_all (IsByRunning r) deeds (settle_cut_so quiet MayGoOn (IsByRunning r) (λ one. runs one r) (λ one. made_by r one) (resumed_by r) given are ending deeds is)

-- ---- by daemons that run behind the line

still_by : (line : Line) (r : Running) (part : List Mark) → marked.IsPartOf line part → AreByRunning r part → AreByRunning (running_by line r) part
still_by (Event actor asked seed) r part is by = by
still_by (Start daemon) r part none by = subst (λ (marks : List Mark). AreByRunning (running_by (Start daemon) r) marks) (sym none) tt
still_by (Kill daemon) r part none by = subst (λ (marks : List Mark). AreByRunning (running_by (Kill daemon) r) marks) (sym none) tt
still_by (Step daemon) r part is by = by
still_by Settle r part is by = by

pub line_by_behind : (quiet : Entry → Bool) (MayGoOn : List Entry → ℕ → Type 0) (r : Running) (given : Given) → ((daemon : Daemon) → is_some (given_of daemon given) ≡ runs daemon r)
    → (line : Line) (deeds : List Deed) → IsPartOf quiet MayGoOn given line deeds → AreByRunning (running_by line r) (marks_of deeds)
line_by_behind quiet MayGoOn r given are line deeds is = still_by line r (marks_of deeds) (line_marks quiet MayGoOn given line deeds is) (line_by quiet MayGoOn r given are line deeds is)
