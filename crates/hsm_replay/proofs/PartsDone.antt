-- What is so of deeds that follow lines: of their entries, and of each of them.
use Rattle.std.proofs.Common.{◌≡◌, ◌≢◌, ◌∙◌, ℕ, ◌∷◌, ◌++◌, [], map, Bool, true, false, List, Option, Some, None, is_some, IfSome, inl, inr, refl, sym, ap, subst}
use Rattle.std.proofs.Common.{append_assoc}
use Rattle.std.specs.Prelude.{All, flat_map}
use Rattle.std.specs.List.{cons_option}
use Rattle.std.specs.Map.{keys_of}
use Rattle.std.proofs.lemmas.List.Elements.{All-nil, All-cons, All-head, All-tail, All-append}
use Rattle.hsm_types.specs.Callers.{IsCallerNumber}
use Rattle.hsm_types.specs.declared.daemons.Act.{Act}
use Rattle.hsm_types.specs.declared.daemons.Act.TheVariants as act
use Rattle.hsm_types.specs.declared.daemons.Act.TheVariants.{Idle}
use Rattle.hsm_types.specs.declared.daemons.Daemon.{Daemon}
use Rattle.hsm_types.specs.declared.daemons.Daemon.TheVariants.{Recall, Migrate}
use Rattle.hsm_types.specs.declared.daemons.Heard.{Heard}
use Rattle.hsm_types.specs.declared.daemons.Heard.TheVariants as heard
use Rattle.hsm_types.specs.declared.dm.DmRefusal.TheVariants as why
use Rattle.hsm_types.specs.declared.dm.DmReply.{DmReply}
use Rattle.hsm_types.specs.declared.dm.DmReply.TheVariants.{Refused}
use Rattle.plain_model.specs.declared.entries.Action.TheVariants.{Resume}
use Rattle.plain_model.specs.declared.entries.Actor.TheVariants.{Caller}
use Rattle.plain_model.specs.declared.entries.Answer.{Answer}
use Rattle.plain_model.specs.declared.entries.Answer.TheVariants as answer
use Rattle.plain_model.specs.declared.entries.Entry.{Entry}
use Rattle.script_text.specs.declared.lines.Line.{Line}
use Rattle.script_text.specs.declared.lines.Line.TheVariants.{Event, Start, Kill, Step, Settle}
use Rattle.deeds.specs.Deeds.{entry_of, Deed, Enters, Starts, Kills, Refreshes, Gives, Hears, call_told, entry_in, entries_of, Fits, StopsNothing}
use Rattle.deeds.specs.Given.{Given, given_of, given_behind}
use Rattle.hsm_replay.specs.Parts.{Exchange, resting, done_by, IsStepFrom, IsWork, IsUpToRest, IsTurnFrom, IsTurnIf, resume_of, joined, are_quiet, IsRound}
use Rattle.hsm_replay.specs.Parts.{AreBusy, IsSettle, IsPartOf, Follows, FollowsOn}
use Rattle.hsm_replay.specs.Lines as history
use Rattle.deeds.proofs.Giving.{given_none, given_then}
use Rattle.deeds.proofs.Living.{entries_then}

-- ---- each deed of a step and of a settle

module _ (P : Deed → Type 0) (daemon : Daemon) where
  -- it holds of acts of the daemon that were done
  abbrev pub OfActs : Type 0
  OfActs = (asked : Act) (told : Heard) → Fits asked told → P (Gives daemon asked) × P (Hears daemon asked told)

  pub done_all : OfActs → (x : Exchange) → Fits x.asked x.told → All P (done_by daemon x)
  done_all acts x fits =
      let both = acts x.asked x.told fits in
      All-cons P (Gives daemon x.asked) (Hears daemon x.asked x.told ∷ []) both.0 (All-cons P (Hears daemon x.asked x.told) [] both.1 (All-nil P))

  pub work_all : OfActs → (work : List Exchange) → All IsWork work → All P (flat_map (done_by daemon) work)
  work_all acts [] all = All-nil P
  work_all acts (x ∷ work) all = All-append P (done_by daemon x) (flat_map (done_by daemon) work) (done_all acts x (All-head IsWork x work all).1) (work_all acts work (All-tail IsWork x work all))

  pub rest_all : OfActs → (deeds : List Deed) → IsUpToRest daemon deeds → All P deeds
  rest_all acts deeds is = subst (λ (ds : List Deed). All P ds) (sym is.2) (All-append P (flat_map (done_by daemon) is.0) (done_by daemon resting) (work_all acts is.0 is.1) (done_all acts resting tt))

  -- so of a step and of a turn, which one that doesn't run has none of
  pub step_of : (last : Option Act) → (is_some last ≡ true → OfActs) → (deeds : List Deed) → IsStepFrom daemon last deeds → All P deeds
  step_of None acts deeds is = subst (λ (ds : List Deed). All P ds) (sym is) (All-nil P)
  step_of (Some asked) acts deeds is = subst (λ (ds : List Deed). All P ds) (sym is.2) (done_all (acts refl) is.0 is.1)

  pub turn_of : (last : Option Act) → (is_some last ≡ true → OfActs) → (deeds : List Deed) → IsTurnFrom daemon last deeds → All P deeds
  turn_of None acts deeds is = subst (λ (ds : List Deed). All P ds) (sym is) (All-nil P)
  turn_of (Some Idle) acts deeds is = rest_all (acts refl) deeds is
  turn_of (Some asked) acts deeds is = subst (λ (ds : List Deed). All P ds) (sym is.2) (All-append P is.0 is.1 (rest_all (acts refl) is.0 is.3) (rest_all (acts refl) is.1 is.4))

  turn_if : (own : Bool) (given : Given) → (is_some (given_of daemon given) ≡ true → OfActs) → (deeds : List Deed) → IsTurnIf own daemon given deeds → All P deeds
  turn_if true given acts deeds is = turn_of (given_of daemon given) acts deeds is
  turn_if false given acts deeds is = subst (λ (ds : List Deed). All P ds) (sym is) (All-nil P)

-- Of the deeds of a settle P holds where it holds of acts that were done, of a refresh, and of resumes.
module _ (quiet : Entry → Bool) (MayGoOn : List Entry → ℕ → Type 0) (P : Deed → Type 0) (resumes : (caller : ℕ) (told : Answer) → IsCallerNumber caller → StopsNothing told → P (resume_of (caller, told))) where
  abbrev IsOne : ℕ × Answer → Type 0
  IsOne x = StopsNothing x.1

  pub resumes_all : (told : List (ℕ × Answer)) → All IsCallerNumber (keys_of told) → All IsOne told → All P (map resume_of told)
  resumes_all [] all served = All-nil P
  resumes_all (x ∷ told) all served = All-cons P (resume_of x) (map resume_of told) (resumes x.0 x.1 (All-head IsCallerNumber x.0 (keys_of told) all) (All-head IsOne x told served))
      (resumes_all told (All-tail IsCallerNumber x.0 (keys_of told) all) (All-tail IsOne x told served))

  pub round_of : (given : Given) → ((daemon : Daemon) → is_some (given_of daemon given) ≡ true → OfActs P daemon) → (deeds : List Deed) → IsRound quiet MayGoOn given deeds → All P deeds
  round_of given acts deeds r = subst (λ (ds : List Deed). All P ds) (sym r.parted) (All-append P r.recalls (r.resumes ++ r.migrates)
      (turn_of P Recall given.recall (acts Recall) r.recalls r.recall_turn)
      (All-append P r.resumes r.migrates
      (subst (λ (ds : List Deed). All P ds) (sym r.resumed.parted) (resumes_all r.resumed.told r.resumed.numbers r.resumed.served))
      (turn_if P Migrate (are_quiet quiet (r.recalls ++ r.resumes)) given (acts Migrate) r.migrates r.migrate_turn)))

  module _ (refreshes : P Refreshes) where
    -- its rounds, each of which it holds of
    pub settle_of : (given : Given) (deeds : List Deed) (s : IsSettle quiet MayGoOn given deeds) → All P (joined s.rounds) → All P s.last → All P deeds
    settle_of given deeds s rounds last = subst (λ (ds : List Deed). All P ds) (sym s.parted) (All-cons P Refreshes (joined s.rounds ++ s.last) refreshes (All-append P (joined s.rounds) s.last rounds last))

    module _ (acts : (daemon : Daemon) → OfActs P daemon) where
      pub busy_all : (given : Given) (rounds : List (List Deed)) → AreBusy quiet MayGoOn given rounds → All P (joined rounds)
      busy_all given [] is = All-nil P
      busy_all given (round ∷ rounds) is = All-append P round (joined rounds) (round_of given (λ daemon runs. acts daemon) round is.0) (busy_all (given_behind round given) rounds is.2)

      pub settle_all : (given : Given) (deeds : List Deed) → IsSettle quiet MayGoOn given deeds → All P deeds
      settle_all given deeds s = settle_of given deeds s (busy_all given s.rounds s.busy) (round_of (given_behind (joined s.rounds) given) (λ daemon runs. acts daemon) s.last s.round)

-- a call that is heard of is answered so that a run goes on
reply_served : (reply : DmReply) → (reply ≢ Refused why.Disk) × (reply ≢ Refused why.Memory) → StopsNothing (answer.Dm reply)
reply_served (Refused why.Disk) fits = absurd (fits.0 refl)
reply_served (Refused why.Memory) fits = absurd (fits.1 refl)
reply_served reply fits = tt

hears_whole : (asked : Act) (told : Heard) → Fits asked told → IfSome (call_told asked told) (λ (e : Entry). StopsNothing e.answer)
hears_whole (act.Dm sid call) (heard.Dm reply) fits = reply_served reply fits
hears_whole asked told fits = tt

-- ---- entries of lines

-- its entry, where it has one, is one of a settle
abbrev Settles : Deed → Type 0
Settles deed = IfSome (entry_in deed) history.IsOfSettling

told_settles : (asked : Act) (told : Heard) → IfSome (call_told asked told) history.IsOfSettling
told_settles (act.Dm sid call) (heard.Dm reply) = inr (sid, call, reply, refl)
told_settles asked told = tt

entry_more : (o : Option Entry) (es : List Entry) → IfSome o history.IsOfSettling → All history.IsOfSettling es → All history.IsOfSettling (cons_option o es)
entry_more None es is all = all
entry_more (Some e) es is all = All-cons history.IsOfSettling e es is all

entries_all : (deeds : List Deed) → All Settles deeds → All history.IsOfSettling (entries_of deeds)
entries_all [] all = All-nil history.IsOfSettling
entries_all (deed ∷ deeds) all = entry_more (entry_in deed) (entries_of deeds) (All-head Settles deed deeds all) (entries_all deeds (All-tail Settles deed deeds all))

step_so : (daemon : Daemon) (asked : Act) (told : Heard) → history.IsPartOf (Step daemon) (cons_option (call_told asked told) [])
step_so daemon (act.Dm sid call) (heard.Dm reply) = inr (_, refl, (sid, call, reply, refl))
step_so daemon asked told = inl refl

step_part : (daemon : Daemon) (asked : Option Act) (deeds : List Deed) → IsStepFrom daemon asked deeds → history.IsPartOf (Step daemon) (entries_of deeds)
step_part daemon None deeds is = inl (ap entries_of is)
step_part daemon (Some asked) deeds is = subst (λ (ds : List Deed). history.IsPartOf (Step daemon) (entries_of ds)) (sym is.2) (step_so daemon is.0.asked is.0.told)

module _ (quiet : Entry → Bool) (MayGoOn : List Entry → ℕ → Type 0) where
  part_so : (given : Given) (line : Line) (deeds : List Deed) → IsPartOf quiet MayGoOn given line deeds → history.IsPartOf line (entries_of deeds)
  part_so given (Event actor asked seed) deeds is = (is.0, ap entries_of is.2)
  part_so given (Start daemon) deeds is = ap entries_of is
  part_so given (Kill daemon) deeds is = ap entries_of is
  part_so given (Step daemon) deeds is = step_part daemon (given_of daemon given) deeds is
  part_so given Settle deeds is = entries_all deeds (settle_all quiet MayGoOn Settles
      (λ caller told number served. inl (caller, told, number, refl))
      tt
      (λ daemon asked told fits. (tt, told_settles asked told))
      given deeds is)

  pub follows_so : (lines : List Line) (deeds : List Deed) → history.FollowsSo quiet MayGoOn lines deeds
  follows_so [] deeds given is = ap entries_of is
  follows_so (line ∷ lines) deeds given is =
      (entries_of is.0, entries_of is.1, ap entries_of is.2 ∙ entries_then is.0 is.1, part_so given line is.0 is.3, follows_so lines is.1 (given_behind is.0 given) is.4)

  -- ---- lines behind others

  pub follows_on : (given : Given) (lines more : List Line) → FollowsOn quiet MayGoOn given lines more
  follows_on given [] more deeds then is later = subst (λ (ds : List Deed). Follows quiet MayGoOn given more (ds ++ then)) (sym is) (subst (λ (g : Given). Follows quiet MayGoOn g more then) (ap (λ (ds : List Deed). given_behind ds given) is ∙ given_none given) later)
  follows_on given (line ∷ lines) more deeds then is later = (
    is.0,
    is.1 ++ then,
    ap (λ (ds : List Deed). ds ++ then) is.2 ∙ append_assoc is.0 is.1 then,
    is.3,
    follows_on (given_behind is.0 given) lines more is.1 then is.4 (subst (λ (g : Given). Follows quiet MayGoOn g more then) (ap (λ (ds : List Deed). given_behind ds given) is.2 ∙ given_then is.0 is.1 given) later),
  )

  -- ---- each deed of lines

  -- Of deeds that follow lines P holds where it holds of those, and of events, starts and kills.
  module _ (P : Deed → Type 0)
      (acts : (daemon : Daemon) → OfActs P daemon)
      (refreshes : P Refreshes) (enters : (e : Entry) → StopsNothing e.answer → P (Enters e)) (starts : (daemon : Daemon) → P (Starts daemon)) (kills : (daemon : Daemon) → P (Kills daemon)) where
    one_all : (deed : Deed) (deeds : List Deed) → deeds ≡ deed ∷ [] → P deed → All P deeds
    one_all deed deeds is so = subst (λ (ds : List Deed). All P ds) (sym is) (All-cons P deed [] so (All-nil P))

    part_all : (given : Given) (line : Line) (deeds : List Deed) → IsPartOf quiet MayGoOn given line deeds → All P deeds
    part_all given (Event actor asked seed) deeds is = one_all (Enters (entry_of actor asked is.0)) deeds is.2 (enters (entry_of actor asked is.0) is.1)
    part_all given (Start daemon) deeds is = one_all (Starts daemon) deeds is (starts daemon)
    part_all given (Kill daemon) deeds is = one_all (Kills daemon) deeds is (kills daemon)
    part_all given (Step daemon) deeds is = step_of P daemon (given_of daemon given) (λ runs. acts daemon) deeds is
    part_all given Settle deeds is = settle_all quiet MayGoOn P (λ caller told number served. enters (entry_of (Caller caller) Resume told) served) refreshes acts given deeds is

    pub follows_all : (given : Given) (lines : List Line) (deeds : List Deed) → Follows quiet MayGoOn given lines deeds → All P deeds
    follows_all given [] deeds is = subst (λ (ds : List Deed). All P ds) (sym is) (All-nil P)
    follows_all given (line ∷ lines) deeds is = subst (λ (ds : List Deed). All P ds) (sym is.2) (All-append P is.0 is.1 (part_all given line is.0 is.3) (follows_all (given_behind is.0 given) lines is.1 is.4))

  pub follows_whole : (lines : List Line) (deeds : List Deed) → history.FollowsWhole quiet MayGoOn lines deeds
  follows_whole lines deeds given is = follows_all history.IsWhole (λ daemon asked told fits. (tt, hears_whole asked told fits)) tt (λ e served. served) (λ daemon. tt) (λ daemon. tt) given lines deeds is
