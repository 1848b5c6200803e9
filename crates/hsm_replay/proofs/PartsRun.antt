-- Which daemons run behind deeds that follow lines: starts and kills alone change it.
use Rattle.std.proofs.Common.{◌≡◌, ◌∙◌, ℕ, ◌∷◌, [], Bool, List, Option, Some, None, is_some, option_map, refl, sym, ap}
use Rattle.std.specs.Prelude.{All}
use Rattle.std.proofs.lemmas.List.Elements.{All-head, All-tail}
use Rattle.hsm_types.specs.Callers.{IsCallerNumber}
use Rattle.hsm_types.specs.declared.daemons.Act.{Act}
use Rattle.hsm_types.specs.declared.daemons.Daemon.{Daemon}
use Rattle.hsm_types.specs.declared.daemons.Daemon.TheVariants.{Recall, Migrate}
use Rattle.hsm_types.specs.declared.daemons.Heard.{Heard}
use Rattle.plain_model.specs.declared.entries.Action.{Action}
use Rattle.plain_model.specs.declared.entries.Action.TheVariants.{Resume}
use Rattle.plain_model.specs.declared.entries.Actor.{Actor}
use Rattle.plain_model.specs.declared.entries.Actor.TheVariants.{Caller}
use Rattle.plain_model.specs.declared.entries.Answer.{Answer}
use Rattle.plain_model.specs.declared.entries.Entry.{Entry}
use Rattle.script_text.specs.declared.lines.Line.{Line}
use Rattle.script_text.specs.declared.lines.Line.TheVariants.{Event, Start, Kill, Step, Settle}
use Rattle.deeds.specs.Deeds.{entry_of, Deed, Enters, Starts, Kills, Refreshes, Gives, Hears, StopsNothing}
use Rattle.deeds.specs.Given.{Given, given_of, asked_behind, given_behind}
use Rattle.deeds.specs.Lives.{life}
use Rattle.hsm_replay.specs.Parts.{resume_of, runs_by, runs_behind, IsRound, IsPartOf, RunsByLines}
use Rattle.hsm_replay.proofs.PartsDone.{OfActs, step_of, round_of, settle_all}
use Rattle.deeds.proofs.Giving.{own_then, given_none, given_then}

-- behind these deeds the daemon runs
abbrev runs_after : Daemon → List Deed → Option Act → Bool
runs_after daemon deeds asked = is_some (asked_behind (life daemon deeds) asked)

-- the deed leaves it as it was
abbrev IsSteady : Daemon → Deed → Type 0
IsSteady daemon deed = (asked : Option Act) → runs_after daemon (deed ∷ []) asked ≡ is_some asked

still_some : (act : Act) (asked : Option Act) → is_some (option_map (λ (last : Act). act) asked) ≡ is_some asked
still_some act None = refl
still_some act (Some last) = refl

gives_steady : (daemon by : Daemon) (act : Act) → IsSteady daemon (Gives by act)
gives_steady Recall Recall act asked = still_some act asked
gives_steady Recall Migrate act asked = refl
gives_steady Migrate Recall act asked = refl
gives_steady Migrate Migrate act asked = still_some act asked

hears_steady : (daemon by : Daemon) (act : Act) (told : Heard) → IsSteady daemon (Hears by act told)
hears_steady Recall Recall act told asked = refl
hears_steady Recall Migrate act told asked = refl
hears_steady Migrate Recall act told asked = refl
hears_steady Migrate Migrate act told asked = refl

refreshes_steady : (daemon : Daemon) → IsSteady daemon Refreshes
refreshes_steady Recall asked = refl
refreshes_steady Migrate asked = refl

enters_steady : (daemon : Daemon) (e : Entry) → IsSteady daemon (Enters e)
enters_steady Recall e asked = refl
enters_steady Migrate e asked = refl

all_steady : (daemon : Daemon) (deeds : List Deed) → All (IsSteady daemon) deeds → (asked : Option Act) → runs_after daemon deeds asked ≡ is_some asked
all_steady daemon [] all asked = refl
all_steady daemon (deed ∷ deeds) all asked = ap (λ (a : Option Act). is_some a) (own_then daemon (deed ∷ []) deeds asked)
    ∙ all_steady daemon deeds (All-tail (IsSteady daemon) deed deeds all) (asked_behind (life daemon (deed ∷ [])) asked)
    ∙ All-head (IsSteady daemon) deed deeds all asked

-- ---- lines

starts_so : (daemon started : Daemon) (asked : Option Act) → runs_after daemon (Starts started ∷ []) asked ≡ runs_by daemon (Start started) (is_some asked)
starts_so Recall Recall None = refl
starts_so Recall Recall (Some act) = refl
starts_so Recall Migrate asked = refl
starts_so Migrate Recall asked = refl
starts_so Migrate Migrate None = refl
starts_so Migrate Migrate (Some act) = refl

kills_so : (daemon killed : Daemon) (asked : Option Act) → runs_after daemon (Kills killed ∷ []) asked ≡ runs_by daemon (Kill killed) (is_some asked)
kills_so Recall Recall asked = refl
kills_so Recall Migrate asked = refl
kills_so Migrate Recall asked = refl
kills_so Migrate Migrate asked = refl

event_so : (daemon : Daemon) (actor : Actor) (asked : Action) (seed : Option ℕ) (runs : Bool) → runs_by daemon (Event actor asked seed) runs ≡ runs
event_so Recall actor asked seed runs = refl
event_so Migrate actor asked seed runs = refl

step_so : (daemon by : Daemon) (runs : Bool) → runs_by daemon (Step by) runs ≡ runs
step_so Recall by runs = refl
step_so Migrate by runs = refl

settle_so : (daemon : Daemon) (runs : Bool) → runs_by daemon Settle runs ≡ runs
settle_so Recall runs = refl
settle_so Migrate runs = refl

pub given_so : (daemon : Daemon) (deeds : List Deed) (given : Given) → given_of daemon (given_behind deeds given) ≡ asked_behind (life daemon deeds) (given_of daemon given)
given_so Recall deeds given = refl
given_so Migrate deeds given = refl

module _ (quiet : Entry → Bool) (MayGoOn : List Entry → ℕ → Type 0) (daemon : Daemon) where
  acts_steady : (by : Daemon) → OfActs (IsSteady daemon) by
  acts_steady by act told fits = (gives_steady daemon by act, hears_steady daemon by act told)

  resumes_steady : (caller : ℕ) (told : Answer) → IsCallerNumber caller → StopsNothing told → IsSteady daemon (resume_of (caller, told))
  resumes_steady caller told number served = enters_steady daemon (entry_of (Caller caller) Resume told)

  -- a round leaves all daemons as they were
  pub round_steady : (given : Given) (round : List Deed) → IsRound quiet MayGoOn given round → is_some (given_of daemon (given_behind round given)) ≡ is_some (given_of daemon given)
  round_steady given round is =
      ap (λ (last : Option Act). is_some last) (given_so daemon round given) ∙ all_steady daemon round (round_of quiet MayGoOn (IsSteady daemon) resumes_steady given (λ by runs. acts_steady by) round is) (given_of daemon given)

  part_so : (given : Given) (line : Line) (deeds : List Deed) → IsPartOf quiet MayGoOn given line deeds → (last : Option Act) → runs_after daemon deeds last ≡ runs_by daemon line (is_some last)
  part_so given (Event actor asked seed) deeds is last =
      ap (λ (ds : List Deed). runs_after daemon ds last) is.2 ∙ enters_steady daemon (entry_of actor asked is.0) last ∙ sym (event_so daemon actor asked seed (is_some last))
  part_so given (Start started) deeds is last = ap (λ (ds : List Deed). runs_after daemon ds last) is ∙ starts_so daemon started last
  part_so given (Kill killed) deeds is last = ap (λ (ds : List Deed). runs_after daemon ds last) is ∙ kills_so daemon killed last
  part_so given (Step by) deeds is last =
      all_steady daemon deeds (step_of (IsSteady daemon) by (given_of by given) (λ runs. acts_steady by) deeds is) last ∙ sym (step_so daemon by (is_some last))
  part_so given Settle deeds is last =
      all_steady daemon deeds (settle_all quiet MayGoOn (IsSteady daemon) resumes_steady (refreshes_steady daemon) acts_steady given deeds is) last ∙ sym (settle_so daemon (is_some last))

  pub runs_by_lines : (lines : List Line) → RunsByLines quiet MayGoOn daemon lines
  runs_by_lines [] given deeds is = ap (λ (ds : List Deed). is_some (given_of daemon (given_behind ds given))) is ∙ ap (λ (g : Given). is_some (given_of daemon g)) (given_none given)
  runs_by_lines (line ∷ lines) given deeds is =
      ap (λ (ds : List Deed). is_some (given_of daemon (given_behind ds given))) is.2
      ∙ ap (λ (g : Given). is_some (given_of daemon g)) (given_then is.0 is.1 given)
      ∙ runs_by_lines lines (given_behind is.0 given) is.1 is.4
      ∙ ap (λ (last : Option Act). runs_behind daemon lines (is_some last)) (given_so daemon is.0 given)
      ∙ ap (λ (runs : Bool). runs_behind daemon lines runs) (part_so given line is.0 is.3 (given_of daemon given))
