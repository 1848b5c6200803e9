-- Which deeds lead from one situation to another, and what is so behind them.
use Rattle.std.specs.Prelude.{◌≡◌, List, [], ◌++◌, All, Option, None}
use Rattle.hsm_types.specs.declared.daemons.Daemon.{Daemon}
use Rattle.hsm_types.specs.declared.daemons.Daemon.TheVariants.{Recall, Migrate}
use Rattle.plain_model.specs.declared.entries.Entry.{Entry}
use Rattle.deeds.specs.Answers.{AnswersItsAct, AnswersOnce}
use Rattle.deeds.specs.Deeds.{Deed, entries_of, IsRight}
use Rattle.deeds.specs.Lives.{life, Workings, Living, Lives}

-- what deeds change: the history, and each daemon where it runs
pub record Situation (R M : Type 0) : Type 0 where
  pub history : List Entry
  pub recall : Option (Living R)
  pub migrate : Option (Living M)

-- there is no entry, and neither daemon runs
abbrev pub nothing_done : {R M : Type 0} → Situation R M
nothing_done = record { history = []; recall = None; migrate = None }

-- by how both machines work
module _ {R M : Type 0} (recalls : Workings R) (migrates : Workings M) where
  -- The deeds lead from the one to the other: their entries are added, and each daemon lives by its own. Lines name no fault.
  pub record Leads (deeds : List Deed) (old new : Situation R M) : Type 0 where
    pub entries : new.history ≡ old.history ++ entries_of deeds
    pub recall : Lives recalls (life Recall deeds) old.recall new.recall
    pub migrate : Lives migrates (life Migrate deeds) old.migrate new.migrate
    pub right : All IsRight deeds

  -- daemons are served by these deeds, from the first on
  abbrev pub Served : List Deed → Type 0
  Served deeds = (end : Situation R M) × Leads deeds nothing_done end

  -- what deeds lead to, more deeds lead on
  abbrev pub LeadsOn : List Deed → List Deed → Type 0
  LeadsOn deeds more = (a b c : Situation R M) → Leads deeds a b → Leads more b c → Leads (deeds ++ more) a c

  -- behind the first of them there is a situation, from which the others lead
  abbrev pub LeadsThrough : List Deed → List Deed → Type 0
  LeadsThrough first rest = (a c : Situation R M) → Leads (first ++ rest) a c → (b : Situation R M) × Leads first a b × Leads rest b c

  -- where daemons are served each answer is one of an act of its own
  abbrev pub ServedOnce : Daemon → List Deed → Type 0
  ServedOnce daemon deeds = Served deeds → AnswersItsAct (life daemon deeds) × AnswersOnce (life daemon deeds)
