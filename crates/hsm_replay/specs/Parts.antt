-- Which deeds belong to which line of a script.
use Rattle.std.specs.Prelude.{◌≡◌, ◌≢◌, ◌↔◌, ℕ, nat_lt, List, [], ◌∷◌, ◌++◌, map, flat_map, filter, All, Contains}
use Rattle.std.specs.Prelude.{Bool, true, false, Option, None, Some, is_some}
use Rattle.std.specs.List.{list_all}
use Rattle.std.specs.List.Sorted.{IsStrictlySortedBy}
use Rattle.std.specs.Map.{keys_of}
use Rattle.std.specs.Ordering.{nat_cmp}
use Rattle.hsm_types.specs.Callers.{IsCallerNumber}
use Rattle.hsm_types.specs.declared.daemons.Act.{Act}
use Rattle.hsm_types.specs.declared.daemons.Act.TheVariants.{Idle}
use Rattle.hsm_types.specs.declared.daemons.Daemon.{Daemon}
use Rattle.hsm_types.specs.declared.daemons.Daemon.TheVariants.{Recall, Migrate}
use Rattle.hsm_types.specs.declared.daemons.Heard.{Heard}
use Rattle.hsm_types.specs.declared.daemons.Heard.TheVariants.{Nothing}
use Rattle.plain_model.specs.declared.entries.Action.TheVariants.{Resume}
use Rattle.plain_model.specs.declared.entries.Actor.TheVariants.{Caller}
use Rattle.plain_model.specs.declared.entries.Answer.{Answer}
use Rattle.plain_model.specs.declared.entries.Entry.{Entry}
use Rattle.script_text.specs.declared.lines.Line.{Line}
use Rattle.script_text.specs.declared.lines.Line.TheVariants.{Event, Start, Kill, Step, Settle}
use Rattle.deeds.specs.Deeds.{entry_of, Deed, Enters, Starts, Kills, Refreshes, Gives, Hears, entries_of, Fits, StopsNothing}
use Rattle.deeds.specs.Given.{Given, given_of, given_behind}

-- ---- acts

-- an act, and what is heard of it
pub record Exchange : Type 0 where
  pub asked : Act
  pub told : Heard

abbrev pub resting : Exchange
resting = record { asked = Idle; told = Nothing }

abbrev pub done_by : Daemon → Exchange → List Deed
done_by daemon x = Gives daemon x.asked ∷ Hears daemon x.asked x.told ∷ []

-- one act where the daemon runs, by what it gave last, and nothing where it doesn't
abbrev pub IsStepFrom : Daemon → Option Act → List Deed → Type 0
IsStepFrom daemon None deeds = deeds ≡ []
IsStepFrom daemon (Some asked) deeds = (x : Exchange) × Fits x.asked x.told × (deeds ≡ done_by daemon x)

abbrev pub IsStep : Daemon → Given → List Deed → Type 0
IsStep daemon given deeds = IsStepFrom daemon (given_of daemon given) deeds

-- ---- turns

-- it is no rest
abbrev pub IsWork : Exchange → Type 0
IsWork x = (x.asked ≢ Idle) × Fits x.asked x.told

-- acts of the daemon up to its first rest
abbrev pub IsUpToRest : Daemon → List Deed → Type 0
IsUpToRest daemon deeds = (work : List Exchange) × All IsWork work × (deeds ≡ flat_map (done_by daemon) work ++ done_by daemon resting)

-- what is left of a turn, by what the daemon gave last: nothing where it rests, or doesn't run
abbrev pub IsLeftFrom : Daemon → Option Act → List Deed → Type 0
IsLeftFrom daemon None deeds = deeds ≡ []
IsLeftFrom daemon (Some Idle) deeds = deeds ≡ []
IsLeftFrom daemon (Some asked) deeds = IsUpToRest daemon deeds

abbrev pub IsLeft : Daemon → Given → List Deed → Type 0
IsLeft daemon given deeds = IsLeftFrom daemon (given_of daemon given) deeds

-- A daemon's turn, by what it gave last. Where that is no rest, a step has begun a turn, which ends first. One that doesn't run has no turn.
abbrev pub IsTurnFrom : Daemon → Option Act → List Deed → Type 0
IsTurnFrom daemon None deeds = deeds ≡ []
IsTurnFrom daemon (Some Idle) deeds = IsUpToRest daemon deeds
IsTurnFrom daemon (Some asked) deeds = (begun : List Deed) × (turn : List Deed) × (deeds ≡ begun ++ turn) × IsUpToRest daemon begun × IsUpToRest daemon turn

abbrev pub IsTurn : Daemon → Given → List Deed → Type 0
IsTurn daemon given deeds = IsTurnFrom daemon (given_of daemon given) deeds

-- it has its turn, or it hasn't
abbrev pub IsTurnIf : Bool → Daemon → Given → List Deed → Type 0
IsTurnIf true daemon given deeds = IsTurn daemon given deeds
IsTurnIf false daemon given deeds = deeds ≡ []

-- ---- resumes

-- the caller of that number was told so
abbrev pub resume_of : ℕ × Answer → Deed
resume_of x = Enters (entry_of (Caller x.0) Resume x.1)

-- the entries of the callers with lower numbers
abbrev pub entries_below : ℕ → List (ℕ × Answer) → List Entry
entries_below caller told = entries_of (map resume_of (filter (λ (x : ℕ × Answer). nat_lt x.0 caller) told))

-- The caller resumes exactly where its access may go on when its turn comes: behind the history, and those of the callers with lower numbers.
abbrev pub ResumesInTurn : (List Entry → ℕ → Type 0) → List Entry → List (ℕ × Answer) → ℕ → Type 0
ResumesInTurn MayGoOn history told caller = Contains (keys_of told) caller ↔ MayGoOn (history ++ entries_below caller told) caller

-- Callers resume in order of number, each once: exactly those whose access may go on when their turn comes.
pub record AreResumes (MayGoOn : List Entry → ℕ → Type 0) (given : Given) (deeds : List Deed) : Type 0 where
  pub told : List (ℕ × Answer)
  pub parted : deeds ≡ map resume_of told
  pub numbers : All IsCallerNumber (keys_of told)
  pub ascend : IsStrictlySortedBy nat_cmp (keys_of told)
  pub ready : (caller : ℕ) → IsCallerNumber caller → ResumesInTurn MayGoOn given.history told caller
  pub served : All (λ (x : ℕ × Answer). StopsNothing x.1) told

abbrev pub joined : List (List Deed) → List Deed
joined parts = flat_map (λ (part : List Deed). part) parts

-- ---- which daemons run

-- whether the daemon runs behind the line, by whether it did before
abbrev pub runs_by : Daemon → Line → Bool → Bool
runs_by Recall (Start Recall) runs = true
runs_by Recall (Kill Recall) runs = false
runs_by Migrate (Start Migrate) runs = true
runs_by Migrate (Kill Migrate) runs = false
runs_by daemon line runs = runs

abbrev pub runs_behind : Daemon → List Line → Bool → Bool
runs_behind daemon [] runs = runs
runs_behind daemon (line ∷ lines) runs = runs_behind daemon lines (runs_by daemon line runs)

-- ---- settles

abbrev pub are_quiet : (Entry → Bool) → List Deed → Bool
are_quiet quiet deeds = list_all quiet (entries_of deeds)

-- Asked of whoever reads: which entries are quiet, so that a settle may end behind them, and whose access may go on behind entries.
module _ (quiet : Entry → Bool) (MayGoOn : List Entry → ℕ → Type 0) where
  -- Recall has its turn, then callers resume, and where all that was quiet migration has its turn. So each daemon is judged by what it gave last before the
  -- round.
  pub record IsRound (given : Given) (deeds : List Deed) : Type 0 where
    pub recalls : List Deed
    pub resumes : List Deed
    pub migrates : List Deed
    pub parted : deeds ≡ recalls ++ (resumes ++ migrates)
    pub recall_turn : IsTurn Recall given recalls
    pub resumed : AreResumes MayGoOn (given_behind recalls given) resumes
    pub migrate_turn : IsTurnIf (are_quiet quiet (recalls ++ resumes)) Migrate given migrates

  -- rounds that aren't quiet, each behind those before it
  abbrev pub AreBusy : Given → List (List Deed) → Type 0
  AreBusy given [] = Unit {0}
  AreBusy given (round ∷ rounds) = IsRound given round × (are_quiet quiet round ≡ false) × AreBusy (given_behind round given) rounds

  -- Migration may begin one pass by `high`, then there are rounds, of which the first that is quiet is the last.
  pub record IsSettle (given : Given) (deeds : List Deed) : Type 0 where
    pub rounds : List (List Deed)
    pub last : List Deed
    pub parted : deeds ≡ Refreshes ∷ (joined rounds ++ last)
    pub busy : AreBusy given rounds
    pub round : IsRound (given_behind (joined rounds) given) last
    pub ends : are_quiet quiet last ≡ true

  -- ---- lines

  -- the deeds are those of the line, by what daemons gave last before it
  abbrev pub IsPartOf : Given → Line → List Deed → Type 0
  IsPartOf given (Event actor asked seed) deeds = (told : Answer) × StopsNothing told × (deeds ≡ Enters (entry_of actor asked told) ∷ [])
  IsPartOf given (Start daemon) deeds = deeds ≡ Starts daemon ∷ []
  IsPartOf given (Kill daemon) deeds = deeds ≡ Kills daemon ∷ []
  IsPartOf given (Step daemon) deeds = IsStep daemon given deeds
  IsPartOf given Settle deeds = IsSettle given deeds

  abbrev pub IsLinePart : Line → Given → List Deed → Type 0
  IsLinePart line given deeds = IsPartOf given line deeds

  -- The deeds fall into parts, one for each line, in order.
  abbrev pub Follows : Given → List Line → List Deed → Type 0
  Follows given [] deeds = deeds ≡ []
  Follows given (line ∷ lines) deeds = (part : List Deed) × (rest : List Deed) × (deeds ≡ part ++ rest) × IsPartOf given line part × Follows (given_behind part given) lines rest

  -- ---- the laws

  -- what follows lines, and behind it other lines, follows them all
  abbrev pub FollowsOn : Given → List Line → List Line → Type 0
  FollowsOn given lines more = (deeds then : List Deed) → Follows given lines deeds → Follows (given_behind deeds given) more then → Follows given (lines ++ more) (deeds ++ then)

  -- Behind deeds that follow lines it is told by the lines alone whether a daemon runs.
  abbrev pub RunsByLines : Daemon → List Line → Type 0
  RunsByLines daemon lines = (given : Given) (deeds : List Deed) → Follows given lines deeds → is_some (given_of daemon (given_behind deeds given)) ≡ runs_behind daemon lines (is_some (given_of daemon given))
