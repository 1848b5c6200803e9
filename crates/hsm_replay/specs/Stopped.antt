-- Which deeds a line did at which a run was stopped: the first of those of such a line, and how they end.
use Rattle.std.specs.Prelude.{◌≡◌, ◌⊎◌, ℕ, ◌<◌, List, [], ◌∷◌, ◌++◌, map, flat_map, All, Bool, true, Option, None, Some}
use Rattle.std.specs.List.Sorted.{IsStrictlySortedBy}
use Rattle.std.specs.Map.{keys_of}
use Rattle.std.specs.Ordering.{nat_cmp}
use Rattle.hsm_types.specs.Callers.{IsCallerNumber}
use Rattle.hsm_types.specs.declared.daemons.Act.{Act}
use Rattle.hsm_types.specs.declared.daemons.Act.TheVariants.{Copy, Dm, Fetch, Idle}
use Rattle.hsm_types.specs.declared.daemons.Daemon.{Daemon}
use Rattle.hsm_types.specs.declared.daemons.Daemon.TheVariants.{Recall, Migrate}
use Rattle.hsm_types.specs.declared.dm.DmCall.{DmCall}
use Rattle.hsm_types.specs.declared.keys.Sid.{Sid}
use Rattle.plain_model.specs.Faults.{fault_of}
use Rattle.plain_model.specs.declared.entries.Action.{Action}
use Rattle.plain_model.specs.declared.entries.Action.TheVariants.{Resume}
use Rattle.plain_model.specs.declared.entries.Actor.{Actor}
use Rattle.plain_model.specs.declared.entries.Actor.TheVariants.{Caller}
use Rattle.plain_model.specs.declared.entries.Answer.{Answer}
use Rattle.plain_model.specs.declared.entries.Entry.{Entry}
use Rattle.script_text.specs.declared.lines.Line.{Line}
use Rattle.script_text.specs.declared.lines.Line.TheVariants.{Event, Start, Kill, Step, Settle}
use Rattle.deeds.specs.Deeds.{entry_of, Deed, Enters, Refreshes, Gives, Breaks, Loses, StopsNothing}
use Rattle.deeds.specs.Given.{Given, given_of, given_behind}
use Rattle.hsm_replay.specs.Parts.{Exchange, done_by, IsWork, IsUpToRest, IsTurn, AreResumes, ResumesInTurn, resume_of, entries_below}
use Rattle.hsm_replay.specs.Parts.{joined, are_quiet, AreBusy, Follows}

-- What a run has come to where it was stopped: to an event whose entry says that the disk failed; to one of which there is no entry, since memory ran out or
-- the store was closed before; or to no event, where a machine, a copy or a fetch lacked memory.
pub data Ending : Type 0 where
  Broken : Ending
  Unmade : Ending
  Lost : Ending

-- ---- one event, and one act

abbrev pub IsEventCut : Actor → Action → Ending → List Deed → Type 0
IsEventCut actor asked Broken deeds = deeds ≡ Enters (entry_of actor asked (fault_of asked)) ∷ []
IsEventCut actor asked Unmade deeds = deeds ≡ []
IsEventCut actor asked Lost deeds = ⊥

abbrev pub IsOnDrive : Act → Type 0
IsOnDrive (Copy volume handle segment bytes) = Unit {0}
IsOnDrive (Fetch entry) = Unit {0}
IsOnDrive asked = ⊥

-- Of a daemon that runs: its call was broken, or wasn't made; or its machine lacked memory, or the copy or the fetch that it gave. A rest is always made.
abbrev pub IsActCut : Daemon → Ending → List Deed → Type 0
IsActCut daemon Broken deeds = (sid : Sid) × (call : DmCall) × (deeds ≡ Gives daemon (Dm sid call) ∷ Breaks daemon sid call ∷ [])
IsActCut daemon Unmade deeds = (sid : Sid) × (call : DmCall) × (deeds ≡ Gives daemon (Dm sid call) ∷ Loses daemon ∷ [])
IsActCut daemon Lost deeds = (deeds ≡ Loses daemon ∷ []) ⊎ ((asked : Act) × IsOnDrive asked × (deeds ≡ Gives daemon asked ∷ Loses daemon ∷ []))

-- a step of one that doesn't run is never stopped
abbrev pub IsStepCutFrom : Daemon → Option Act → Ending → List Deed → Type 0
IsStepCutFrom daemon None ending deeds = ⊥
IsStepCutFrom daemon (Some asked) ending deeds = IsActCut daemon ending deeds

abbrev pub IsStepCut : Daemon → Given → Ending → List Deed → Type 0
IsStepCut daemon given ending deeds = IsStepCutFrom daemon (given_of daemon given) ending deeds

-- ---- turns

-- acts that are no rest, and then one that was stopped
abbrev pub IsWorkCut : Daemon → Ending → List Deed → Type 0
IsWorkCut daemon ending deeds = (work : List Exchange) × (last : List Deed) × All IsWork work × IsActCut daemon ending last × (deeds ≡ flat_map (done_by daemon) work ++ last)

-- what was left of a turn
abbrev pub IsLeftCutFrom : Daemon → Option Act → Ending → List Deed → Type 0
IsLeftCutFrom daemon None ending deeds = ⊥
IsLeftCutFrom daemon (Some Idle) ending deeds = ⊥
IsLeftCutFrom daemon (Some asked) ending deeds = IsWorkCut daemon ending deeds

abbrev pub IsLeftCut : Daemon → Given → Ending → List Deed → Type 0
IsLeftCut daemon given ending deeds = IsLeftCutFrom daemon (given_of daemon given) ending deeds

-- a turn of the daemon, in the one that a step had begun, or behind it
abbrev pub IsTurnCutFrom : Daemon → Option Act → Ending → List Deed → Type 0
IsTurnCutFrom daemon None ending deeds = ⊥
IsTurnCutFrom daemon (Some Idle) ending deeds = IsWorkCut daemon ending deeds
IsTurnCutFrom daemon (Some asked) ending deeds = IsWorkCut daemon ending deeds ⊎ ((begun : List Deed) × (turn : List Deed) × (deeds ≡ begun ++ turn) × IsUpToRest daemon begun × IsWorkCut daemon ending turn)

abbrev pub IsTurnCut : Daemon → Given → Ending → List Deed → Type 0
IsTurnCut daemon given ending deeds = IsTurnCutFrom daemon (given_of daemon given) ending deeds

-- ---- resumes

-- callers resumed in order of number, of those below the last exactly the ones whose access may go on; and the last, whose may too, was stopped
pub record AreResumesCut (MayGoOn : List Entry → ℕ → Type 0) (given : Given) (ending : Ending) (deeds : List Deed) : Type 0 where
  pub told : List (ℕ × Answer)
  pub caller : ℕ
  pub last : List Deed
  pub parted : deeds ≡ map resume_of told ++ last
  pub numbers : All IsCallerNumber (keys_of told ++ caller ∷ [])
  pub ascend : IsStrictlySortedBy nat_cmp (keys_of told ++ caller ∷ [])
  pub ready : (lower : ℕ) → IsCallerNumber lower → lower < caller → ResumesInTurn MayGoOn given.history told lower
  pub may : MayGoOn (given.history ++ entries_below caller told) caller
  pub served : All (λ (x : ℕ × Answer). StopsNothing x.1) told
  pub cut : IsEventCut (Caller caller) Resume ending last

-- Asked of whoever reads: which entries are quiet, and whose access may go on behind entries.
module _ (quiet : Entry → Bool) (MayGoOn : List Entry → ℕ → Type 0) where
  -- ---- settles

  -- recall's turn was stopped, or behind it the resumes, or behind both, where all was quiet, migration's turn
  abbrev pub IsRoundCut : Given → Ending → List Deed → Type 0
  IsRoundCut given ending deeds =
      IsTurnCut Recall given ending deeds
      ⊎ (((recalls resumes : List Deed) × (deeds ≡ recalls ++ resumes) × IsTurn Recall given recalls × AreResumesCut MayGoOn (given_behind recalls given) ending resumes)
      ⊎ ((recalls resumes migrates : List Deed) × (deeds ≡ recalls ++ (resumes ++ migrates)) × IsTurn Recall given recalls × AreResumes MayGoOn (given_behind recalls given) resumes × (are_quiet quiet (recalls ++ resumes) ≡ true) × IsTurnCut Migrate given ending migrates))

  -- rounds that aren't quiet, and then one that was stopped
  pub record IsSettleCut (given : Given) (ending : Ending) (deeds : List Deed) : Type 0 where
    pub rounds : List (List Deed)
    pub last : List Deed
    pub parted : deeds ≡ Refreshes ∷ (joined rounds ++ last)
    pub busy : AreBusy quiet MayGoOn given rounds
    pub cut : IsRoundCut (given_behind (joined rounds) given) ending last

  -- ---- lines

  -- A start and a kill are never stopped.
  abbrev pub IsLineCut : Line → Given → Ending → List Deed → Type 0
  IsLineCut (Event actor asked seed) given ending deeds = IsEventCut actor asked ending deeds
  IsLineCut (Start daemon) given ending deeds = ⊥
  IsLineCut (Kill daemon) given ending deeds = ⊥
  IsLineCut (Step daemon) given ending deeds = IsStepCut daemon given ending deeds
  IsLineCut Settle given ending deeds = IsSettleCut given ending deeds

  -- The deeds are those of the first lines, and of the one behind them, at which the run was stopped.
  pub record StopsIn (given : Given) (lines : List Line) (ending : Ending) (deeds : List Deed) : Type 0 where
    pub whole : List Line
    pub line : Line
    pub left : List Line
    pub done : List Deed
    pub last : List Deed
    pub lines_parted : lines ≡ whole ++ line ∷ left
    pub parted : deeds ≡ done ++ last
    pub follows : Follows quiet MayGoOn given whole done
    pub cut : IsLineCut line (given_behind done given) ending last

  -- What follows lines, and behind it deeds at which a run was stopped in others, are deeds at which it was stopped in them all.
  abbrev pub StopsOn : Given → List Line → List Line → Type 0
  StopsOn given lines more = (ending : Ending) (deeds then : List Deed) → Follows quiet MayGoOn given lines deeds → StopsIn (given_behind deeds given) more ending then → StopsIn given (lines ++ more) ending (deeds ++ then)
