-- What a run has done, by its deeds: which lines they are those of, how daemons lived by them, and what they did to drives.
use Rattle.std.specs.Prelude.{◌≡◌, ◌⊎◌, ℕ, List, [], length, Bool, true, false, Option, None, Some, IfSome}
use Rattle.media_model.specs.Memory.{Held}
use Rattle.media_model.specs.Objects.{Objects}
use Rattle.media_model.specs.contracts.sure.SureDriveDrive.TheImpl as sure
use Rattle.media_model.specs.declared.drive.Drive as drive
use Rattle.plain_model.specs.declared.entries.Entry.{Entry}
use Rattle.plain_model.specs.State.{just_opened}
use Rattle.hsm_policy.specs.Settings.{Numbers, standard}
use Rattle.script_text.specs.Scripts.{IsScript}
use Rattle.script_text.specs.declared.lines.Line.{Line}
use Rattle.drill_script.specs.Drill.{drill_lines}
use Rattle.command_words.specs.Commands.{Form, Format, Replay, ReplayStore, Show, ShowVolumes, Drill}
use Rattle.file_store.specs.Stores.{Store}
use Rattle.deeds.specs.Deeds.{Deed, entries_of}
use Rattle.deeds.specs.Faults.{AreApart, faults_heard}
use Rattle.deeds.specs.Given.{Given, none_given}
use Rattle.deeds.specs.Leads.{Served}
use Rattle.hosts.specs.Hosts.{AreHanded}
use Rattle.hsm_system.specs.Lives.{migrates, recalls}
use Rattle.marked_history.specs.Marks.{Mark}
use Rattle.marked_history.specs.Quiet.{is_quiet}
use Rattle.marked_history.specs.Served as marked
use Rattle.hsm_replay.specs.Marking.{marks_of}
use Rattle.hsm_replay.specs.Sealed.{Tallies}
use Rattle.hsm_replay.specs.Deeds.{AreSo, DrivesGo, counts_of}
use Rattle.hsm_replay.specs.ReadyCallers.{MayGoOnBehind}
use Rattle.hsm_replay.specs.Parts.{Follows}
use Rattle.hsm_replay.specs.Stopped.{Broken, Ending, StopsIn}
use Rattle.hsm_cli.specs.declared.causes.Cause.{Cause}
use Rattle.hsm_cli.specs.declared.causes.Cause.TheVariants.{DiskFault, NoMemory, WriteFault}
use Rattle.hsm_cli.specs.declared.outcomes.Outcome.{Outcome}
use Rattle.hsm_cli.specs.Daemons.{IsWellServedOver}
use Rattle.hsm_cli.specs.Follows.{lines_run, SettlesOn}
use Rattle.hsm_cli.specs.Sealing.{LosesNothing}
use Rattle.hsm_cli.specs.Openings.{base_of, held_at, opened_in, superblock_at}
use Rattle.hsm_cli.specs.Sources.{script_bytes}
use Rattle.hsm_cli.specs.RunObjects.{SourceTold}

-- ---- lines

-- which callers' accesses may go on behind which entries, on the store that was opened
abbrev pub MayGoOnOver : {D : Type 0} → Option (Store D) → List Entry → ℕ → Type 0
MayGoOnOver opened = MayGoOnBehind (superblock_at opened) (just_opened (base_of opened) (held_at opened))

-- Where that is known of entries and callers, and what settles of lines have come to, by the marks of their deeds.
module _ (MayGoOn : List Entry → ℕ → Type 0) (Settles : List Line → List Mark → Type 0) where
  -- the deeds are those of all lines, by what daemons gave last before them, and each settle has come to its end
  abbrev pub AreOfLines : List Line → Given → List Deed → Type 0
  AreOfLines lines given deeds = Follows is_quiet MayGoOn given lines deeds × Settles lines (marks_of deeds)

  -- they are those of the first lines, up to the one at which the run was stopped so
  abbrev pub AreCutIn : List Line → Given → Ending → List Deed → Type 0
  AreCutIn lines given ending deeds = (cut : StopsIn is_quiet MayGoOn given lines ending deeds) × Settles cut.whole (marks_of cut.done)

  -- of the lines of a run
  module _ (AreTheLines : List Line → Type 0) where
    abbrev pub AreAll : List Deed → Type 0
    AreAll deeds = (lines : List Line) × AreTheLines lines × AreOfLines lines none_given deeds

    abbrev pub AreFirst : Ending → List Deed → Type 0
    AreFirst ending deeds = (lines : List Line) × AreTheLines lines × AreCutIn lines none_given ending deeds

    -- The deeds of a run by what went wrong first: those of all its lines; those of the first ones, up to an event that the disk failed; or, where memory was
    -- wanting, any first ones. Else nothing was done.
    abbrev pub AreDone : Option Cause → List Deed → Type 0
    AreDone None deeds = AreAll deeds
    AreDone (Some WriteFault) deeds = AreAll deeds
    AreDone (Some DiskFault) deeds = (deeds ≡ []) ⊎ AreFirst Broken deeds
    AreDone (Some NoMemory) deeds = (deeds ≡ []) ⊎ (AreAll deeds ⊎ ((ending : Ending) × AreFirst ending deeds))
    AreDone (Some why) deeds = deeds ≡ []

-- The lines are those of a script, and of a commit behind them where that is wanted. The script is the one that the source gives, where that tells its bytes.
abbrev pub AreOfScript : Bool → Option (List ℕ) → List Line → Type 0
AreOfScript commits given lines = (script : List Line) × IfSome given (λ bytes. IsScript (script_bytes bytes) script) × (lines ≡ lines_run commits script)

-- they are just these
abbrev pub AreThese : List Line → List Line → Type 0
AreThese script lines = lines ≡ script

-- ---- drives

module _ {M : Type 0} (g : drive.Ghosts M) where
  -- The deeds did all that was done to the drives: so each copy and each fetch was made once and answered so, and nothing else was put on a drive or failed.
  -- What was told of the drives is so, failed fetches of one drive are apart, and what was sealed and aborted tallies with the drives.
  pub record HaveGone (limits : Numbers) (handed : List M) (deeds : List Deed) (drives : List M) : Type 0 where
    pub went : DrivesGo g deeds handed drives
    pub so : AreSo g drives deeds
    pub apart : AreApart (length handed) (counts_of g drives) (faults_heard deeds)
    pub tallies : Tallies g handed drives limits (marks_of deeds)

  -- since they were handed out over these volumes, as the settings have them
  abbrev pub HaveGoneSince : Numbers → (ℕ → Objects → Type 0) → List Deed → List M → Type 0
  HaveGoneSince limits stored deeds drives = (handed : List M) × AreHanded g stored limits.drives limits.volumes limits.capacity handed × HaveGone limits handed deeds drives

-- so they went; where none came nothing was done
abbrev pub DrivesWent : {M : Type 0} → drive.Ghosts M → Numbers → (ℕ → Objects → Type 0) → List M → List Deed → Type 0
DrivesWent g limits stored drives deeds = (drives ≡ []) × (deeds ≡ []) ⊎ HaveGoneSince g limits stored deeds drives

-- a volume without objects
abbrev pub without_objects : ℕ → Objects → Type 0
without_objects volume objects = objects ≡ []

-- Nobody sees drives in memory: there are such that began with empty volumes and never fail, and on them the deeds did all that was done. So nothing that was
-- sealed is lost.
abbrev pub DrivesInMemory : Numbers → List Deed → Type 0
DrivesInMemory limits deeds = ((deeds ≡ []) ⊎ ((drives : List Held) × HaveGoneSince sure.ghosts limits without_objects deeds drives)) × LosesNothing (marks_of deeds)

-- ---- a run

-- Some deeds made the history, and served by these settings, and each call of a daemon is one that it may make, by what the entries before have told it. They
-- follow lines so, and this is so of them too.
pub record HasDone (limits : Numbers) (FollowsSo TheyAre : List Deed → Type 0) (history : List Entry) : Type 0 where
  pub deeds : List Deed
  pub entries : entries_of deeds ≡ history
  pub served : Served recalls (migrates limits) deeds
  pub marked : marked.Served limits (marks_of deeds)
  pub follows : FollowsSo deeds
  pub so : TheyAre deeds

-- ---- the deeds clause

-- A run of such lines, by these settings, on the store that was opened: it is well served, and so its deeds went on drives.
abbrev pub RunHasDone : {D M : Type 0} → Numbers → (List Line → Type 0) → (List Deed → Type 0) → Outcome D M → Type 0
RunHasDone limits AreTheLines GoSo o = HasDone limits (AreDone (MayGoOnOver (opened_in o)) (SettlesOn (opened_in o)) AreTheLines o.cause) (λ deeds. IsWellServedOver (opened_in o) deeds × GoSo deeds) o.history

-- What each form that runs lines has done, by the default settings: the forms of `replay` run a script, of which `replay PATH DIR` ends with a commit, and
-- `drill` the one that it makes of its number. The others run nothing.
abbrev pub DeedsClause : {D M : Type 0} → drive.Ghosts M → (List ℕ → ℕ → Objects → Type 0) → Option Form → SourceTold → Outcome D M → Type 0
DeedsClause g stores (Some Replay) source o = RunHasDone standard (AreOfScript false source.given) (DrivesInMemory standard) o
DeedsClause g stores (Some (ReplayStore path dir)) source o = RunHasDone standard (AreOfScript true source.given) (DrivesWent g standard (stores dir) o.drives) o
DeedsClause g stores (Some (Drill number)) source o = RunHasDone standard (AreThese (drill_lines number)) (DrivesInMemory standard) o
DeedsClause g stores (Some (Format path size)) source o = o.history ≡ []
DeedsClause g stores (Some (Show path)) source o = o.history ≡ []
DeedsClause g stores (Some (ShowVolumes path dir)) source o = o.history ≡ []
DeedsClause g stores None source o = o.history ≡ []
