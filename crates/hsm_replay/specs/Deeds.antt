-- What a call on a store with its daemons and its drives does, by its deeds.
use Rattle.std.specs.Prelude.{◌≡◌, ◌⊎◌, ℕ, ◌<◌, List, [], ◌∷◌, ◌++◌, Bool, length, slice_get, All, Result, Ok, Err, MatchResult}
use Rattle.std.specs.Option.{option_map, unwrap_or}
use Rattle.media_model.specs.Objects.{Objects}
use Rattle.media_model.specs.declared.drive.Drive as drive
use Rattle.hsm_types.specs.Callers.{IsCallerNumber}
use Rattle.hsm_types.specs.Stubs.{entry_place}
use Rattle.hsm_types.specs.declared.daemons.Act.{Act}
use Rattle.hsm_types.specs.declared.daemons.Act.TheVariants.{Copy, Fetch}
use Rattle.hsm_types.specs.declared.daemons.Heard.{Heard}
use Rattle.hsm_types.specs.declared.daemons.Heard.TheVariants.{Copied, Fetched}
use Rattle.hsm_types.specs.declared.media.FetchRefusal.TheVariants as fetching
use Rattle.hsm_types.specs.declared.stubs.StubEntry.{StubEntry}
use Rattle.plain_model.specs.declared.entries.Action.TheVariants.{Resume}
use Rattle.plain_model.specs.declared.entries.Actor.TheVariants.{Caller}
use Rattle.plain_model.specs.declared.entries.Answer.{Answer}
use Rattle.plain_model.specs.declared.entries.Entry.{Entry}
use Rattle.hsm_core.specs.Store.{Store}
use Rattle.volume_shelf.specs.Shelf.{Reads, payload_in}
use Rattle.deeds.specs.Deeds.{Deed, Hears, StopsNothing, Loses}
use Rattle.deeds.specs.Faults.{Counts, AddsFaults}
use Rattle.deeds.specs.Given.{Given}
use Rattle.hsm_system.specs.Goes.{Goes, HasClosed, StillWorks, WasClosed}
use Rattle.hsm_system.specs.Running.{Migrating, Recalling}
use Rattle.hsm_system.specs.declared.stops.Stop.{Stop}
use Rattle.hsm_system.specs.declared.stops.Stop.TheVariants as stop
use Rattle.marked_history.specs.Quiet.{is_quiet}
use Rattle.hsm_replay.specs.Acts.{CopiesTo, FetchesFrom, OnDriveOf}
use Rattle.hsm_replay.specs.Drives.{HaveGrown}
use Rattle.hsm_replay.specs.Faults.{IsTrue}
use Rattle.hsm_replay.specs.Filling.{HearsFull}
use Rattle.hsm_replay.specs.Keeping.{Ends, GrowsBy}
use Rattle.hsm_replay.specs.Parts.{IsRound, are_quiet, resume_of}
use Rattle.hsm_replay.specs.Sealed.{Gives, IsStored, IsThere}
use Rattle.hsm_replay.specs.Stopped.{Broken, Ending, IsEventCut, Lost, Unmade}
use Rattle.hsm_replay.specs.Systems.{Run}

-- which act each daemon gave last, and the history
abbrev pub given_now : {D M : Type 0} → Run D M → Given
given_now s = record { recall = option_map (λ (r : Recalling). r.machine.asked) s.system.recall; migrate = option_map (λ (m : Migrating). m.machine.asked) s.system.migrate; history = s.system.store.history }

module _ {M : Type 0} (g : drive.Ghosts M) where
  -- ---- what drives say of what was heard

  -- The volume is there, and where its objects are told, these bytes are the payload of the entry's.
  abbrev pub IsPayload : List M → StubEntry → List ℕ → Type 0
  IsPayload drives entry bytes = IsThere g drives (entry_place entry).volume × ((o : Objects) → Gives g drives (entry_place entry).volume o → ((entry_place entry).object < length o) × (bytes ≡ payload_in (entry_place entry).object o))

  -- What the drives say of the answer, and go on to say: a copy is stored, and one that had no room was to a full volume; fetched bytes are the medium's, and
  -- a fault is one that the drive tells.
  abbrev pub BearOut : List M → Act → Heard → Type 0
  BearOut drives (Copy volume handle segment bytes) (Copied (Ok entry)) = IsStored g drives entry
  BearOut drives (Copy volume handle segment bytes) (Copied (Err refusal)) = HearsFull g drives (Copy volume handle segment bytes) (Copied (Err refusal))
  BearOut drives (Fetch entry) (Fetched (Ok bytes)) = IsPayload drives entry bytes
  BearOut drives (Fetch entry) (Fetched (Err (fetching.Media fault))) = IsTrue g drives fault
  BearOut drives asked told = Unit {0}

  abbrev pub IsSo : List M → Deed → Type 0
  IsSo drives (Hears daemon asked told) = BearOut drives asked told
  IsSo drives deed = Unit {0}

  abbrev pub AreSo : List M → List Deed → Type 0
  AreSo drives deeds = All (IsSo drives) deeds

  -- ---- what deeds do to drives

  -- no volume changes, and no fault is counted
  abbrev pub IsLeft : M → M → Type 0
  IsLeft old new = Reads g old new × (g.fault_count new ≡ g.fault_count old)

  -- A copy or a fetch is made on the drive of its volume, which answers it so, and one that lacked memory leaves that drive. Nothing else changes a drive.
  abbrev pub DriveGoes : Deed → List M → List M → Type 0
  DriveGoes (Hears daemon (Copy volume handle segment bytes) (Copied told)) old new = OnDriveOf volume (CopiesTo g volume handle segment bytes told) old new
  DriveGoes (Hears daemon (Fetch entry) (Fetched told)) old new = OnDriveOf (entry_place entry).volume (FetchesFrom g entry told) old new
  DriveGoes (Loses daemon) old new = (new ≡ old) ⊎ ((volume : ℕ) × OnDriveOf volume IsLeft old new)
  DriveGoes deed old new = new ≡ old

  abbrev pub DrivesGo : List Deed → List M → List M → Type 0
  DrivesGo [] old new = new ≡ old
  DrivesGo (deed ∷ deeds) old new = (mid : List M) × DriveGoes deed old mid × DrivesGo deeds mid new

  -- how many faults each drive has counted, none where there is no such drive
  abbrev pub counts_of : List M → Counts
  counts_of drives number = unwrap_or (option_map g.fault_count (slice_get drives number)) 0

  module _ {D : Type 0} where
    -- ---- deeds that lead on

    -- The deeds lead from the one to the other, and do all that is done to drives. So these are the same, used, and what was heard of them is so behind them.
    -- Failed fetches of one drive are apart, in the order of deeds.
    pub record RunsBy (deeds : List Deed) (old new : Run D M) : Type 0 where
      pub goes : Goes deeds old.system new.system
      pub drives : DrivesGo deeds old.drives new.drives
      pub grown : HaveGrown g old.drives new.drives
      pub so : AreSo new.drives deeds
      pub faults : AddsFaults (length old.drives) deeds (counts_of old.drives) (counts_of new.drives)

    -- ---- what one call does

    -- the store works, and did before; or nothing was done with it
    abbrev pub WorksOn : Store D → Store D → Type 0
    WorksOn old new = (new ≡ old) ⊎ StillWorks old new

    -- It was done: by deeds of that kind, judged by what daemons gave last before it. Their marks tell what the daemons know. No event of it was answered with
    -- a fault of the disk.
    pub record IsDoneBy (IsPart : Given → List Deed → Type 0) (old new : Run D M) : Type 0 where
      pub deeds : List Deed
      pub part : IsPart (given_now old) deeds
      pub runs : RunsBy deeds old new
      pub grows : GrowsBy g deeds old new
      pub works : WorksOn old.system.store new.system.store

    -- Why the run was stopped: the last entry is that of a fault of the disk; or an event was made over a store that was closed before, of which all but the
    -- room in its history is left as it is; or memory ran out, for an event of a store that works on, or for none.
    abbrev pub IsStopOf : Stop → Ending → Store D → Store D → Type 0
    IsStopOf stop.Disk Broken old new = HasClosed old new
    IsStopOf stop.Disk Unmade old new = WasClosed old new
    IsStopOf stop.Memory Broken old new = ⊥
    IsStopOf stop.Disk Lost old new = ⊥
    IsStopOf stop.Memory Unmade old new = StillWorks old new
    IsStopOf stop.Memory Lost old new = WorksOn old new

    -- It was stopped, by the first deeds of that kind.
    pub record IsStoppedBy (IsCut : Given → Ending → List Deed → Type 0) (why : Stop) (old new : Run D M) : Type 0 where
      pub ending : Ending
      pub deeds : List Deed
      pub cut : IsCut (given_now old) ending deeds
      pub runs : RunsBy deeds old new
      pub ends : Ends g deeds old new
      pub stops : IsStopOf why ending old.system.store new.system.store

    -- done or stopped, by its deeds
    abbrev pub ByDeeds : {T : Type 0} → (T → Given → List Deed → Type 0) → (Given → Ending → List Deed → Type 0) → Result T Stop → Run D M → Run D M → Type 0
    ByDeeds IsPart IsCut result old new = MatchResult result (λ given. IsDoneBy (IsPart given) old new) (λ why. IsStoppedBy IsCut why old new)

  -- deeds behind others
  abbrev pub RunsOn : (D : Type 0) → List Deed → List Deed → Type 0
  RunsOn D deeds more = (a b c : Run D M) → RunsBy deeds a b → RunsBy more b c → RunsBy (deeds ++ more) a c

-- ---- the parts of a settle, each a call of its own

-- the caller resumes, exactly where its access may go on
abbrev pub MayResumeBy : (List Entry → ℕ → Type 0) → ℕ → Given → List Deed → Type 0
MayResumeBy MayGoOn caller given deeds =
    (MayGoOn given.history caller → ⊥) × (deeds ≡ [])
    ⊎ MayGoOn given.history caller × ((told : Answer) × IsCallerNumber caller × StopsNothing told × (deeds ≡ resume_of (caller, told) ∷ []))

abbrev pub IsResumeCut : (List Entry → ℕ → Type 0) → ℕ → Given → Ending → List Deed → Type 0
IsResumeCut MayGoOn caller given ending deeds = IsCallerNumber caller × MayGoOn given.history caller × IsEventCut (Caller caller) Resume ending deeds

-- a round, and whether all its entries are quiet
abbrev pub IsRoundOf : (List Entry → ℕ → Type 0) → Bool → Given → List Deed → Type 0
IsRoundOf MayGoOn quiet given deeds = IsRound is_quiet MayGoOn given deeds × (are_quiet is_quiet deeds ≡ quiet)
