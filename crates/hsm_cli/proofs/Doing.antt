-- What lines do by their deeds, and what a run has done.
use Rattle.std.proofs.Common.{◌≡◌, ◌≢◌, ◌∙◌, inl, inr, ℕ, List, [], ◌∷◌, ◌++◌, Bool, true, false, Option, None, Some, is_some, Result, Ok, Err, IfErr, length}
use Rattle.std.proofs.Common.{refl, sym, ap, subst, arith, append-nil, append_assoc}
use Rattle.std.proofs.lemmas.List.Elements.{All-nil}
use Rattle.media_model.specs.declared.drive.Drive as drive
use Rattle.plain_model.specs.declared.entries.Entry.{Entry}
use Rattle.hsm_policy.specs.Settings.{Numbers, standard}
use Rattle.script_text.specs.declared.lines.Line.{Line}
use Rattle.file_store.specs.Stores.{Store as FileStore, superblock_of}
use Rattle.hsm_core.specs.Store.{Store}
use Rattle.deeds.specs.Deeds.{Deed, entries_of, IsRight}
use Rattle.deeds.specs.Faults.{IsOver}
use Rattle.deeds.specs.Given.{Given, given_of, none_given}
use Rattle.deeds.specs.Leads.{Leads, Served, Situation, nothing_done}
use Rattle.deeds.proofs.Faulting.{faults_apart}
use Rattle.recall_daemon.specs.Machine as recall
use Rattle.migrate_daemon.specs.Machine as migrate
use Rattle.hsm_system.specs.Goes.{situation_of}
use Rattle.hsm_system.specs.Lives.{migrates, recalls}
use Rattle.hsm_system.specs.declared.stops.Stop.{Stop}
use Rattle.hsm_system.specs.declared.stops.Stop.TheVariants as stop
use Rattle.marked_history.specs.Marks.{Mark}
use Rattle.marked_history.specs.Quiet.{is_quiet}
use Rattle.marked_history.specs.Served as marked
use Rattle.marked_history.specs.Settling.{EachSettles, LeavesSettled, none_run, running_behind, running_by}
use Rattle.hsm_replay.specs.Deeds.{ByDeeds, IsDoneBy, IsSo, IsStopOf, IsStoppedBy, RunsBy, counts_of, given_now}
use Rattle.hsm_replay.specs.ReadyCallers.{MayGoOn, may_go_on_by}
use Rattle.hsm_replay.specs.Keeping.{IsMarked, Shows}
use Rattle.hsm_replay.specs.Marking.{marks_of}
use Rattle.hsm_replay.specs.Parts.{Follows, IsLinePart}
use Rattle.hsm_replay.specs.Resting.{IsLeftBy, LeadsTo, first_of as first_state}
use Rattle.hsm_replay.specs.Sealed.{Tallies}
use Rattle.hsm_replay.specs.Running.{commit_line}
use Rattle.hsm_replay.specs.Stopped.{Broken, Ending, IsLineCut, Lost, Unmade}
use Rattle.hsm_replay.specs.Systems.{Run, running}
use Rattle.hsm_replay.proofs.Deeds.{done_none, done_so, done_then, stopped_as, stopped_then}
use Rattle.hsm_replay.proofs.PartsDone.{follows_on}
use Rattle.marked_history.specs.Waiting.{runs as runs_in}
use Rattle.hsm_cli.specs.declared.causes.Cause.{Cause}
use Rattle.hsm_cli.specs.declared.causes.Cause.TheVariants.{ScriptRefused, WordsRefused, NotStore, Corrupt, ReadFault, WriteFault, DiskFault}
use Rattle.hsm_cli.specs.declared.causes.Cause.TheVariants.{HostFault, NoMemory}
use Rattle.hsm_cli.specs.Daemons.{IsWellServedOver, ServedIsWell}
use Rattle.hsm_cli.specs.Deeds.{AreCutIn, AreDone, AreFirst, AreOfLines, HasDone, HaveGone, MayGoOnOver}
use Rattle.hsm_cli.specs.Endings.{WritingEnds, cause_in, first_of}
use Rattle.hsm_cli.specs.Follows.{lines_run, SettlesOn, SettlesSince}
use Rattle.hsm_cli.proofs.Following.{has_given, left_since, settles_more, shown_none, tallies_none}
use Rattle.hsm_cli.specs.Runs.{IsReady}
use Rattle.hsm_cli.specs.RunObjects.{SinkTold}

-- ---- lines

-- whoever may go on behind which entries is the same on each store that was opened as this one and works
pub may_same : {D : Type 0} (a b : Store D) → a.files.failed ≡ false → b.files.failed ≡ false → b.opened ≡ a.opened → MayGoOn b ≡ MayGoOn a
may_same {D = D} a b works still opened =
    ap (λ (failed : Bool). may_go_on_by failed b.tables b.opened) still ∙ ap (λ (o : FileStore D). may_go_on_by false b.tables o) opened ∙ sym (ap (λ (failed : Bool). may_go_on_by failed a.tables a.opened) works)

may_over : {D : Type 0} (s : Store D) → s.files.failed ≡ false → MayGoOn s ≡ MayGoOnOver (Some s.opened)
may_over s works = ap (λ (failed : Bool). may_go_on_by failed s.tables s.opened) works

-- the deeds are those of the lines
abbrev OfLines : (List Entry → ℕ → Type 0) → List Line → Given → List Deed → Type 0
OfLines MayGo lines given deeds = Follows is_quiet MayGo given lines deeds

one_line : (MayGo : List Entry → ℕ → Type 0) (line : Line) (given : Given) (deeds : List Deed) → IsLinePart is_quiet MayGo line given deeds → OfLines MayGo (line ∷ []) given deeds
one_line MayGo line given deeds part = (deeds, [], sym (append-nil deeds), part, refl)

module _ {D M : Type 0} (h : drive.Ghosts M) (MayGo : List Entry → ℕ → Type 0) where
  pub lines_none : (s : Run D M) → IsDoneBy h (AreOfLines MayGo (SettlesSince s) []) s s
  lines_none s = done_none h (AreOfLines MayGo (SettlesSince s) []) s (refl, refl)

  module _ (MayNow : List Entry → ℕ → Type 0) (done : List Line) (line : Line) (a b c : Run D M) (same : MayNow ≡ MayGo) (first : IsDoneBy h (AreOfLines MayGo (SettlesSince a) done) a b) (runs : running b ≡ running_behind done none_run) where
    -- these lines, and what a marked history shows behind them
    abbrev IsFirst : Given → List Deed → Type 0
    IsFirst given deeds = AreOfLines MayGo (SettlesSince a) done given deeds × Shows h a.drives (marks_of deeds) b

    -- the line, and what is left by it
    abbrev IsNext : Given → List Deed → Type 0
    IsNext given more = IsLinePart is_quiet MayGo line given more × (given ≡ given_now b)
        × ((before : List Mark) → Shows h a.drives before b → LeavesSettled a.system.limits (superblock_of a.system.store.opened) (first_state a) line (running_by line (running_behind done none_run)) before (marks_of more))

    line_more : IsReady a → IsDoneBy h IsNext b c → IsDoneBy h (AreOfLines MayGo (SettlesSince a) (done ++ line ∷ [])) a c
    line_more ready then =
        done_then h IsFirst IsNext (AreOfLines MayGo (SettlesSince a) (done ++ line ∷ [])) a b c
        (λ deeds more (follows, shows) (part, here, left). (
          follows_on is_quiet MayGo (given_now a) done (line ∷ []) deeds more follows.0 (one_line MayGo line _ more part),
          settles_more a MayGo done line _ deeds more follows.1 part (λ daemon. ap (λ (given : Given). is_some (given_of daemon given)) here ∙ has_given daemon b ∙ ap (runs_in daemon) runs) (left (marks_of deeds) shows),
        ))
        (done_so h (AreOfLines MayGo (SettlesSince a) done) IsFirst a b first (first.part, first.grows a.drives [] (shown_none h a ready))) then

    pub lines_on : IsReady a → b.system.store.files.failed ≡ false → c.system.store.opened ≡ a.system.store.opened → running c ≡ running_by line (running b)
        → IsDoneBy h (λ given deeds. IsLinePart is_quiet MayNow line given deeds × LeadsTo h (IsLeftBy line c) b deeds) b c → IsDoneBy h (AreOfLines MayGo (SettlesSince a) (done ++ line ∷ [])) a c
    lines_on ready working opened behind then =
        line_more ready (done_so h (λ given deeds. IsLinePart is_quiet MayNow line given deeds × LeadsTo h (IsLeftBy line c) b deeds) IsNext b c then (
          subst (λ (May : List Entry → ℕ → Type 0). IsLinePart is_quiet May line (given_now b) then.deeds) same then.part.0,
          refl,
          λ before shows. left_since a line (running_by line (running_behind done none_run)) before (marks_of then.deeds) c (then.runs.goes.limits ∙ first.runs.goes.limits) opened (behind ∙ ap (running_by line) runs) (then.part.1 working a.drives before shows),
        ))

    -- it was stopped
    pub lines_cut : (lines left : List Line) (why : Stop) → lines ≡ done ++ line ∷ left → IsStoppedBy h (IsLineCut is_quiet MayNow line) why b c → IsStoppedBy h (AreCutIn MayGo (SettlesSince a) lines) why a c
    lines_cut lines left why parted then =
        stopped_then h (AreOfLines MayGo (SettlesSince a) done) (IsLineCut is_quiet MayGo line) (AreCutIn MayGo (SettlesSince a) lines) why a b c
        (λ ending deeds last follows cut. (record { whole = done; line = line; left = left; done = deeds; last = last; lines_parted = parted; parted = refl; follows = follows.0; cut = cut }, follows.1)) first
        (subst (λ (May : List Entry → ℕ → Type 0). IsStoppedBy h (IsLineCut is_quiet May line) why b c) same then)

  -- a commit behind others, however it went
  pub lines_then : {T : Type 0} (MayNow : List Entry → ℕ → Type 0) (done : List Line) (result : Result T Stop) (a b c : Run D M) → MayNow ≡ MayGo → IsDoneBy h (AreOfLines MayGo (SettlesSince a) done) a b → running b ≡ running_behind done none_run → IsReady a
      → ByDeeds h (λ (x : T). IsLinePart is_quiet MayNow commit_line) (IsLineCut is_quiet MayNow commit_line) result b c
      → ByDeeds h (λ (x : T). AreOfLines MayGo (SettlesSince a) (done ++ commit_line ∷ [])) (AreCutIn MayGo (SettlesSince a) (done ++ commit_line ∷ [])) result a c
  lines_then MayNow done (Ok x) a b c same first runs ready then =
      line_more MayNow done commit_line a b c same first runs ready (done_so h (IsLinePart is_quiet MayNow commit_line) _ b c then (subst (λ (May : List Entry → ℕ → Type 0). IsLinePart is_quiet May commit_line (given_now b) then.deeds) same then.part, refl, λ before shows. tt))
  lines_then MayNow done (Err why) a b c same first runs ready then = lines_cut MayNow done commit_line a b c same first runs (done ++ commit_line ∷ []) [] why refl then

  -- stopped in the first of them
  cut_in_more : (Settles : List Line → List Mark → Type 0) (lines more : List Line) (why : Stop) (a b : Run D M) → IsStoppedBy h (AreCutIn MayGo Settles lines) why a b → IsStoppedBy h (AreCutIn MayGo Settles (lines ++ more)) why a b
  cut_in_more Settles lines more why a b stopped =
      stopped_as h (AreCutIn MayGo Settles lines) (AreCutIn MayGo Settles (lines ++ more)) why a b
      (λ ending deeds (cut, settles). (record { whole = cut.whole; line = cut.line; left = cut.left ++ more; done = cut.done; last = cut.last; lines_parted = ap (λ (ls : List Line). ls ++ more) cut.lines_parted ∙ append_assoc cut.whole (cut.line ∷ cut.left) more; parted = cut.parted; follows = cut.follows; cut = cut.cut }, settles)) stopped

  -- with a commit behind them, or without
  pub stopped_run : (Settles : List Line → List Mark → Type 0) (commits : Bool) (lines : List Line) (why : Stop) (a b : Run D M) → IsStoppedBy h (AreCutIn MayGo Settles lines) why a b → IsStoppedBy h (AreCutIn MayGo Settles (lines_run commits lines)) why a b
  stopped_run Settles true lines why a b stopped = cut_in_more Settles lines (commit_line ∷ []) why a b stopped
  stopped_run Settles false lines why a b stopped = stopped

-- ---- a run that has done so

module _ {D M : Type 0} (h : drive.Ghosts M) (from s : Run D M) (is_ready : IsReady from) (limits : from.system.limits ≡ standard) where
  at_first : situation_of from.system ≡ nothing_done
  at_first = rw (is_ready.store.history, is_ready.recall, is_ready.migrate) refl

  none_at_first : given_now from ≡ none_given
  none_at_first = rw (is_ready.store.history, is_ready.recall, is_ready.migrate) refl

  is_served : (deeds : List Deed) → RunsBy h deeds from s → Served recalls (migrates standard) deeds
  is_served deeds runs = (situation_of s.system, subst (λ (n : Numbers). Leads recalls (migrates n) deeds nothing_done (situation_of s.system)) limits (subst (λ (x : Situation recall.Machine migrate.Machine). Leads recalls (migrates from.system.limits) deeds x (situation_of s.system)) at_first runs.goes.leads))

  made : (deeds : List Deed) → RunsBy h deeds from s → entries_of deeds ≡ s.system.store.history
  made deeds runs = sym (runs.goes.leads.entries ∙ ap (λ (es : List Entry). es ++ entries_of deeds) is_ready.store.history)

  -- what its marked history tells of the drives and of its daemons
  gone : (deeds : List Deed) → RunsBy h deeds from s → IsMarked h from.drives (marks_of deeds) s → HaveGone h standard from.drives deeds s.drives
  gone deeds runs is = record {
    went = runs.drives;
    so = runs.so;
    apart = faults_apart (length from.drives) deeds (counts_of h from.drives) (counts_of h s.drives) runs.faults;
    tallies = subst (λ (n : Numbers). Tallies h from.drives s.drives n (marks_of deeds)) (runs.goes.limits ∙ limits) is.sealed;
  }

  has_done : (FollowsSo : List Deed → Type 0) (deeds : List Deed) → RunsBy h deeds from s → IsMarked h from.drives (marks_of deeds) s → FollowsSo deeds → HasDone standard FollowsSo (λ done. HaveGone h standard from.drives done s.drives) s.system.store.history
  has_done FollowsSo deeds runs is follows = record {
    deeds = deeds;
    entries = made deeds runs;
    served = is_served deeds runs;
    marked = subst (λ (n : Numbers). marked.Served n (marks_of deeds)) (runs.goes.limits ∙ limits) is.served;
    follows = follows;
    so = gone deeds runs is;
  }

  pub done_marked : (IsPart : Given → List Deed → Type 0) (done : IsDoneBy h IsPart from s) → IsMarked h from.drives (marks_of done.deeds) s
  done_marked IsPart done = (done.grows from.drives [] (shown_none h from is_ready)).marked

  pub stopped_marked : (IsCut : Given → Ending → List Deed → Type 0) (why : Stop) (stopped : IsStoppedBy h IsCut why from s) → IsMarked h from.drives (marks_of stopped.deeds) s
  stopped_marked IsCut why stopped = stopped.ends from.drives [] (shown_none h from is_ready)

  is_over : MayGoOn from.system.store ≡ MayGoOnOver (Some from.system.store.opened)
  is_over = may_over from.system.store is_ready.store.working

  is_since : SettlesSince from ≡ SettlesOn (Some from.system.store.opened)
  is_since = ap (λ (n : Numbers). EachSettles n (superblock_of from.system.store.opened) (first_state from) none_run []) limits

  abbrev pub MayGo : List Entry → ℕ → Type 0
  MayGo = MayGoOnOver (Some from.system.store.opened)

  abbrev pub Settles : List Line → List Mark → Type 0
  Settles = SettlesOn (Some from.system.store.opened)

  abbrev pub Gone : List Deed → Type 0
  Gone deeds = HaveGone h standard from.drives deeds s.drives

  -- as it is said of the store that was opened
  over : (IsSo : (List Entry → ℕ → Type 0) → (List Line → List Mark → Type 0) → Given → Type 0) → IsSo (MayGoOn from.system.store) (SettlesSince from) (given_now from) → IsSo MayGo Settles none_given
  over IsSo so =
      subst (λ (x : Given). IsSo MayGo Settles x) none_at_first
      (subst (λ (x : List Line → List Mark → Type 0). IsSo MayGo x (given_now from)) is_since (subst (λ (May : List Entry → ℕ → Type 0). IsSo May (SettlesSince from) (given_now from)) is_over so))

  -- of these lines
  module _ (AreTheLines : List Line → Type 0) (lines : List Line) (are : AreTheLines lines) where
    pub all_done : IsDoneBy h (AreOfLines (MayGoOn from.system.store) (SettlesSince from) lines) from s → HasDone standard (AreDone MayGo Settles AreTheLines None) Gone s.system.store.history
    all_done done = has_done (AreDone MayGo Settles AreTheLines None) done.deeds done.runs (done_marked (AreOfLines (MayGoOn from.system.store) (SettlesSince from) lines) done)
        (lines, are, over (λ May settles given. AreOfLines May settles lines given done.deeds) done.part)

    abbrev IsCut : Given → Ending → List Deed → Type 0
    IsCut = AreCutIn (MayGoOn from.system.store) (SettlesSince from) lines

    first : (ending : Ending) (deeds : List Deed) → IsCut (given_now from) ending deeds → AreFirst MayGo Settles AreTheLines ending deeds
    first ending deeds cut = (lines, are, over (λ May settles given. AreCutIn May settles lines given ending deeds) cut)

    pub wanting_done : IsStoppedBy h IsCut stop.Memory from s → HasDone standard (AreDone MayGo Settles AreTheLines (Some NoMemory)) Gone s.system.store.history
    wanting_done stopped = has_done (AreDone MayGo Settles AreTheLines (Some NoMemory)) stopped.deeds stopped.runs (stopped_marked IsCut stop.Memory stopped) (inr (inr (stopped.ending, first stopped.ending stopped.deeds stopped.cut)))

    broken_by : (ending : Ending) (deeds : List Deed) → IsCut (given_now from) ending deeds → IsStopOf h stop.Disk ending from.system.store s.system.store → AreFirst MayGo Settles AreTheLines Broken deeds
    broken_by Broken deeds cut stops = first Broken deeds cut
    broken_by Unmade deeds cut stops = let wrong : true ≡ false = sym stops.0 ∙ is_ready.store.working in cc wrong
    broken_by Lost deeds cut stops = absurd stops

    pub broken_done : IsStoppedBy h IsCut stop.Disk from s → HasDone standard (AreDone MayGo Settles AreTheLines (Some DiskFault)) Gone s.system.store.history
    broken_done stopped = has_done (AreDone MayGo Settles AreTheLines (Some DiskFault)) stopped.deeds stopped.runs (stopped_marked IsCut stop.Disk stopped) (inr (broken_by stopped.ending stopped.deeds stopped.cut stopped.stops))

-- ---- nothing was done

nothing_goes : {M : Type 0} (h : drive.Ghosts M) (drives : List M) → HaveGone h standard drives [] drives
nothing_goes h drives = record { went = refl; so = All-nil (IsSo h drives); apart = record { over = All-nil (IsOver (length drives) (counts_of h drives)); apart = λ i j d less within. absurd (omega arith) }; tallies = tallies_none h standard drives }

nothing_leads : Served recalls (migrates standard) []
nothing_leads = (nothing_done, record { entries = refl; recall = refl; migrate = refl; right = All-nil IsRight })

pub none_done : (FollowsSo GoSo : List Deed → Type 0) (history : List Entry) → history ≡ [] → FollowsSo [] → GoSo [] → HasDone standard FollowsSo GoSo history
none_done FollowsSo GoSo history none follows goes = record { deeds = []; entries = sym none; served = nothing_leads; marked = tt; follows = follows; so = goes }

pub none_gone : {M : Type 0} (h : drive.Ghosts M) (drives now : List M) → now ≡ drives → HaveGone h standard drives [] now
none_gone {M = M} h drives now same = subst (λ (ds : List M). HaveGone h standard drives [] ds) (sym same) (nothing_goes h drives)

-- for such a cause
module _ (MayGo : List Entry → ℕ → Type 0) (Settles : List Line → List Mark → Type 0) (AreTheLines : List Line → Type 0) where
  pub idle_done : (why : Cause) → why ≢ WriteFault → AreDone MayGo Settles AreTheLines (Some why) []
  idle_done (ScriptRefused line) other = refl
  idle_done WordsRefused other = refl
  idle_done NotStore other = refl
  idle_done (Corrupt place) other = refl
  idle_done ReadFault other = refl
  idle_done WriteFault other = absurd (other refl)
  idle_done DiskFault other = inl refl
  idle_done HostFault other = refl
  idle_done NoMemory other = inl refl

  -- ---- with what came of writing

  pub wanting : (cause : Option Cause) (deeds : List Deed) → AreDone MayGo Settles AreTheLines cause deeds → AreDone MayGo Settles AreTheLines (Some NoMemory) deeds
  wanting None deeds done = inr (inl done)
  wanting (Some WriteFault) deeds done = inr (inl done)
  wanting (Some DiskFault) deeds (inl none) = inl none
  wanting (Some DiskFault) deeds (inr broken) = inr (inr (Broken, broken))
  wanting (Some NoMemory) deeds done = done
  wanting (Some (ScriptRefused line)) deeds none = inl none
  wanting (Some WordsRefused) deeds none = inl none
  wanting (Some NotStore) deeds none = inl none
  wanting (Some (Corrupt place)) deeds none = inl none
  wanting (Some ReadFault) deeds none = inl none
  wanting (Some HostFault) deeds none = inl none

  pub told_done : {T : Type 0} (sink : SinkTold) (cause : Option Cause) (written : Result T Cause) (deeds : List Deed) → IfErr written (WritingEnds sink) → AreDone MayGo Settles AreTheLines cause deeds → AreDone MayGo Settles AreTheLines (first_of cause (cause_in written)) deeds
  told_done sink None (Ok x) deeds ends done = done
  told_done sink (Some why) (Ok x) deeds ends done = done
  told_done sink None (Err WriteFault) deeds ends done = done
  told_done sink (Some why) (Err WriteFault) deeds ends done = done
  told_done sink cause (Err NoMemory) deeds ends done = wanting cause deeds done
  told_done sink cause (Err (ScriptRefused line)) deeds ends done = absurd ends
  told_done sink cause (Err WordsRefused) deeds ends done = absurd ends
  told_done sink cause (Err NotStore) deeds ends done = absurd ends
  told_done sink cause (Err (Corrupt place)) deeds ends done = absurd ends
  told_done sink cause (Err ReadFault) deeds ends done = absurd ends
  told_done sink cause (Err DiskFault) deeds ends done = absurd ends
  told_done sink cause (Err HostFault) deeds ends done = absurd ends

  -- ---- what nothing was done for

  unrun : (why : Cause) (deeds : List Deed) → AreDone MayGo Settles AreTheLines (Some why) deeds → why ≢ WriteFault → why ≢ DiskFault → why ≢ NoMemory → deeds ≡ []
  unrun WriteFault deeds done sound working ample = absurd (sound refl)
  unrun DiskFault deeds done sound working ample = absurd (working refl)
  unrun NoMemory deeds done sound working ample = absurd (ample refl)
  unrun (ScriptRefused line) deeds done sound working ample = done
  unrun WordsRefused deeds done sound working ample = done
  unrun NotStore deeds done sound working ample = done
  unrun (Corrupt place) deeds done sound working ample = done
  unrun ReadFault deeds done sound working ample = done
  unrun HostFault deeds done sound working ample = done

  -- then there is no history
  pub idle_history : (why : Cause) (GoSo : List Deed → Type 0) (history : List Entry) → HasDone standard (AreDone MayGo Settles AreTheLines (Some why)) GoSo history → why ≢ WriteFault → why ≢ DiskFault → why ≢ NoMemory → history ≡ []
  idle_history why GoSo history done sound working ample = sym done.entries ∙ ap entries_of (unrun why done.deeds done.follows sound working ample)

-- the same deeds, of which another thing is so too
pub done_as : (limits : Numbers) (FollowsSo FollowsToo GoSo GoToo : List Deed → Type 0) (history : List Entry) → ((deeds : List Deed) → FollowsSo deeds → FollowsToo deeds) → ((deeds : List Deed) → GoSo deeds → GoToo deeds) → HasDone limits FollowsSo GoSo history → HasDone limits FollowsToo GoToo history
done_as limits FollowsSo FollowsToo GoSo GoToo history follows goes done = record { deeds = done.deeds; entries = done.entries; served = done.served; marked = done.marked; follows = follows done.deeds done.follows; so = goes done.deeds done.so }

-- and are well served
pub also_well : {D : Type 0} (opened : Option (FileStore D)) (FollowsSo GoSo : List Deed → Type 0) (history : List Entry) → ServedIsWell opened history → HasDone standard FollowsSo GoSo history → HasDone standard FollowsSo (λ deeds. IsWellServedOver opened deeds × GoSo deeds) history
also_well opened FollowsSo GoSo history well done = record { deeds = done.deeds; entries = done.entries; served = done.served; marked = done.marked; follows = done.follows; so = (well done.deeds done.entries done.served done.marked, done.so) }
