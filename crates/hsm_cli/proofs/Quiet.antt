-- Counts of faults that stay as they were where no fault is told.
use Rattle.std.proofs.Common.{◌≡◌, ◌≢◌, ◌∙◌, ℕ, Bool, true, false, List, [], ◌∷◌, Option, Some, None, Result, Ok, Err, IfErr, IsErrOf, IsOk, IfSome}
use Rattle.std.proofs.Common.{inl, inr, zero, suc, ◌+◌, ◌<◌, ◌%◌, length, refl, sym, ap, subst, arith}
use Rattle.std.proofs.lemmas.Bool.{false≢true}
use Rattle.std.specs.Prelude.{map, sum, sum_by}
use Rattle.std.proofs.lemmas.List.Sums.{sum_by-cons}
use Rattle.disk_model.specs.Calls.{raised}
use Rattle.disk_model.specs.declared.device.Disk as disk
use Rattle.media_model.specs.declared.drive.Drive as drive
use Rattle.plain_model.specs.declared.entries.Entry.{Entry}
use Rattle.marked_history.specs.Marks.{Mark}
use Rattle.command_words.specs.Commands.{Form, Format, Replay, ReplayStore, Show, ShowVolumes, Drill}
use Rattle.reconcile.specs.Classes.{AreQuiet, raised_at, FailsAt, TellsFailed}
use Rattle.reconcile.specs.declared.refusals.ReconcileRefusal.{ReconcileRefusal}
use Rattle.reconcile.specs.declared.refusals.ReconcileRefusal.TheVariants as counting
use Rattle.script_text.specs.declared.lines.Line.{Line}
use Rattle.deeds.specs.Deeds.{Deed}
use Rattle.hsm_cli.specs.declared.causes.Cause.{Cause}
use Rattle.hsm_cli.specs.declared.causes.Cause.TheVariants.{ScriptRefused, WordsRefused, NotStore, Corrupt, ReadFault, WriteFault, DiskFault}
use Rattle.hsm_cli.specs.declared.causes.Cause.TheVariants.{HostFault, NoMemory}
use Rattle.hosts.specs.Hosts.{HasHostCause}
use Rattle.hosts.specs.declared.outside.HostRefusal.{HostRefusal}
use Rattle.hosts.specs.declared.outside.HostRefusal.TheVariants as handing
use Rattle.hsm_cli.specs.Outcomes.{ended_with}
use Rattle.hsm_cli.specs.Statuses.{cause_of_host, cause_of_classes}
use Rattle.hsm_cli.specs.Texts.{TakesText}
use Rattle.hsm_cli.specs.RunObjects.{SourceTold, SinkTold, HostTold, FailsOnce}
use Rattle.hsm_cli.specs.Endings.{cause_in, WritingEnds, first_of}
use Rattle.hsm_cli.specs.Deeds.{AreDone, HasDone}
use Rattle.hsm_cli.proofs.Doing.{idle_history}
use Rattle.hsm_policy.specs.Settings.{standard}
use Rattle.hsm_cli.specs.Clauses.{ComesBackRead, ReadsQuietly, WritesQuietly, NeverFailed, HasDriveFailed, CountsQuietly, FaultsClause}

-- ---- what a run reads and writes

-- where the transcript was written, what ended the run is told
told_first : (ran written : Result (Unit {0}) Cause) (why : Cause) → cause_in ran ≡ Some why → IsOk written → first_of (cause_in ran) (cause_in written) ≡ Some why
told_first ran (Ok x) why is written = ap (λ c. first_of c None) is
told_first ran (Err e) why is written = absurd cc

-- a fault of the host in asking for drives, after which nothing was run
pub lent_first : {V : Type 0} (ready : Result V Cause) (ran written : Result (Unit {0}) Cause) → IfErr ready (λ why. cause_in ran ≡ Some why) → IsOk written → IsErrOf ready HostFault → first_of (cause_in ran) (cause_in written) ≡ Some HostFault
lent_first (Ok ds) ran written told wrote is = absurd cc
lent_first (Err why) ran written told wrote is = let same : why ≡ HostFault = cc in told_first ran written HostFault (told ∙ ap Some same) wrote

-- a run that tells no fault of the disk leaves a store that works
pub works_still : (failed faulty : Bool) (ran : Result (Unit {0}) Cause) → (failed ≡ true → IsErrOf ran DiskFault) → (IsErrOf ran DiskFault → faulty ≡ true) → faulty ≡ false → failed ≡ false
works_still true faulty ran fails tells none = absurd (false≢true (sym none ∙ tells (fails refl)))
works_still false faulty ran fails tells none = refl

-- A run whose deeds made that history.
module _ (MayGo : List Entry → ℕ → Type 0) (Settles : List Line → List Mark → Type 0) (AreTheLines : List Line → Type 0) (GoSo : List Deed → Type 0) (history : List Entry) where
  abbrev Ran : Option Cause → Type 0
  Ran cause = HasDone standard (AreDone MayGo Settles AreTheLines cause) GoSo history

  -- a fault of the source ends the run before its first line, and the transcript is empty
  pub reads_quietly : (source : SourceTold) (ran written : Result (Unit {0}) Cause) → Ran (cause_in ran) → (history ≡ [] → IsOk written) → ((IsErrOf ran ReadFault → ⊥) → source.now ≡ source.before) → ReadsQuietly source (first_of (cause_in ran) (cause_in written))
  reads_quietly source ran written runs wrote quiet = λ sound. quiet (λ is.
      let told : cause_in ran ≡ Some ReadFault = ap cause_in is in
      sound (told_first ran written ReadFault told (wrote (idle_history MayGo Settles AreTheLines ReadFault GoSo history (subst Ran told runs) (λ is. cc) (λ is. cc) (λ is. cc)))))

  -- the transcript of a run that ran nothing is empty
  pub writes_quietly : (sink : SinkTold) (ran written : Result (Unit {0}) Cause) → IfErr written (WritingEnds sink) → Ran (cause_in ran) → ((IsErrOf written WriteFault → ⊥) → sink.now ≡ sink.before) → (history ≡ [] → sink.now ≡ sink.before)
      → WritesQuietly sink (first_of (cause_in ran) (cause_in written))
  writes_quietly sink ran (Ok y) writes runs quiet idle = λ sound working ample. quiet (λ is. absurd cc)
  writes_quietly sink ran (Err NoMemory) writes runs quiet idle = λ sound working ample. quiet (λ is. absurd cc)
  writes_quietly sink (Ok x) (Err WriteFault) writes runs quiet idle = λ sound working ample. absurd (sound refl)
  writes_quietly sink (Err why) (Err WriteFault) writes runs quiet idle = λ sound working ample. idle (idle_history MayGo Settles AreTheLines why GoSo history runs (λ is. sound (ap Some is)) (λ is. working (ap Some is)) (λ is. ample (ap Some is)))
  writes_quietly sink ran (Err (ScriptRefused line)) writes runs quiet idle = absurd writes
  writes_quietly sink ran (Err WordsRefused) writes runs quiet idle = absurd writes
  writes_quietly sink ran (Err NotStore) writes runs quiet idle = absurd writes
  writes_quietly sink ran (Err (Corrupt place)) writes runs quiet idle = absurd writes
  writes_quietly sink ran (Err ReadFault) writes runs quiet idle = absurd writes
  writes_quietly sink ran (Err DiskFault) writes runs quiet idle = absurd writes
  writes_quietly sink ran (Err HostFault) writes runs quiet idle = absurd writes

-- a text that is written last
pub text_quietly : (IsText : List ℕ → Type 0) (sink : SinkTold) (cause : Option Cause) → TakesText IsText sink cause → WritesQuietly sink cause
text_quietly IsText sink None took = λ sound working ample. took.3
text_quietly IsText sink (Some WriteFault) took = λ sound working ample. absurd (sound refl)
text_quietly IsText sink (Some (ScriptRefused line)) took = λ sound working ample. took.faults
text_quietly IsText sink (Some WordsRefused) took = λ sound working ample. took.faults
text_quietly IsText sink (Some NotStore) took = λ sound working ample. took.faults
text_quietly IsText sink (Some (Corrupt place)) took = λ sound working ample. took.faults
text_quietly IsText sink (Some ReadFault) took = λ sound working ample. took.faults
text_quietly IsText sink (Some DiskFault) took = λ sound working ample. took.faults
text_quietly IsText sink (Some HostFault) took = λ sound working ample. took.faults
text_quietly IsText sink (Some NoMemory) took = λ sound working ample. took.faults

-- ---- what the host hands out

-- a disk that is only read
pub read_quietly : {D : Type 0} (g : disk.Ghosts D) (held : List ℕ → Type 0) (cause : Option Cause) (given : Option D) → ComesBackRead g held cause given → cause ≢ Some DiskFault → IfSome given (λ d. g.fault_count d ≡ 0)
read_quietly g held cause (Some d) back sound = back.quiet sound
read_quietly g held cause None back sound = tt

-- where no disk came, or no drives, and that isn't told as a fault of the host
pub unhanded_quiet : {T : Type 0} (refusal : HostRefusal) → Some (cause_of_host refusal) ≢ Some HostFault → IsErrOf {T = T} (Err refusal) handing.Failed → ⊥
unhanded_quiet handing.Failed sound is = sound refl
unhanded_quiet handing.Memory sound is = cc

-- and where classes weren't counted
pub uncounted_quiet : {T : Type 0} (S : Type 0) (refusal : ReconcileRefusal) → (IsErrOf {T = T} (Err (cause_of_classes refusal)) HostFault → ⊥) → TellsFailed {T = S} (Err refusal) → ⊥
uncounted_quiet S (counting.Failed volume) sound told = sound refl
uncounted_quiet S counting.Memory sound told = told

-- drives that had not failed, and were read without a fault
pub never_yet : {M : Type 0} (g : drive.Ghosts M) (old new : List M) → NeverFailed g old → AreQuiet g old new → NeverFailed g new
never_yet g [] [] never quiet = tt
never_yet g [] (y ∷ ys) never quiet = absurd cc
never_yet g (x ∷ xs) [] never quiet = absurd cc
never_yet g (x ∷ xs) (y ∷ ys) never quiet =
    let first : g.fault_count y ≡ g.fault_count x = cc in
    let rest : map g.fault_count ys ≡ map g.fault_count xs = cc in
    (first ∙ never.0, never_yet g xs ys never.1 rest)

-- ---- what failed in one call at most

-- calls that did not fail, and then one more
pub once_since : (a b c : ℕ) → b ≡ a → FailsOnce b c → FailsOnce a c
once_since a b c same once = subst (λ n. FailsOnce n c) same once

-- one call of a host
pub asked_once : {T : Type 0} (result : Result T HostRefusal) (before after : ℕ) → HasHostCause result before after → FailsOnce before after
asked_once (Ok x) before after cause = inl (cause.quiet (λ is. cc))
asked_once (Err handing.Failed) before after cause = inr (cause.rose refl)
asked_once (Err handing.Memory) before after cause = inl (cause.quiet (λ is. cc))

-- ---- drives, one of which has failed

sum_first : (count : ℕ) (counts : List ℕ) → sum (count ∷ counts) ≡ count + sum counts
sum_first count counts = sum_by-cons (λ (n : ℕ). n) count counts

module _ {M : Type 0} (g : drive.Ghosts M) where
  sum_counts : (ds : List M) → sum_by g.fault_count ds ≡ sum (map g.fault_count ds)
  sum_counts [] = refl
  sum_counts (d ∷ ds) = sum_by-cons g.fault_count d ds ∙ ap (λ (n : ℕ). g.fault_count d + n) (sum_counts ds) ∙ sym (sum_first (g.fault_count d) (map g.fault_count ds))

  sum_none : (ds : List M) → NeverFailed g ds → sum (map g.fault_count ds) ≡ 0
  sum_none [] never = refl
  sum_none (d ∷ ds) never = sum_first (g.fault_count d) (map g.fault_count ds) ∙ omega (arith, never.0, sum_none ds never.1)

  sum_once : (ds : List M) (place : ℕ) → NeverFailed g ds → place < length ds → sum (raised_at place (map g.fault_count ds)) ≡ 1
  sum_once [] place never within = absurd (omega arith)
  sum_once (d ∷ ds) zero never within =
      let one : raised (g.fault_count d) ≡ 1 = omega (arith, never.0) in
      sum_first (raised (g.fault_count d)) (map g.fault_count ds) ∙ omega (arith, one, sum_none ds never.1)
  sum_once (d ∷ ds) (suc place) never within = sum_first (g.fault_count d) (raised_at place (map g.fault_count ds)) ∙ omega (arith, never.0, sum_once ds place never.1 (omega arith))

  -- where none had failed, the one is all that has failed
  pub failed_once : (old new : List M) (volume : ℕ) → NeverFailed g old → 0 < length old → FailsAt g volume old new → HasDriveFailed g new
  failed_once old new volume never some fails = sum_counts new ∙ ap sum fails ∙ sum_once old (volume % length old) never (omega arith)

-- ---- where nothing was done

counts_none : {M : Type 0} (h : drive.Ghosts M) (form : Option Form) (cause : Option Cause) → CountsQuietly h form cause []
counts_none h None cause = tt
counts_none h (Some (Format path size)) cause = tt
counts_none h (Some Replay) cause = tt
counts_none h (Some (ReplayStore path dir)) cause = tt
counts_none h (Some (Show path)) cause = tt
counts_none h (Some (ShowVolumes path dir)) cause = λ sound. tt
counts_none h (Some (Drill number)) cause = tt

pub faults_idle : {D M : Type 0} (g : disk.Ghosts D) (h : drive.Ghosts M) (cause : Option Cause) (form : Option Form) (source : SourceTold) (sink : SinkTold) (host : HostTold) → source.now ≡ source.before → sink.now ≡ sink.before → host.now ≡ host.before
    → FaultsClause g h form source sink host (ended_with {D = D} {M = M} cause [] None)
faults_idle g h cause form source sink host unread unwritten unasked = record { reads = λ sound. unread; writes = λ sound working ample. unwritten; keeps = λ works none. tt; hands = λ sound. unasked; counts = counts_none h form cause; source_once = inl unread; sink_once = inl unwritten; host_once = inl unasked }
