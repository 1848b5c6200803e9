-- What is told of a run, from how its reading, its lines and its writing ended.
use Rattle.std.proofs.Common.{◌≡◌, ◌≢◌, ◌∙◌, ◌⊎◌, inl, inr, ⊎_elim, Bool, true, false, Option, Some, None, Result, Ok, Err, IfErr, OnOk, IsErrOf}
use Rattle.std.proofs.Common.{refl, sym, ap, subst}
use Rattle.std.proofs.lemmas.Bool.{false≢true}
use Rattle.disk_model.specs.Calls.{Rose}
use Rattle.hsm_cli.specs.declared.causes.Cause.{Cause}
use Rattle.hsm_cli.specs.declared.causes.Cause.TheVariants.{ScriptRefused, WordsRefused, NotStore, Corrupt, ReadFault, WriteFault, DiskFault}
use Rattle.hsm_cli.specs.declared.causes.Cause.TheVariants.{HostFault, NoMemory}
use Rattle.hsm_cli.specs.RunObjects.{SourceTold, SinkTold}
use Rattle.hsm_cli.specs.Endings.{cause_in, ScriptEnds, WritingEnds, RunEnds, first_of}

-- what holds of the cause that is told
first_by : (P : Option Cause → Type 0) (sink : SinkTold) (ran written : Result (Unit {0}) Cause) → IfErr written (WritingEnds sink) → P (cause_in ran) → P (Some NoMemory) → (Rose sink.before sink.now → P None → P (Some WriteFault)) → P (first_of (cause_in ran) (cause_in written))
first_by P sink (Ok x) (Ok y) writes now memory fault = now
first_by P sink (Err why) (Ok y) writes now memory fault = now
first_by P sink ran (Err NoMemory) writes now memory fault = memory
first_by P sink (Ok x) (Err WriteFault) writes now memory fault = fault writes now
first_by P sink (Err why) (Err WriteFault) writes now memory fault = now
first_by P sink ran (Err (ScriptRefused line)) writes now memory fault = absurd writes
first_by P sink ran (Err WordsRefused) writes now memory fault = absurd writes
first_by P sink ran (Err NotStore) writes now memory fault = absurd writes
first_by P sink ran (Err (Corrupt place)) writes now memory fault = absurd writes
first_by P sink ran (Err ReadFault) writes now memory fault = absurd writes
first_by P sink ran (Err DiskFault) writes now memory fault = absurd writes
first_by P sink ran (Err HostFault) writes now memory fault = absurd writes

error_of : (ran : Result (Unit {0}) Cause) (why : Cause) → cause_in ran ≡ Some why → IsErrOf ran why
error_of (Ok x) why is = cc
error_of (Err w) why is = cc

-- ---- faults of the disk

pub told_fault : (faulty : Bool) (sink : SinkTold) (ran written : Result (Unit {0}) Cause) → IfErr written (WritingEnds sink) → (IsErrOf ran DiskFault → faulty ≡ true) → first_of (cause_in ran) (cause_in written) ≡ Some DiskFault → faulty ≡ true
told_fault faulty sink ran written writes fault = first_by (λ c. c ≡ Some DiskFault → faulty ≡ true) sink ran written writes (λ is. fault (error_of ran DiskFault is)) (λ is. absurd cc) (λ rose before is. absurd cc)

pub not_failed : (failed : Bool) (ran : Result (Unit {0}) Cause) → (failed ≡ true → IsErrOf ran DiskFault) → cause_in ran ≢ Some DiskFault → failed ≡ false
not_failed true ran fails sound = absurd (sound (ap cause_in (fails refl)))
not_failed false ran fails sound = refl

pub faultless_unless : (failed faulty : Bool) (sink : SinkTold) (ran written : Result (Unit {0}) Cause) → IfErr written (WritingEnds sink) → (failed ≡ true → IsErrOf ran DiskFault) → (failed ≡ false → faulty ≡ false)
    → first_of (cause_in ran) (cause_in written) ≢ Some DiskFault → first_of (cause_in ran) (cause_in written) ≢ Some NoMemory → faulty ≡ false
faultless_unless failed faulty sink ran written writes fails kept =
    first_by (λ c. c ≢ Some DiskFault → c ≢ Some NoMemory → faulty ≡ false) sink ran written writes (λ sound ample. kept (not_failed failed ran fails sound)) (λ sound ample. absurd (ample refl)) (λ rose before sound ample. before (λ is. absurd cc) (λ is. absurd cc))

pub fault_caused : (HostFails Rises : Type 0) (source : SourceTold) (failed faulty : Bool) (ran : Result (Unit {0}) Cause) → (failed ≡ true → IsErrOf ran DiskFault) → (failed ≡ false → faulty ≡ false) → IfErr ran (λ why. ScriptEnds HostFails Rises source why) → faulty ≡ true → Rises
fault_caused HostFails Rises source false faulty ran fails kept ends is = absurd (false≢true (sym (kept refl) ∙ is))
fault_caused HostFails Rises source true faulty ran fails kept ends is = subst (λ (r : Result (Unit {0}) Cause). IfErr r (λ why. ScriptEnds HostFails Rises source why)) (fails refl) ends

-- ---- what is read

pub read_by : (P : Option Cause → Type 0) (sink : SinkTold) (ran written : Result (Unit {0}) Cause) → IfErr written (WritingEnds sink) → P (cause_in ran) → P (Some NoMemory) → (P None → P (Some WriteFault)) → P (first_of (cause_in ran) (cause_in written))
read_by P sink ran written writes now memory same = first_by P sink ran written writes now memory (λ rose before. same before)

-- ---- what is written

written_unless : (All : Type 0) (sink : SinkTold) (ran written : Result (Unit {0}) Cause) → IfErr written (WritingEnds sink) → OnOk written All
    → All ⊎ ((first_of (cause_in ran) (cause_in written) ≡ Some NoMemory) ⊎ (Rose sink.before sink.now × (first_of (cause_in ran) (cause_in written) ≢ None)))
written_unless All sink ran (Ok y) writes all = inl all
written_unless All sink ran (Err NoMemory) writes all = inr (inl refl)
written_unless All sink (Ok x) (Err WriteFault) writes all = inr (inr (writes, λ is. absurd cc))
written_unless All sink (Err why) (Err WriteFault) writes all = inr (inr (writes, λ is. absurd cc))
written_unless All sink ran (Err (ScriptRefused line)) writes all = absurd writes
written_unless All sink ran (Err WordsRefused) writes all = absurd writes
written_unless All sink ran (Err NotStore) writes all = absurd writes
written_unless All sink ran (Err (Corrupt place)) writes all = absurd writes
written_unless All sink ran (Err ReadFault) writes all = absurd writes
written_unless All sink ran (Err DiskFault) writes all = absurd writes
written_unless All sink ran (Err HostFault) writes all = absurd writes

pub written_if_none : (All : Type 0) (sink : SinkTold) (ran written : Result (Unit {0}) Cause) → IfErr written (WritingEnds sink) → OnOk written All → first_of (cause_in ran) (cause_in written) ≡ None → All
written_if_none All sink ran written writes all none = ⊎_elim (λ is. is) (⊎_elim (λ memory. absurd cc) (λ fault. absurd (fault.1 none))) (written_unless All sink ran written writes all)

pub written_if_works : (All : Type 0) (sink : SinkTold) (ran written : Result (Unit {0}) Cause) → IfErr written (WritingEnds sink) → OnOk written All → first_of (cause_in ran) (cause_in written) ≢ Some NoMemory → (Rose sink.before sink.now → ⊥) → All
written_if_works All sink ran written writes all ample works = ⊎_elim (λ is. is) (⊎_elim (λ memory. absurd (ample memory)) (λ fault. absurd (works fault.0))) (written_unless All sink ran written writes all)

-- ---- how it ended

pub told_unready : {V : Type 0} (ready : Result V Cause) (sink : SinkTold) (ran written : Result (Unit {0}) Cause) → IfErr written (WritingEnds sink) → IfErr ready (λ why. cause_in ran ≡ Some why)
    → IfErr ready (λ why. (first_of (cause_in ran) (cause_in written) ≡ Some why) ⊎ (first_of (cause_in ran) (cause_in written) ≡ Some NoMemory))
told_unready (Ok x) sink ran written writes is = tt
told_unready (Err why) sink ran written writes is = first_by (λ c. (c ≡ Some why) ⊎ (c ≡ Some NoMemory)) sink ran written writes (inl is) (inr refl) (λ rose before. absurd (⊎_elim (λ wrong. cc) (λ wrong. cc) before))

ran_ends : (HostFails DiskFails : Type 0) (source : SourceTold) (sink : SinkTold) (ran : Result (Unit {0}) Cause) → IfErr ran (λ why. ScriptEnds HostFails DiskFails source why) → RunEnds HostFails DiskFails source sink (cause_in ran)
ran_ends HostFails DiskFails source sink (Ok x) ends = tt
ran_ends HostFails DiskFails source sink (Err (ScriptRefused line)) ends = ends
ran_ends HostFails DiskFails source sink (Err ReadFault) ends = ends
ran_ends HostFails DiskFails source sink (Err DiskFault) ends = ends
ran_ends HostFails DiskFails source sink (Err HostFault) ends = ends
ran_ends HostFails DiskFails source sink (Err NoMemory) ends = tt
ran_ends HostFails DiskFails source sink (Err WordsRefused) ends = absurd ends
ran_ends HostFails DiskFails source sink (Err NotStore) ends = absurd ends
ran_ends HostFails DiskFails source sink (Err (Corrupt place)) ends = absurd ends
ran_ends HostFails DiskFails source sink (Err WriteFault) ends = absurd ends

pub run_ends : (HostFails DiskFails : Type 0) (source : SourceTold) (sink : SinkTold) (ran written : Result (Unit {0}) Cause) → IfErr written (WritingEnds sink) → IfErr ran (λ why. ScriptEnds HostFails DiskFails source why)
    → RunEnds HostFails DiskFails source sink (first_of (cause_in ran) (cause_in written))
run_ends HostFails DiskFails source sink ran written writes ends = first_by (RunEnds HostFails DiskFails source sink) sink ran written writes (ran_ends HostFails DiskFails source sink ran ends) tt (λ rose before. rose)
