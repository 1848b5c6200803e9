-- How a store goes on after an event, and why it is stopped.
use Rattle.std.proofs.Common.{◌≡◌, ◌≢◌, ◌∙◌, ◌⊎◌, ◌∷◌, ◌++◌, [], ℕ, Bool, true, false, ◌||◌, List, Result, Ok, Err, OnOk, IfErr, inl, inr, refl, sym}
use Rattle.std.proofs.Common.{ap, subst, append-nil, append_assoc, arith}
use Rattle.disk_model.specs.declared.device.Disk as disk
use Rattle.disk_model.specs.Calls.{RoseByOne}
use Rattle.disk_model.specs.Moments.{Tells}
use Rattle.hsm_types.specs.declared.calls.CallRefusal.TheVariants as refusal
use Rattle.hsm_types.specs.declared.calls.Reply.TheVariants as calls
use Rattle.hsm_types.specs.declared.dm.DmRefusal.TheVariants as dm
use Rattle.hsm_types.specs.declared.dm.DmReply.TheVariants as told
use Rattle.plain_model.specs.declared.entries.Action.{Action}
use Rattle.plain_model.specs.declared.entries.Action.TheVariants.{Issue, Resume, Dm, Commit}
use Rattle.plain_model.specs.declared.entries.Actor.{Actor}
use Rattle.plain_model.specs.declared.entries.Answer.{Answer}
use Rattle.plain_model.specs.declared.entries.Answer.TheVariants.{Call as Replied, Dm as Told}
use Rattle.plain_model.specs.declared.entries.Entry.{Entry}
use Rattle.plain_model.specs.Faults.{is_fault, fault_of, has_fault}
use Rattle.plain_model.proofs.AnyDisk.{seen_done}
use Rattle.plain_model.proofs.Faultless.{is_undone, fault_is}
use Rattle.file_store.specs.Stores.{superblock_of}
use Rattle.hsm_core.specs.Answers.{IsAnswer, IsDone, entry_of, memory_of}
use Rattle.hsm_core.specs.Store.{Store, state_of}
use Rattle.hsm_system.specs.declared.stops.Stop.{Stop}
use Rattle.hsm_system.specs.declared.stops.Stop.TheVariants as stop
use Rattle.deeds.specs.Deeds.{StopsNothing}
use Rattle.hsm_system.specs.Events.{HasGrown, IsStoppedFor, Runs}
use Rattle.hsm_system.specs.Goes.{HasClosed, StillWorks, WasClosed}
use Rattle.hsm_system.specs.Stops.{stop_answer}

or_later : (a b : Bool) → b ≡ true → (a || b) ≡ true
or_later true b is = refl
or_later false b is = is

-- an entry more that was answered for a fault
pub fault_kept : (es : List Entry) (e : Entry) → is_fault e.answer ≡ true → has_fault (es ++ e ∷ []) ≡ true
fault_kept [] e is = rw is refl
fault_kept (x ∷ es) e is = or_later (is_fault x.answer) (has_fault (es ++ e ∷ [])) (fault_kept es e is)

-- a fault of the disk is no want of memory
fault_or_memory : (action : Action) → fault_of action ≡ memory_of action → ⊥
fault_or_memory (Issue call) is = let wrong : Replied (calls.Refused refusal.Disk) ≡ Replied (calls.Refused refusal.Memory) = is in cc wrong
fault_or_memory Resume is = let wrong : Replied (calls.Refused refusal.Disk) ≡ Replied (calls.Refused refusal.Memory) = is in cc wrong
fault_or_memory (Dm asked) is = let wrong : Told (told.Refused dm.Disk) ≡ Told (told.Refused dm.Memory) = is in cc wrong
fault_or_memory Commit is = let wrong : Replied (calls.Refused refusal.Disk) ≡ Replied (calls.Refused refusal.Memory) = is in cc wrong

-- each stops a run
undone_at : (why : Stop) (action : Action) → is_undone (stop_answer why action) ≡ true
undone_at stop.Disk (Issue call) = refl
undone_at stop.Disk Resume = refl
undone_at stop.Disk (Dm asked) = refl
undone_at stop.Disk Commit = refl
undone_at stop.Memory (Issue call) = refl
undone_at stop.Memory Resume = refl
undone_at stop.Memory (Dm asked) = refl
undone_at stop.Memory Commit = refl

-- what is done is served
done_served : (given : Answer) → is_undone given ≡ false → StopsNothing given
done_served (Replied (calls.Refused refusal.Disk)) is = let wrong : true ≡ false = is in cc wrong
done_served (Replied (calls.Refused refusal.Memory)) is = let wrong : true ≡ false = is in cc wrong
done_served (Told (told.Refused dm.Disk)) is = let wrong : true ≡ false = is in cc wrong
done_served (Told (told.Refused dm.Memory)) is = let wrong : true ≡ false = is in cc wrong
done_served given is = tt

-- How an event ends a run, by the store alone: its entry says that the disk failed, or the store was closed before; for want of memory there is no entry.
abbrev pub StoreEnds : {D : Type 0} → Stop → Actor → Action → Store D → Store D → Type 0
StoreEnds stop.Disk actor action old new = (new.history ≡ old.history ++ entry_of actor action (fault_of action) ∷ []) × HasClosed old new ⊎ WasClosed old new
StoreEnds stop.Memory actor action old new = (new.history ≡ old.history) × StillWorks old new

module _ {D : Type 0} (g : disk.Ghosts D) where
  pub goes_itself : (s : Store D) → HasGrown g s s
  goes_itself s = record { more = []; history = sym (append-nil s.history); opened = refl; faults = omega arith; tells = λ now. now; quiet = λ works. (works, refl) }

  pub goes_then : (a b c : Store D) → HasGrown g a b → HasGrown g b c → HasGrown g a c
  goes_then a b c first then = record {
    more = first.more ++ then.more;
    history = then.history ∙ ap (λ (h : List Entry). h ++ then.more) first.history ∙ append_assoc a.history first.more then.more;
    opened = then.opened ∙ first.opened;
    faults = omega (arith, first.faults, then.faults);
    tells = λ now. first.tells (then.tells now);
    quiet = λ works. let later = then.quiet works in let before = first.quiet later.0 in (before.0, later.1 ∙ before.1);
  }

  -- what stopped a store that worked till then is all that has failed
  pub stopped_then : (a b c : Store D) (why : Stop) → HasGrown g a b → b.files.failed ≡ false → IsStoppedFor g b c why → IsStoppedFor g a c why
  stopped_then a b c stop.Memory goes working stopped = stopped
  stopped_then a b c stop.Disk goes working stopped = (subst (λ (count : ℕ). RoseByOne count (g.fault_count c.files.disk)) (goes.quiet working).1 stopped.0, stopped.1)

  -- ---- an event

  module _ (old : Store D) (actor : Actor) (action : Action) (given : Answer) (new : Store D) where
    own_is_no_stop : (why : Stop) → given ≡ stop_answer why action → IsDone g old actor action given new → ⊥
    own_is_no_stop why stops done =
        let served : is_undone given ≡ false = seen_done (Tells g new.files.disk) (superblock_of old.opened) (state_of old) actor action given done.answer in
        let wrong : true ≡ false = sym (undone_at why action) ∙ ap is_undone (sym stops) ∙ served in
        cc wrong

    pub event_goes : IsAnswer g old actor action given new → HasGrown g old new
    event_goes (inl closed) = let same = closed.same in record { more = []; history = ap (λ s. s.history) same ∙ sym (append-nil old.history); opened = ap (λ s. s.opened) same; faults = let e = ap (λ s. g.fault_count s.files.disk) same in omega (arith, e); tells = subst (λ (s : Store D). Tells g s.files.disk) same; quiet = λ works. let wrong : true ≡ false = sym closed.failed ∙ sym (ap (λ s. s.files.failed) same) ∙ works in cc wrong }
    event_goes (inr (inl lacks)) = record { more = []; history = lacks.history ∙ sym (append-nil old.history); opened = lacks.goes.opened; faults = lacks.goes.within.faults; tells = lacks.goes.within.tells; quiet = λ works. (lacks.goes.working, lacks.quiet) }
    event_goes (inr (inr (inl failed))) = record { more = entry_of actor action (fault_of action) ∷ []; history = failed.history; opened = failed.goes.opened; faults = failed.goes.within.faults; tells = failed.goes.within.tells; quiet = λ works. let wrong : true ≡ false = sym failed.failed ∙ works in cc wrong }
    event_goes (inr (inr (inr done))) = record { more = entry_of actor action given ∷ []; history = done.history; opened = done.goes.opened; faults = done.goes.within.faults; tells = done.goes.within.tells; quiet = λ works. (done.goes.working, done.quiet) }

    -- what is kept of an event at which the run goes on
    pub event_kept : IsAnswer g old actor action given new → ((why : Stop) → given ≢ stop_answer why action) → new.history ≡ old.history ++ entry_of actor action given ∷ []
    event_kept (inl closed) goes = absurd (goes stop.Disk closed.answer)
    event_kept (inr (inl lacks)) goes = absurd (goes stop.Memory lacks.answer)
    event_kept (inr (inr (inl failed))) goes = absurd (goes stop.Disk failed.answer)
    event_kept (inr (inr (inr done))) goes = done.history

    -- and of any
    pub event_kept_or_not : IsAnswer g old actor action given new → (new.history ≡ old.history) ⊎ (new.history ≡ old.history ++ entry_of actor action given ∷ [])
    event_kept_or_not (inl closed) = inl (ap (λ s. s.history) closed.same)
    event_kept_or_not (inr (inl lacks)) = inl lacks.history
    event_kept_or_not (inr (inr (inl failed))) = inr (failed.history ∙ ap (λ a. old.history ++ entry_of actor action a ∷ []) (sym failed.answer))
    event_kept_or_not (inr (inr (inr done))) = inr done.history

    works_on : IsAnswer g old actor action given new → ((why : Stop) → given ≢ stop_answer why action) → old.files.failed ≡ false → new.files.failed ≡ false
    works_on (inl closed) goes working = absurd (goes stop.Disk closed.answer)
    works_on (inr (inl lacks)) goes working = lacks.still
    works_on (inr (inr (inl failed))) goes working = absurd (goes stop.Disk failed.answer)
    works_on (inr (inr (inr done))) goes working = done.still

    pub stopped_for : (why : Stop) → IsAnswer g old actor action given new → given ≡ stop_answer why action → old.files.failed ≡ false → IsStoppedFor g old new why
    stopped_for why (inl closed) is working = let wrong : true ≡ false = sym closed.failed ∙ working in cc wrong
    stopped_for stop.Memory (inr (inl lacks)) is working = lacks.still
    stopped_for stop.Disk (inr (inl lacks)) is working = absurd (fault_or_memory action (sym is ∙ lacks.answer))
    stopped_for stop.Memory (inr (inr (inl failed))) is working = absurd (fault_or_memory action (sym failed.answer ∙ is))
    stopped_for stop.Disk (inr (inr (inl failed))) is working = (failed.once, ap has_fault failed.history ∙ fault_kept old.history (entry_of actor action (fault_of action)) (fault_is action))
    stopped_for why (inr (inr (inr done))) is working = absurd (own_is_no_stop why is done)

    -- where the run goes on the store works, and did before
    pub event_works : IsAnswer g old actor action given new → ((why : Stop) → given ≢ stop_answer why action) → StillWorks old new
    event_works (inl closed) goes = absurd (goes stop.Disk closed.answer)
    event_works (inr (inl lacks)) goes = absurd (goes stop.Memory lacks.answer)
    event_works (inr (inr (inl failed))) goes = absurd (goes stop.Disk failed.answer)
    event_works (inr (inr (inr done))) goes = (done.goes.working, done.still)

    -- and its answer is no fault and no want of memory
    pub event_served : IsAnswer g old actor action given new → ((why : Stop) → given ≢ stop_answer why action) → StopsNothing given
    event_served (inl closed) goes = absurd (goes stop.Disk closed.answer)
    event_served (inr (inl lacks)) goes = absurd (goes stop.Memory lacks.answer)
    event_served (inr (inr (inl failed))) goes = absurd (goes stop.Disk failed.answer)
    event_served (inr (inr (inr done))) goes = done_served given (seen_done (Tells g new.files.disk) (superblock_of old.opened) (state_of old) actor action given done.answer)

    -- where it doesn't, why
    pub event_ends : (why : Stop) → IsAnswer g old actor action given new → given ≡ stop_answer why action → StoreEnds why actor action old new
    event_ends stop.Disk (inl closed) is = inr (closed.failed, closed.same)
    event_ends stop.Memory (inl closed) is = absurd (fault_or_memory action (sym closed.answer ∙ is))
    event_ends stop.Disk (inr (inl lacks)) is = absurd (fault_or_memory action (sym is ∙ lacks.answer))
    event_ends stop.Memory (inr (inl lacks)) is = (lacks.history, (lacks.goes.working, lacks.still))
    event_ends stop.Disk (inr (inr (inl failed))) is = inl (failed.history, (failed.goes.working, failed.failed))
    event_ends stop.Memory (inr (inr (inl failed))) is = absurd (fault_or_memory action (sym failed.answer ∙ is))
    event_ends why (inr (inr (inr done))) is = absurd (own_is_no_stop why is done)

    pub event_runs : {T : Type 0} (result : Result T Stop) → IsAnswer g old actor action given new → OnOk result ((why : Stop) → given ≢ stop_answer why action) → IfErr result (λ why. given ≡ stop_answer why action) → Runs g result old new
    event_runs (Ok x) answer ok err = record { goes_on = event_goes answer; works = works_on answer ok }
    event_runs (Err why) answer ok err = record { goes_on = event_goes answer; works = stopped_for why answer err }
