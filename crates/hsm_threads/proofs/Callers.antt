-- What comes of a caller's step, case by case.
use Rattle.std.proofs.Common.{◌≡◌, ◌∷◌, ◌∙◌, [], ℕ, true, false, List, Option, Some, None, Result, refl, sym, ap, subst}
use Rattle.std.specs.Prelude.{is_some}
use Rattle.disk_model.specs.declared.device.Disk as disk
use Rattle.hsm_types.specs.declared.calls.Call.{Call}
use Rattle.hsm_core.specs.Ready.{ready}
use Rattle.hsm_core.specs.declared.store.Ready.{Ready}
use Rattle.hsm_core.specs.declared.store.Ready.TheVariants.{Idle, Now, Waits}
use Rattle.deeds.specs.Deeds.{NamesNoFault}
use Rattle.call_lists.specs.Lines.{left_of}
use Rattle.hsm_system.specs.Events.{IsDone, IsSafelyDone, action_of, actor_of}
use Rattle.hsm_system.specs.Systems.{System}
use Rattle.hsm_system.specs.declared.events.Event.{Event}
use Rattle.hsm_system.specs.declared.events.Event.TheVariants as event
use Rattle.hsm_system.specs.declared.stops.Stop.{Stop}
use Rattle.hsm_threads.specs.Lots.{Issues, IssuesBy, Lot, Makes, Resumes, ResumesBy, TellsNext, next_by}
use Rattle.hsm_threads.specs.Steps.{stop_of}
use Rattle.hsm_threads.specs.declared.run.Next.{Next}
use Rattle.hsm_threads.specs.declared.run.Next.TheVariants as next
use Rattle.hsm_threads.proofs.RunDeeds.{event_deeds, no_stop}

module _ {D : Type 0} (g : disk.Ghosts D) where
  pub makes : (made : Event) → NamesNoFault (action_of made) → (result : Result (Unit {0}) Stop) (old new : Lot D) → old.system.store.files.failed ≡ false → IsDone g (actor_of made) (action_of made) result old.system new.system
      → IsSafelyDone g made result old.system.store new.system.store → new.stop ≡ stop_of result → Makes g made old new
  makes made none result old new works done keeps stop =
      record { result = result; done = done; keeps = keeps; deeds = event_deeds g (actor_of made) (action_of made) none old.system new.system works result done; stop = stop }

  module _ (c : ℕ) (came : Next) (old new : Lot D) where
    abbrev IssuesAt : Option Stop → Ready → List Call → Type 0
    IssuesAt = IssuesBy g c came old new

    abbrev ResumesAt : Option Stop → Ready → Type 0
    ResumesAt = ResumesBy g c came old new

    -- ---- the run has stopped

    issues_stopped_at : (stop : Option Stop) (waits : Ready) (calls : List Call) → is_some stop ≡ true → came ≡ next.Ended → new ≡ old → IssuesAt stop waits calls
    issues_stopped_at None waits calls is told same = let wrong : false ≡ true = is in cc wrong
    issues_stopped_at (Some why) waits calls is told same = (told, same)

    pub issues_stopped : is_some old.stop ≡ true → came ≡ next.Ended → new ≡ old → Issues g c came old new
    issues_stopped = issues_stopped_at old.stop (ready old.system.store c) (left_of old.lists c)

    resumes_stopped_at : (stop : Option Stop) (waits : Ready) → is_some stop ≡ true → came ≡ next.Ended → new ≡ old → ResumesAt stop waits
    resumes_stopped_at None waits is told same = let wrong : false ≡ true = is in cc wrong
    resumes_stopped_at (Some why) waits is told same = (told, same)

    pub resumes_stopped : is_some old.stop ≡ true → came ≡ next.Ended → new ≡ old → Resumes g c came old new
    resumes_stopped = resumes_stopped_at old.stop (ready old.system.store c)

    -- ---- an access waits

    issues_waiting_at : (stop : Option Stop) (waits : Ready) (calls : List Call) → stop ≡ None → (waits ≡ Idle → ⊥) → came ≡ next.Waits → new ≡ old → IssuesAt stop waits calls
    issues_waiting_at (Some why) waits calls is busy told same = let wrong : Some why ≡ None = is in cc wrong
    issues_waiting_at None Idle calls is busy told same = absurd (busy refl)
    issues_waiting_at None Now calls is busy told same = (told, same)
    issues_waiting_at None (Waits t) calls is busy told same = (told, same)

    pub issues_waiting : is_some old.stop ≡ false → (ready old.system.store c ≡ Idle → ⊥) → came ≡ next.Waits → new ≡ old → Issues g c came old new
    issues_waiting on = issues_waiting_at old.stop (ready old.system.store c) (left_of old.lists c) (no_stop old.stop on)

    resumes_waiting_at : (stop : Option Stop) (waits : Ready) → stop ≡ None → (waits ≡ Now → ⊥) → came ≡ next_by None waits → new ≡ old → ResumesAt stop waits
    resumes_waiting_at (Some why) waits is may told same = let wrong : Some why ≡ None = is in cc wrong
    resumes_waiting_at None Idle is may told same = (told, same)
    resumes_waiting_at None Now is may told same = absurd (may refl)
    resumes_waiting_at None (Waits t) is may told same = (told, same)

    pub resumes_waiting : is_some old.stop ≡ false → (ready old.system.store c ≡ Now → ⊥) → came ≡ next_by old.stop (ready old.system.store c) → new ≡ old → Resumes g c came old new
    resumes_waiting on may told same =
        let is = no_stop old.stop on in resumes_waiting_at old.stop (ready old.system.store c) is may (told ∙ ap (λ (s : Option Stop). next_by s (ready old.system.store c)) is) same

    -- ---- the run goes on, and no access waits

    module _ (on : is_some old.stop ≡ false) (idle : ready old.system.store c ≡ Idle) where
      at_idle : (calls : List Call) → left_of old.lists c ≡ calls → IssuesAt None Idle calls → Issues g c came old new
      at_idle calls left issues =
          subst (λ (s : Option Stop). IssuesAt s (ready old.system.store c) (left_of old.lists c)) (sym (no_stop old.stop on))
          (subst (λ (r : Ready). IssuesAt None r (left_of old.lists c)) (sym idle) (subst (λ (cs : List Call). IssuesAt None Idle cs) (sym left) issues))

      pub issues_none : left_of old.lists c ≡ [] → left_of new.lists c ≡ [] → came ≡ next.Ended → new.system ≡ old.system → new.stop ≡ old.stop → Issues g c came old new
      issues_none none left told same stop = at_idle [] none (told, same, left, stop ∙ no_stop old.stop on)

      pub issues_one : (call : Call) → left_of old.lists c ≡ call ∷ left_of new.lists c → Makes g (event.Issue c call) old new → TellsNext g c came old new → Issues g c came old new
      issues_one call taken made told = at_idle (call ∷ left_of new.lists c) taken (refl, made, told)

    -- ---- its access may go on

    pub resumes_now : is_some old.stop ≡ false → ready old.system.store c ≡ Now → Makes g (event.Resume c) old new → new.lists ≡ old.lists → TellsNext g c came old new → Resumes g c came old new
    resumes_now on may made same told =
        subst (λ (s : Option Stop). ResumesAt s (ready old.system.store c)) (sym (no_stop old.stop on)) (subst (λ (r : Ready). ResumesAt None r) (sym may) (made, same, told))
