-- What lies under the lock of a shared store, one event more.
use Rattle.std.proofs.Common.{◌≡◌, ◌∙◌, ◌∷◌, ◌++◌, [], Bool, true, false, Option, Some, inl, inr, refl, sym, ap, subst}
use Rattle.std.specs.Prelude.{◌⊎◌, All}
use Rattle.std.proofs.lemmas.List.Elements.{All-append, All-from_recursion}
use Rattle.disk_model.specs.declared.device.Disk as disk
use Rattle.plain_model.specs.Faults.{has_fault}
use Rattle.plain_model.specs.declared.entries.Action.{Action}
use Rattle.plain_model.specs.declared.entries.Actor.{Actor}
use Rattle.plain_model.specs.declared.entries.Answer.{Answer}
use Rattle.plain_model.specs.declared.entries.Entry.{Entry}
use Rattle.file_store.specs.Stores.{Store as FileStore}
use Rattle.hsm_core.specs.Answers.{IsAnswer, entry_of, memory_of}
use Rattle.hsm_core.specs.Crashes.{IsSafeNow}
use Rattle.hsm_core.specs.Kept.{IsKept}
use Rattle.hsm_core.specs.Store.{Store}
use Rattle.hsm_system.proofs.AfterEvents.{event_goes, event_kept_or_not}
use Rattle.hsm_threads.specs.Happens.{IsEvent, IsHeld, IsShared, MayLack}

abbrev IsOwn : Entry → Type 0
IsOwn e = IsShared e.actor e.action

-- a store that has done nothing works
pub first_works : {D : Type 0} (g : disk.Ghosts D) (s : Store D) → IsKept g s → s.history ≡ [] → s.files.failed ≡ false
first_works g s kept empty = by s.files.failed refl
  where
    by : (b : Bool) → s.files.failed ≡ b → b ≡ false
    by false is = refl
    by true is = let wrong : true ≡ false = sym (kept.failure.told is) ∙ ap has_fault empty in cc wrong

module _ {D : Type 0} (opened_as : Option (FileStore D)) where
  pub held_first : (s : Store D) → opened_as ≡ Some s.opened → s.history ≡ [] → IsHeld opened_as s
  held_first s named empty = record { opened = named; own = subst (All IsOwn) (sym empty) (All-from_recursion IsOwn [] tt) }

  module _ (g : disk.Ghosts D) (actor : Actor) (asked : Action) (shared : IsShared actor asked) (given : Answer) (old new : Store D) (held : IsHeld opened_as old) where
    owned : (new.history ≡ old.history) ⊎ (new.history ≡ old.history ++ entry_of actor asked given ∷ []) → All IsOwn new.history
    owned (inl same) = subst (All IsOwn) (sym same) held.own
    owned (inr more) = subst (All IsOwn) (sym more) (All-append IsOwn old.history (entry_of actor asked given ∷ []) held.own (All-from_recursion IsOwn (entry_of actor asked given ∷ []) (shared, tt)))

    pub held_more : IsAnswer g old actor asked given new → IsHeld opened_as new
    held_more answers = record { opened = held.opened ∙ ap Some (sym (event_goes g old actor asked given new answers).opened); own = owned (event_kept_or_not g old actor asked given new answers) }

    pub event_made : IsKept g old → IsAnswer g old actor asked given new → (given ≡ memory_of asked → MayLack actor asked old) → IsKept g new → IsSafeNow g new → IsEvent g opened_as actor asked given old new
    event_made was_kept answers sure kept safe = record { before = held; was_kept = was_kept; answers = answers; sure = sure; held = held_more answers; kept = kept; safe = safe }
