-- A commit that was done has made all durable.
use Rattle.std.proofs.Common.{◌≡◌, ◌≢◌, ◌∙◌, ◌+◌, ◌++◌, ◌∷◌, [], ℕ, Bool, true, length, Result, Ok, Err, OnOk, inl, inr, sym, ap, ap₂}
use Rattle.std.specs.Prelude.{if◌then◌else◌}
use Rattle.disk_model.specs.declared.device.Disk as disk
use Rattle.hsm_types.specs.declared.calls.Reply.TheVariants.{Done}
use Rattle.plain_model.specs.State.{State}
use Rattle.plain_model.specs.Synced.{is_sync, synced}
use Rattle.plain_model.specs.declared.entries.Action.TheVariants.{Commit}
use Rattle.plain_model.specs.declared.entries.Actor.TheVariants.{Store as TheStore}
use Rattle.plain_model.specs.declared.entries.Answer.{Answer}
use Rattle.plain_model.specs.declared.entries.Answer.TheVariants.{Call as Replied}
use Rattle.plain_model.specs.declared.entries.Entry.{Entry}
use Rattle.plain_model.proofs.Syncing.{synced_laws}
use Rattle.file_store.specs.Stores.{Store as FileStore}
use Rattle.hsm_core.specs.Answers.{IsAnswer, entry_of}
use Rattle.hsm_core.specs.Store.{Store}
use Rattle.hsm_system.specs.Events.{IsDone}
use Rattle.hsm_system.specs.Stops.{stop_answer}
use Rattle.hsm_system.specs.Systems.{System}
use Rattle.hsm_system.specs.declared.stops.Stop.{Stop}
use Rattle.hsm_system.specs.declared.stops.Stop.TheVariants as stop
use Rattle.hsm_replay.specs.Running.{IsAllDurable}

module _ {D : Type 0} (g : disk.Ghosts D) where
  all_durable : (old new : Store D) (given : Answer) → IsAnswer g old TheStore Commit given new → ((why : Stop) → given ≢ stop_answer why Commit) → IsAllDurable new
  all_durable old new given (inl closed) goes = absurd (goes stop.Disk closed.answer)
  all_durable old new given (inr (inl lacks)) goes = absurd (goes stop.Memory lacks.answer)
  all_durable old new given (inr (inr (inl failed))) goes = absurd (goes stop.Disk failed.answer)
  all_durable old new given (inr (inr (inr done))) goes =
      let entry : Entry = entry_of TheStore Commit given in
      let own : given ≡ Replied Done = done.answer.2.1 in
      let syncs : is_sync entry ≡ true = ap (λ (a : Answer). is_sync (entry_of TheStore Commit a)) own in
      let numbered : synced (old.history ++ entry ∷ []) ≡ length old.history = (synced_laws old.history).more entry ∙ ap (λ (b : Bool). if b then length old.history else synced old.history) syncs in
      let made = done.synced syncs in
      record {
        held = made.durable ∙ sym (ap (λ (s : State). s.held) done.leaves);
        number = made.number ∙ sym (ap₂ (λ (m n : ℕ). m + n) (ap (λ (s : FileStore D). s.meta.number) done.goes.opened)
            (ap synced done.history ∙ numbered));
      }

  pub commit_durable : (old new : System D) (result : Result (Unit {0}) Stop) → IsDone g TheStore Commit result old new → OnOk result (IsAllDurable new.store)
  commit_durable old new (Ok tt) done = all_durable old.store new.store done.given done.answer done.goes
  commit_durable old new (Err why) done = tt
