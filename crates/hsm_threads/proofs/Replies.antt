-- The replies to one call, one more.
use Rattle.std.proofs.Common.{◌≡◌, ◌∷◌, ◌∙◌, [], ℕ, List, Option, subst}
use mathlib.Core.List.{IsPrefix}
use Rattle.disk_model.specs.declared.device.Disk as disk
use Rattle.hsm_types.specs.declared.calls.Call.{Call}
use Rattle.hsm_types.specs.declared.calls.Reply.{Reply}
use Rattle.plain_model.specs.declared.entries.Action.{Action}
use Rattle.plain_model.specs.declared.entries.Action.TheVariants as action
use Rattle.plain_model.specs.declared.entries.Actor.TheVariants.{Caller}
use Rattle.plain_model.specs.declared.entries.Answer.TheVariants as answer
use Rattle.file_store.specs.Stores.{Store as FileStore}
use Rattle.hsm_core.specs.Ready.{ready}
use Rattle.hsm_core.specs.Store.{Store}
use Rattle.hsm_core.specs.declared.store.Ready.TheVariants.{Now}
use Rattle.call_seats.specs.Passes.{Knowledge}
use Rattle.call_seats.proofs.Beginnings.{prefix_trans}
use Rattle.hsm_threads.specs.Published.{Happens, Publishes}
use Rattle.hsm_threads.specs.Shares.{AreReplies, EndsCall, HasEnded, IsToldThen, Told}

-- an event of the caller that has that number
pub happened : {D : Type 0} (g : disk.Ghosts D) (opened_as : Option (FileStore D)) (caller c : ℕ) → caller ≡ c → (asked : Action) (reply : Reply) (p q : Knowledge) (old new : Store D) → Publishes g opened_as (Caller caller) asked (answer.Call reply) p q old new
    → Happens g opened_as (Caller c) asked (answer.Call reply) p q
happened g opened_as caller c same asked reply p q old new done = subst (λ (n : ℕ). Happens g opened_as (Caller n) asked (answer.Call reply) p q) same (old, new, done)

module _ {D : Type 0} (g : disk.Ghosts D) (opened_as : Option (FileStore D)) (c : ℕ) (call : Call) (p : Knowledge) where
  -- a call that came to this reply, and may go on
  pub record CameTo (t : Told) : Type 0 where
    pub before : List Told
    pub replies : AreReplies g opened_as c call p (t ∷ before)
    pub begins : IsPrefix p.seen t.pass.seen
    pub number : t.pass.number ≡ p.number
    pub at : t.pass.table ≡ p.table

  pub first_reply : (caller : ℕ) → caller ≡ c → (t : Told) (old new : Store D) → Publishes g opened_as (Caller caller) (action.Issue call) (answer.Call t.reply) p t.pass old new → CameTo t
  first_reply caller same t old new done = record {
    before = [];
    replies = happened g opened_as caller c same (action.Issue call) t.reply p t.pass old new done;
    begins = done.begins;
    number = done.number;
    at = done.at;
  }

  pub next_reply : (caller : ℕ) → caller ≡ c → (last t : Told) (old new : Store D) → (HasEnded last.reply → ⊥) → ready old caller ≡ Now → Publishes g opened_as (Caller caller) action.Resume (answer.Call t.reply) last.pass t.pass old new → CameTo last → CameTo t
  next_reply caller same last t old new waits now done so_far = record {
    before = last ∷ so_far.before;
    replies = (subst (λ (n : ℕ). IsToldThen g opened_as n last.pass t) same (old, new, done, now), waits, so_far.replies);
    begins = prefix_trans p.seen last.pass.seen t.pass.seen so_far.begins done.begins;
    number = done.number ∙ so_far.number;
    at = done.at ∙ so_far.at;
  }

  pub ends_call : (t : Told) → CameTo t → HasEnded t.reply → EndsCall g opened_as c call p t.reply t.pass
  ends_call t came ended = record { ended = ended; before = came.before; replies = came.replies; begins = came.begins; number = came.number; at = came.at }
