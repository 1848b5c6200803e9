-- What callers of a shared store are told.
use Rattle.std.specs.Prelude.{ℕ, ◌≡◌, List, [], ◌∷◌, Option}
use mathlib.Core.List.{IsPrefix}
use Rattle.disk_model.specs.declared.device.Disk as disk
use Rattle.hsm_types.specs.declared.calls.Call.{Call}
use Rattle.hsm_types.specs.declared.calls.Reply.{Reply}
use Rattle.hsm_types.specs.declared.calls.Reply.TheVariants.{Parked, Blocked, Still}
use Rattle.plain_model.specs.declared.entries.Action.{Action}
use Rattle.plain_model.specs.declared.entries.Action.TheVariants as action
use Rattle.plain_model.specs.declared.entries.Actor.TheVariants.{Caller}
use Rattle.plain_model.specs.declared.entries.Answer.TheVariants as answer
use Rattle.call_seats.specs.Passes.{Knowledge}
use Rattle.file_store.specs.Stores.{Store as FileStore}
use Rattle.hsm_core.specs.Ready.{ready}
use Rattle.hsm_core.specs.Store.{Store}
use Rattle.hsm_core.specs.declared.store.Ready.TheVariants.{Now}
use Rattle.hsm_threads.specs.Published.{Happens, Publishes}
use Rattle.hsm_threads.specs.declared.shared.Step.{Step}
use Rattle.hsm_threads.specs.declared.shared.Step.TheVariants as step

-- ---- replies

abbrev pub action_of : Step → Action
action_of (step.Issue call) = action.Issue call
action_of step.Resume = action.Resume

-- It doesn't tell that the access waits. It has come to its end, unless memory was wanting for the resume, or the store is closed.
abbrev pub HasEnded : Reply → Type 0
HasEnded (Parked token) = ⊥
HasEnded (Blocked token) = ⊥
HasEnded (Still token) = ⊥
HasEnded reply = Unit {0}

-- a reply, and the pass that came with it
pub record Told : Type 0 where
  pub reply : Reply
  pub pass : Knowledge

module _ {D : Type 0} (g : disk.Ghosts D) (opened_as : Option (FileStore D)) (c : ℕ) where
  -- the caller was told so by its resume, where its access might go on
  abbrev pub IsToldThen : Knowledge → Told → Type 0
  IsToldThen p t = (old : Store D) × (new : Store D) × Publishes g opened_as (Caller c) action.Resume (answer.Call t.reply) p t.pass old new × (ready old c ≡ Now)

  -- The replies to a call that was begun with that pass, the last one first: that to its issue, and one to a resume behind each that tells of waiting.
  abbrev pub AreReplies : Call → Knowledge → List Told → Type 0
  AreReplies call p [] = ⊥
  AreReplies call p (t ∷ []) = Happens g opened_as (Caller c) (action.Issue call) (answer.Call t.reply) p t.pass
  AreReplies call p (t ∷ (last ∷ more)) = IsToldThen last.pass t × (HasEnded last.reply → ⊥) × AreReplies call p (last ∷ more)

  -- The call ends with the first that doesn't. What the pass had seen before the call begins what it has seen then.
  pub record EndsCall (call : Call) (p : Knowledge) (reply : Reply) (q : Knowledge) : Type 0 where
    pub ended : HasEnded reply
    pub before : List Told
    pub replies : AreReplies call p (record { reply = reply; pass = q } ∷ before)
    pub begins : IsPrefix p.seen q.seen
    pub number : q.number ≡ p.number
    pub at : q.table ≡ p.table
