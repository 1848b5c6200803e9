-- Where memory is wanting for an event of the store, it may be.
use Rattle.std.proofs.Common.{◌≡◌, ◌≤◌, ◌∙◌, ℕ, zero, suc, Bool, true, false, Option, Some, None, refl, sym, ap, arith}
use Rattle.disk_model.specs.declared.device.Disk as disk
use Rattle.hsm_types.specs.declared.calls.CallRefusal.TheVariants as refusal
use Rattle.hsm_types.specs.declared.calls.Reply.{Reply}
use Rattle.hsm_types.specs.declared.calls.Reply.TheVariants as calls
use Rattle.hsm_types.specs.declared.dm.DmCall.{DmCall}
use Rattle.hsm_types.specs.declared.dm.DmRefusal.TheVariants as dm
use Rattle.hsm_types.specs.declared.dm.DmReply.{DmReply}
use Rattle.hsm_types.specs.declared.dm.DmReply.TheVariants as told
use Rattle.hsm_types.specs.declared.dm.Response.{Response}
use Rattle.hsm_types.specs.declared.dm.Response.TheVariants.{Continue, Abort, Media}
use Rattle.hsm_types.specs.declared.keys.Sid.{Sid}
use Rattle.plain_model.specs.Ledger.{aborted}
use Rattle.plain_model.specs.declared.entries.Action.{Action}
use Rattle.plain_model.specs.declared.entries.Action.TheVariants.{Resume, Dm}
use Rattle.plain_model.specs.declared.entries.Actor.{Actor}
use Rattle.plain_model.specs.declared.entries.Actor.TheVariants.{Caller, Session}
use Rattle.plain_model.specs.declared.entries.Answer.{Answer}
use Rattle.plain_model.specs.declared.entries.Answer.TheVariants.{Call as Replied, Dm as Told}
use Rattle.plain_model.proofs.Faultless.{is_undone, own_done}
use Rattle.access_park.specs.declared.access.Access.{Access}
use Rattle.dm_service.specs.Services.{is_due, wants_entry_alone}
use Rattle.dm_service.specs.Tables.{waiting}
use Rattle.file_store.specs.Stores.{superblock_of}
use Rattle.hsm_core.specs.Answers.{IsAnswer, memory_of, own_answer}
use Rattle.hsm_core.specs.Outcomes.{IfAborted, is_abort, is_aborted}
use Rattle.hsm_core.specs.Store.{Store, state_of}
use Rattle.hsm_system.specs.declared.stops.Stop.TheVariants.{Memory}
use Rattle.hsm_system.proofs.AfterEvents.{event_ends}
use Rattle.hsm_threads.specs.Happens.{MayLack}
use Rattle.std.specs.Prelude.{IfSome}

-- ---- by its reply

-- a response that is due is answered
not_due : (due : Bool) (reply : DmReply) → Told reply ≡ Told (told.Refused dm.Memory) → (due ≡ true → reply ≡ told.Done) → due ≡ false
not_due false reply lacks responds = refl
not_due true reply lacks responds = let wrong : Told told.Done ≡ Told (told.Refused dm.Memory) = sym (ap (λ (r : DmReply). Told r) (responds refl)) ∙ lacks in cc wrong

no_room : (spare : ℕ) → (1 ≤ spare → ⊥) → spare ≡ 0
no_room zero none = refl
no_room (suc n) none = absurd (none (omega arith))

-- and so is the resume of an access that was aborted
not_abort : (response : Option Response) (reply : Reply) → Replied reply ≡ Replied (calls.Refused refusal.Memory) → IfSome (aborted response) (λ why. reply ≡ calls.Refused why) → is_abort response ≡ false
not_abort None reply lacks aborts = refl
not_abort (Some Continue) reply lacks aborts = refl
not_abort (Some (Abort error)) reply lacks aborts =
    let wrong : Replied (calls.Refused (refusal.Aborted error)) ≡ Replied (calls.Refused refusal.Memory) = sym (ap (λ (r : Reply). Replied r) aborts) ∙ lacks in cc wrong
not_abort (Some (Media fault)) reply lacks aborts =
    let wrong : Replied (calls.Refused (refusal.Media fault)) ≡ Replied (calls.Refused refusal.Memory) = sym (ap (λ (r : Reply). Replied r) aborts) ∙ lacks in cc wrong

not_aborted : (waits : Option Access) (reply : Reply) → Replied reply ≡ Replied (calls.Refused refusal.Memory) → IfAborted waits (λ why. reply ≡ calls.Refused why) → is_aborted waits ≡ false
not_aborted None reply lacks aborts = refl
not_aborted (Some a) reply lacks aborts = not_abort a.answer reply lacks aborts

-- ---- by the event

module _ {D : Type 0} (g : disk.Ghosts D) (old new : Store D) where
  -- the store worked
  worked : (actor : Actor) (asked : Action) (given : Answer) → IsAnswer g old actor asked given new → given ≡ memory_of asked → old.files.failed ≡ false
  worked actor asked given answers lacks = (event_ends g old actor asked given new Memory answers lacks).1.0

  pub resume_lacks : (c : ℕ) (reply : Reply) → IsAnswer g old (Caller c) Resume (Replied reply) new → (old.files.failed ≡ false → IfAborted (waiting old.tables c) (λ why. reply ≡ calls.Refused why))
      → Replied reply ≡ memory_of Resume → MayLack (Caller c) Resume old
  resume_lacks c reply answers aborts lacks = not_aborted (waiting old.tables c) reply lacks (aborts (worked (Caller c) Resume (Replied reply) answers lacks))

  module _ (sid : Sid) (call : DmCall) (reply : DmReply) where
    -- its own answer isn't for want of memory
    not_own : Told reply ≡ Told (told.Refused dm.Memory) → Told reply ≡ own_answer old (Session sid) (Dm call) → ⊥
    not_own lacks own =
        let wrong : true ≡ false = sym (ap is_undone lacks) ∙ own_done (superblock_of old.opened) (state_of old) (Session sid) (Dm call) (Told reply) (tt, own) in cc wrong

    pub dm_lacks : IsAnswer g old (Session sid) (Dm call) (Told reply) new → (is_due old.tables.sessions sid call ≡ true → old.files.failed ≡ false → reply ≡ told.Done)
        → (wants_entry_alone call ≡ true → 1 ≤ old.spare → old.files.failed ≡ false → Told reply ≡ own_answer old (Session sid) (Dm call)) → Told reply ≡ memory_of (Dm call) → MayLack (Session sid) (Dm call) old
    dm_lacks answers responds spared lacks =
        let works = worked (Session sid) (Dm call) (Told reply) answers lacks in
        (not_due (is_due old.tables.sessions sid call) reply lacks (λ due. responds due works), λ alone. no_room old.spare (λ room. not_own lacks (spared alone room works)))
