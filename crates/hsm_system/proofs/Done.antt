-- What an event comes to that no daemon makes.
use Rattle.std.proofs.Common.{◌≡◌, ◌≢◌, ◌∙◌, ◌+◌, ◌≤◌, ℕ, true, false, Option, Some, None, Result, Ok, Err, OnOk, IfErr, refl, sym, ap, subst}
use Rattle.std.specs.Prelude.{IfSome, IsOk, if◌then◌else◌}
use Rattle.disk_model.specs.declared.device.Disk as disk
use Rattle.hsm_types.specs.declared.calls.CallRefusal.TheVariants as refusal
use Rattle.hsm_types.specs.declared.calls.Call.{Call}
use Rattle.hsm_types.specs.declared.calls.Reply.{Reply}
use Rattle.hsm_types.specs.declared.calls.Reply.TheVariants as calls
use Rattle.hsm_types.specs.declared.dm.DmCall.{DmCall}
use Rattle.hsm_types.specs.declared.dm.DmReply.{DmReply}
use Rattle.hsm_types.specs.declared.dm.DmReply.TheVariants.{Done}
use Rattle.hsm_types.specs.declared.dm.Response.{Response}
use Rattle.hsm_types.specs.declared.dm.Response.TheVariants.{Continue, Abort, Media}
use Rattle.hsm_types.specs.declared.keys.Sid.{Sid}
use Rattle.plain_model.specs.declared.entries.Action.{Action}
use Rattle.plain_model.specs.declared.entries.Action.TheVariants.{Issue, Resume, Dm, Commit}
use Rattle.plain_model.specs.declared.entries.Actor.{Actor}
use Rattle.plain_model.specs.declared.entries.Answer.{Answer}
use Rattle.plain_model.specs.declared.entries.Answer.TheVariants.{Call as Replied, Dm as Told}
use Rattle.plain_model.specs.Ledger.{aborted}
use Rattle.access_park.specs.declared.access.Access.{Access}
use Rattle.dm_service.specs.Services.{entries_for, is_due}
use Rattle.dm_service.specs.Tables.{waiting}
use Rattle.hsm_core.specs.Answers.{IsAnswer}
use Rattle.hsm_core.specs.Crashes.{IsSafeNow}
use Rattle.hsm_core.specs.Outcomes.{is_abort, is_aborted, IfAborted}
use Rattle.hsm_core.specs.Store.{Store, KeepsRoom}
use Rattle.hsm_system.specs.Events.{IsDone, IsSure, IsSafelyDone, action_of, actor_of, room_of}
use Rattle.hsm_system.specs.Stops.{reply_of, call_reply_of, stop_answer, StopsNothing}
use Rattle.hsm_system.specs.Systems.{System}
use Rattle.hsm_system.specs.declared.events.Event.{Event}
use Rattle.hsm_system.specs.declared.events.Event.TheVariants as event
use Rattle.hsm_system.specs.declared.stops.Stop.{Stop}
use Rattle.hsm_system.specs.declared.stops.Stop.TheVariants as stop
use Rattle.hsm_system.proofs.AfterEvents.{event_kept, event_runs}

-- ---- answers at which a run stops

-- a caller's, or the store's own
abbrev pub IsOfCaller : Action → Type 0
IsOfCaller (Dm asked) = ⊥
IsOfCaller action = Unit {0}

caller_stop : (why : Stop) (action : Action) → IsOfCaller action → stop_answer why action ≡ Replied (call_reply_of why)
caller_stop stop.Disk (Issue call) is = refl
caller_stop stop.Disk Resume is = refl
caller_stop stop.Disk Commit is = refl
caller_stop stop.Memory (Issue call) is = refl
caller_stop stop.Memory Resume is = refl
caller_stop stop.Memory Commit is = refl
caller_stop why (Dm asked) is = absurd is

pub session_stop : (why : Stop) (asked : DmCall) → Told (reply_of why) ≡ stop_answer why (Dm asked)
session_stop stop.Disk asked = refl
session_stop stop.Memory asked = refl

replied_goes : (reply : Reply) (action : Action) → IsOfCaller action → (reply ≢ calls.Refused refusal.Memory) × (reply ≢ calls.Refused refusal.Disk) → (why : Stop) → Replied reply ≢ stop_answer why action
replied_goes reply action of goes stop.Disk is = let wrong : Replied reply ≡ Replied (calls.Refused refusal.Disk) = is ∙ caller_stop stop.Disk action of in goes.1 (let same : reply ≡ calls.Refused refusal.Disk = cc wrong in same)
replied_goes reply action of goes stop.Memory is = let wrong : Replied reply ≡ Replied (calls.Refused refusal.Memory) = is ∙ caller_stop stop.Memory action of in goes.0 (let same : reply ≡ calls.Refused refusal.Memory = cc wrong in same)

told_goes : (reply : DmReply) (asked : DmCall) → StopsNothing reply → (why : Stop) → Told reply ≢ stop_answer why (Dm asked)
told_goes reply asked served why is = let wrong : Told reply ≡ Told (reply_of why) = is ∙ sym (session_stop why asked) in served why (let same : reply ≡ reply_of why = cc wrong in same)

-- ---- an event

module _ {D : Type 0} (g : disk.Ghosts D) (here old : System D) (same : here ≡ old) (store : Store D) (actor : Actor) where
  module _ (action : Action) (given : Answer) (answers : IsAnswer g here.store actor action given store) where
    goes_on : ((why : Stop) → given ≢ stop_answer why action) → IsDone g {T = Unit {0}} actor action (Ok tt) old (record here { store = store })
    goes_on goes = subst (λ (s : System D). IsDone g {T = Unit {0}} actor action (Ok tt) s (record here { store = store })) same
        (record { given = given; answer = answers; rest = refl; goes = goes; stops = tt; kept = event_kept g here.store actor action given store answers goes; runs = event_runs g here.store actor action given store (Ok tt) answers goes tt })

    stopped : (why : Stop) → given ≡ stop_answer why action → IsDone g {T = Unit {0}} actor action (Err why) old (record here { store = store })
    stopped why is = subst (λ (s : System D). IsDone g {T = Unit {0}} actor action (Err why) s (record here { store = store })) same
        (record { given = given; answer = answers; rest = refl; goes = tt; stops = is; kept = tt; runs = event_runs g here.store actor action given store (Err why) answers tt is })

  -- it was answered as a caller is
  pub replied : (action : Action) (reply : Reply) → IsOfCaller action → IsAnswer g here.store actor action (Replied reply) store → (result : Result (Unit {0}) Stop)
      → OnOk result ((reply ≢ calls.Refused refusal.Memory) × (reply ≢ calls.Refused refusal.Disk)) → IfErr result (λ why. reply ≡ call_reply_of why) → IsDone g actor action result old (record here { store = store })
  replied action reply of answers (Ok tt) ok err = goes_on action (Replied reply) answers (replied_goes reply action of ok)
  replied action reply of answers (Err why) ok err = stopped action (Replied reply) answers why (ap (λ (r : Reply). Replied r) err ∙ sym (caller_stop why action of))

  -- or as a session is
  pub told : (asked : DmCall) (reply : DmReply) → IsAnswer g here.store actor (Dm asked) (Told reply) store → (result : Result (Unit {0}) Stop)
      → OnOk result (StopsNothing reply) → IfErr result (λ why. reply ≡ reply_of why) → IsDone g actor (Dm asked) result old (record here { store = store })
  told asked reply answers (Ok tt) ok err = goes_on (Dm asked) (Told reply) answers (told_goes reply asked ok)
  told asked reply answers (Err why) ok err = stopped (Dm asked) (Told reply) answers why (ap (λ (r : DmReply). Told r) err ∙ session_stop why asked)

-- ---- what an event keeps

-- the resume of an access that was aborted is answered
no_stop : (answer : Option Response) (reply : Reply) (why : Stop) → is_abort answer ≡ true → IfSome (aborted answer) (λ told. reply ≡ calls.Refused told) → reply ≡ call_reply_of why → IsOk {T = Unit {0}} {E = Stop} (Err why)
no_stop None reply why is tells stopped = cc is
no_stop (Some Continue) reply why is tells stopped = cc is
no_stop (Some (Abort error)) reply stop.Disk is tells stopped = let wrong : calls.Refused (refusal.Aborted error) ≡ calls.Refused refusal.Disk = sym tells ∙ stopped in cc wrong
no_stop (Some (Abort error)) reply stop.Memory is tells stopped = let wrong : calls.Refused (refusal.Aborted error) ≡ calls.Refused refusal.Memory = sym tells ∙ stopped in cc wrong
no_stop (Some (Media fault)) reply stop.Disk is tells stopped = let wrong : calls.Refused (refusal.Media fault) ≡ calls.Refused refusal.Disk = sym tells ∙ stopped in cc wrong
no_stop (Some (Media fault)) reply stop.Memory is tells stopped = let wrong : calls.Refused (refusal.Media fault) ≡ calls.Refused refusal.Memory = sym tells ∙ stopped in cc wrong

resume_sure : (waits : Option Access) (reply : Reply) (result : Result (Unit {0}) Stop) → is_aborted waits ≡ true → IfAborted waits (λ why. reply ≡ calls.Refused why) → IfErr result (λ why. reply ≡ call_reply_of why) → IsOk result
resume_sure None reply result is tells stopped = cc is
resume_sure (Some a) reply (Ok tt) is tells stopped = refl
resume_sure (Some a) reply (Err why) is tells stopped = no_stop a.answer reply why is tells stopped

-- and so is a response that is due
done_sure : (reply : DmReply) (result : Result (Unit {0}) Stop) → reply ≡ Done → IfErr result (λ why. reply ≡ reply_of why) → IsOk result
done_sure reply (Ok tt) is stopped = refl
done_sure reply (Err stop.Disk) is stopped = let wrong : Done ≡ reply_of stop.Disk = sym is ∙ stopped in cc wrong
done_sure reply (Err stop.Memory) is stopped = let wrong : Done ≡ reply_of stop.Memory = sym is ∙ stopped in cc wrong

module _ {D : Type 0} (g : disk.Ghosts D) (here old : System D) (same : here ≡ old) (new : Store D) (result : Result (Unit {0}) Stop) (safe : IsSafeNow g new) (keeps : KeepsRoom here.store new) where
  kept : (asked : Event) → (IsSure asked here.store → here.store.files.failed ≡ false → IsOk result) → here.store.spare ≤ new.spare + room_of asked here.store → IsSafelyDone g asked result old.store new
  kept asked sure room = subst (λ (s : System D). IsSafelyDone g asked result s.store new) same (record { sure = sure; safe = safe; room = room; keeps = keeps })

  pub issue_keeps : (caller : ℕ) (call : Call) → here.store.spare ≤ new.spare + 3 → IsSafelyDone g (event.Issue caller call) result old.store new
  issue_keeps caller call room = kept (event.Issue caller call) (λ is working. absurd is) room

  pub resume_keeps : (caller : ℕ) (reply : Reply) → here.store.spare ≤ new.spare + (if is_aborted (waiting here.store.tables caller) then 0 else 2)
      → (here.store.files.failed ≡ false → IfAborted (waiting here.store.tables caller) (λ why. reply ≡ calls.Refused why)) → IfErr result (λ why. reply ≡ call_reply_of why) → IsSafelyDone g (event.Resume caller) result old.store new
  resume_keeps caller reply room aborts stopped = kept (event.Resume caller) (λ is working. resume_sure (waiting here.store.tables caller) reply result is (aborts working) stopped) room

  pub dm_keeps : (sid : Sid) (call : DmCall) (reply : DmReply) → here.store.spare ≤ new.spare + entries_for here.store.tables.sessions sid call
      → (is_due here.store.tables.sessions sid call ≡ true → here.store.files.failed ≡ false → reply ≡ Done) → IfErr result (λ why. reply ≡ reply_of why) → IsSafelyDone g (event.Dm sid call) result old.store new
  dm_keeps sid call reply room responds stopped = kept (event.Dm sid call) (λ is working. done_sure reply result (responds is working) stopped) room

  pub commit_keeps : here.store.spare ≤ new.spare + 1 → IsSafelyDone g event.Commit result old.store new
  commit_keeps room = kept event.Commit (λ is working. absurd is) room
