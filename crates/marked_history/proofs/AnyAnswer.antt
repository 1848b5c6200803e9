-- What an event leaves of the sessions, whatever the answer to it.
use Rattle.std.proofs.Common.{◌≡◌, ℕ, Bool, true, false, Option, None, Some, refl}
use Rattle.std.specs.Prelude.{if◌then◌else◌}
use Rattle.hsm_types.specs.Sessions.{SessionTable}
use Rattle.hsm_types.specs.declared.calls.Reply.{Reply}
use Rattle.hsm_types.specs.declared.dm.DmCall.{DmCall}
use Rattle.hsm_types.specs.declared.dm.DmRefusal.{DmRefusal}
use Rattle.hsm_types.specs.declared.dm.DmReply.{DmReply}
use Rattle.hsm_types.specs.declared.dm.DmReply.TheVariants.{Refused}
use Rattle.hsm_types.specs.declared.keys.Sid.{Sid}
use Rattle.hsm_types.specs.declared.stores.Superblock.{Superblock}
use Rattle.plain_model.specs.declared.entries.Action.{Action}
use Rattle.plain_model.specs.declared.entries.Action.TheVariants.{Issue, Resume, Dm}
use Rattle.plain_model.specs.declared.entries.Actor.{Actor}
use Rattle.plain_model.specs.declared.entries.Actor.TheVariants.{Caller, Session}
use Rattle.plain_model.specs.declared.entries.Answer.{Answer}
use Rattle.plain_model.specs.declared.entries.Answer.TheVariants.{Call as Replied, Dm as Told}
use Rattle.plain_model.specs.Effects.{change_of}
use Rattle.plain_model.specs.Exact.{left_own, left_told, left_answered, left_by}
use Rattle.plain_model.specs.Faults.{is_fault}
use Rattle.plain_model.specs.State.{State, noted, changed}
use Rattle.plain_model.specs.Services.{dm_judged, dm_state_where}
use Rattle.plain_model.specs.Verdict.{flags_now, objection_in, meant_in, reply_to}
use Rattle.marked_history.proofs.Handing.{PostsParked, posts_where}

module _ (s : Superblock) (st : State) (P : SessionTable → Type 0) (still : P st.sessions) where
  unless_fault : (fault : Bool) (own : State) → P own.sessions → P (if fault then noted st else own).sessions
  unless_fault true own is = still
  unless_fault false own is = is

  told_so : (x : Sid) (c : DmCall) (a : DmReply) → P (changed (change_of x c) st).sessions → P (left_told st x c a).sessions
  told_so x c (Refused why) is = still
  told_so x c a is = is

  -- a session's call leaves them as they were, or changes them
  pub call_so : (x : Sid) (c : DmCall) (a : DmReply) → P (changed (change_of x c) st).sessions → P (left_by s st (Session x) (Dm c) (Told a)).sessions
  call_so x c a is = unless_fault (is_fault (Told a)) (left_told st x c a) (told_so x c a is)

  module _ (calls : (x : Sid) (c : DmCall) → P (changed (change_of x c) st).sessions) (parks : (after : State) (c : ℕ) (reply : Reply) → PostsParked s st after c reply → P after.sessions) where
    judged_so : (why : Option DmRefusal) (x : Sid) (c : DmCall) → P (dm_state_where why s st x c).sessions
    judged_so None x c = calls x c
    judged_so (Some why) x c = still

    answered_so : (who : Actor) (what : Action) (answer : Answer) → P (left_answered s st who what answer).sessions
    answered_so (Caller c) (Issue call) answer =
        parks (left_own s st (Caller c) (Issue call)) c (reply_to s st c (Issue call)) (posts_where s st c (flags_now st c (Issue call)) (objection_in s st c (Issue call)) (meant_in st c (Issue call)))
    answered_so (Caller c) Resume answer = parks (left_own s st (Caller c) Resume) c (reply_to s st c Resume) (posts_where s st c (flags_now st c Resume) (objection_in s st c Resume) (meant_in st c Resume))
    answered_so (Session x) (Dm c) (Told a) = told_so x c a (calls x c)
    answered_so (Session x) (Dm c) (Replied reply) = judged_so (dm_judged s st x c) x c
    answered_so who what answer = still

    -- any event may do that, or post the message of an access that it parks
    pub left_so : (who : Actor) (what : Action) (answer : Answer) → P (left_by s st who what answer).sessions
    left_so who what answer = unless_fault (is_fault answer) (left_answered s st who what answer) (answered_so who what answer)

  -- an event of no session may post the message of an access that it parks
  pub others_so : ((after : State) (c : ℕ) (reply : Reply) → PostsParked s st after c reply → P after.sessions) → (who : Actor) (what : Action) (answer : Answer) → ((x : Sid) → who ≡ Session x → ⊥) → P (left_by s st who what answer).sessions
  others_so parks (Session x) what answer none = absurd (none x refl)
  others_so parks (Caller c) (Issue call) answer none =
      unless_fault (is_fault answer) (left_answered s st (Caller c) (Issue call) answer)
      (parks (left_own s st (Caller c) (Issue call)) c (reply_to s st c (Issue call)) (posts_where s st c (flags_now st c (Issue call)) (objection_in s st c (Issue call)) (meant_in st c (Issue call))))
  others_so parks (Caller c) Resume answer none =
      unless_fault (is_fault answer) (left_answered s st (Caller c) Resume answer) (parks (left_own s st (Caller c) Resume) c (reply_to s st c Resume) (posts_where s st c (flags_now st c Resume) (objection_in s st c Resume) (meant_in st c Resume)))
  others_so parks who what answer none = unless_fault (is_fault answer) (left_answered s st who what answer) still
