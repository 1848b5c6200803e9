-- What quiet events leave, and which events are not quiet.
use Rattle.std.proofs.Common.{◌≡◌, ◌≢◌, ◌∙◌, ◌++◌, ℕ, Bool, true, false, List, Option, Some, None, inl, inr, refl, sym, ap}
use Rattle.std.specs.Prelude.{if◌then◌else◌}
use Rattle.std.specs.List.{list_all}
use Rattle.std.specs.Option.{option_map}
use Rattle.std.proofs.lemmas.Bool.{false≢true, and_parts}
use Rattle.std.proofs.lemmas.List.Folds.{list_all-append}
use Rattle.disk_model.specs.declared.device.Disk as disk
use Rattle.hsm_types.specs.declared.calls.CallRefusal.TheVariants.{Disk}
use Rattle.hsm_types.specs.declared.calls.Reply.{Reply}
use Rattle.hsm_types.specs.declared.calls.Reply.TheVariants.{Blocked, Still, Refused}
use Rattle.hsm_types.specs.declared.dm.DmCall.{DmCall}
use Rattle.hsm_types.specs.declared.dm.DmCall.TheVariants as dm
use Rattle.hsm_types.specs.declared.dm.DmReply.{DmReply}
use Rattle.hsm_types.specs.declared.dm.DmReply.TheVariants as told
use Rattle.hsm_types.specs.declared.keys.Sid.{Sid}
use Rattle.hsm_types.specs.declared.stores.Superblock.{Superblock}
use Rattle.plain_model.specs.declared.entries.Action.{Action}
use Rattle.plain_model.specs.declared.entries.Action.TheVariants.{Issue, Resume, Dm, Commit}
use Rattle.plain_model.specs.declared.entries.Answer.TheVariants.{Dm as Told}
use Rattle.plain_model.specs.declared.entries.Entry.{Entry}
use Rattle.plain_model.specs.Effects.{change_of}
use Rattle.plain_model.specs.Exact.{left_told}
use Rattle.plain_model.specs.Ledger.{Access as Pending, ledger_told}
use Rattle.plain_model.specs.Services.{service}
use Rattle.plain_model.specs.State.{State, noted, changed}
use Rattle.plain_model.specs.Verdict.{reply_to}
use Rattle.access_park.specs.declared.access.Access.{Access}
use Rattle.dm_service.specs.Tables.{waiting, pending_as}
use Rattle.file_store.specs.Stores.{Store as FileStore, superblock_of}
use Rattle.hsm_core.specs.Answers.{IsTold}
use Rattle.hsm_core.specs.Ready.{ready_by, ready}
use Rattle.hsm_core.specs.Store.{Store, state_of}
use Rattle.hsm_core.specs.declared.store.Ready.{Ready}
use Rattle.hsm_core.specs.declared.store.Ready.TheVariants.{Idle, Waits, Now}
use Rattle.marked_history.specs.Quiet.{is_question, is_refusal, is_quiet_event, is_quiet}

-- ---- which entries are not quiet

-- an entry that is no session's call
pub loud : (e : Entry) → ((call : DmCall) → e.action ≢ Dm call) → is_quiet e ≡ false
loud e other = by_action e.action other
  where
    by_action : (action : Action) → ((call : DmCall) → action ≢ Dm call) → is_quiet_event action e.answer ≡ false
    by_action (Dm call) other = absurd (other call refl)
    by_action (Issue call) other = refl
    by_action Resume other = refl
    by_action Commit other = refl

-- ---- lists of entries

pub all_quiet_append : (xs ys : List Entry) → list_all is_quiet (xs ++ ys) ≡ true → (list_all is_quiet xs ≡ true) × (list_all is_quiet ys ≡ true)
all_quiet_append xs ys quiet = and_parts (list_all is_quiet xs) (list_all is_quiet ys) (sym (list_all-append is_quiet xs ys) ∙ quiet)

-- ---- what a quiet event leaves of the model's state

-- what is served is no refusal
pub served_plainly : (s : Superblock) (st : State) (sid : Sid) (call : DmCall) → is_refusal (service s st sid call).reply ≡ false
served_plainly s st sid dm.GetSpace = refl
served_plainly s st sid call = refl

-- what only asks changes nothing, whatever it is told
question_leaves : (st : State) (sid : Sid) (call : DmCall) (reply : DmReply) → is_question call ≡ true → record (noted (changed (change_of sid call) st)) { ledger = ledger_told st.ledger call reply } ≡ noted st
question_leaves st sid dm.GetAllSessions reply asks = refl
question_leaves st sid (dm.QuerySession target) reply asks = refl
question_leaves st sid dm.GetSpace reply asks = refl
question_leaves st sid dm.GetTable reply asks = refl
question_leaves st sid dm.GetAllTokens reply asks = refl
question_leaves st sid (dm.FindEventMsg t room) reply asks = refl
question_leaves st sid (dm.GetFileAttr t h) reply asks = refl
question_leaves st sid (dm.GetAllocInfo t h) reply asks = refl
question_leaves st sid (dm.GetRegion t h) reply asks = refl
question_leaves st sid (dm.ReadInvis t h offset len) reply asks = refl
question_leaves st sid other reply asks = absurd (false≢true asks)

-- it is one entry more, and nothing else
pub told_quiet : (st : State) (sid : Sid) (call : DmCall) (reply : DmReply) → is_quiet_event (Dm call) (Told reply) ≡ true → left_told st sid call reply ≡ noted st
told_quiet st sid call (told.Refused why) quiet = refl
told_quiet st sid call reply quiet = question_leaves st sid call reply quiet

-- ---- what a resume would come to after it

-- by what waits as users see it
abbrev pub ready_seen : Option Pending → Reply → Ready
ready_seen None reply = Idle
ready_seen (Some a) (Still t) = Waits t
ready_seen (Some a) (Blocked t) = Waits t
ready_seen (Some a) reply = Now

seen_alike : (waits : Option Access) (reply : Reply) → ready_seen (option_map pending_as waits) reply ≡ ready_by waits reply
seen_alike None reply = refl
seen_alike (Some a) (Still t) = refl
seen_alike (Some a) (Blocked t) = refl
seen_alike (Some a) reply = refl

-- by the model's state
abbrev pub ready_in : Superblock → State → ℕ → Ready
ready_in s st c = ready_seen (st.ledger.pending c) (reply_to s st c Resume)

-- it doesn't go by the number of the last entry
noted_ready : (s : Superblock) (st : State) (c : ℕ) → ready_in s (noted st) c ≡ ready_in s st c
noted_ready s st c = refl

module _ {D : Type 0} where
  pub ready_by_state : (s : Store D) (c : ℕ) → s.files.failed ≡ false → ready s c ≡ ready_in (superblock_of s.opened) (state_of s) c
  ready_by_state s c working =
      ap (λ (failed : Bool). ready_by (waiting s.tables c) (if failed then Refused Disk else reply_to (superblock_of s.opened) (state_of s) c Resume)) working
      ∙ sym (seen_alike (waiting s.tables c) (reply_to (superblock_of s.opened) (state_of s) c Resume))

  same_ready : (old new : Store D) (c : ℕ) → old.files.failed ≡ false → new.files.failed ≡ false → new.opened ≡ old.opened → ready_in (superblock_of old.opened) (state_of new) c ≡ ready_in (superblock_of old.opened) (state_of old) c
      → ready new c ≡ ready old c
  same_ready old new c working still opened same = ready_by_state new c still ∙ ap (λ (s : FileStore D). ready_in (superblock_of s) (state_of new) c) opened ∙ same ∙ sym (ready_by_state old c working)

  -- As long as no call of the disk fails, a quiet event makes no access ready, and keeps none from going on.
  pub quiet_ready : (g : disk.Ghosts D) (old new : Store D) (sid : Sid) (call : DmCall) (reply : DmReply) → IsTold g old sid call reply new → new.files.failed ≡ false → is_quiet_event (Dm call) (Told reply) ≡ true → (c : ℕ) → ready new c ≡ ready old c
  quiet_ready g old new sid call reply (inl closed) still quiet c = absurd (false≢true (sym still ∙ ap (λ (s : Store D). s.files.failed) closed.same ∙ closed.failed))
  quiet_ready g old new sid call reply (inr (inl lacks)) still quiet c = same_ready old new c lacks.goes.working still lacks.goes.opened (ap (λ (st : State). ready_in (superblock_of old.opened) st c) lacks.state)
  quiet_ready g old new sid call reply (inr (inr (inl failed))) still quiet c = absurd (false≢true (sym still ∙ failed.failed))
  quiet_ready g old new sid call reply (inr (inr (inr done))) still quiet c =
      let left : state_of new ≡ noted (state_of old) = done.leaves ∙ told_quiet (state_of old) sid call reply quiet in
      same_ready old new c done.goes.working still done.goes.opened (ap (λ (st : State). ready_in (superblock_of old.opened) st c) left ∙ noted_ready (superblock_of old.opened) (state_of old) c)

  -- It leaves the rights as they were.
  pub quiet_rights : (g : disk.Ghosts D) (old new : Store D) (sid : Sid) (call : DmCall) (reply : DmReply) → IsTold g old sid call reply new → new.files.failed ≡ false → is_quiet_event (Dm call) (Told reply) ≡ true → (state_of new).rights ≡ (state_of old).rights
  quiet_rights g old new sid call reply (inl closed) still quiet = absurd (false≢true (sym still ∙ ap (λ (s : Store D). s.files.failed) closed.same ∙ closed.failed))
  quiet_rights g old new sid call reply (inr (inl lacks)) still quiet = ap (λ (st : State). st.rights) lacks.state
  quiet_rights g old new sid call reply (inr (inr (inl failed))) still quiet = absurd (false≢true (sym still ∙ failed.failed))
  quiet_rights g old new sid call reply (inr (inr (inr done))) still quiet =
      let left : state_of new ≡ noted (state_of old) = done.leaves ∙ told_quiet (state_of old) sid call reply quiet in
      ap (λ (st : State). st.rights) left
