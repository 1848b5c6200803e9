-- Events of callers that nothing is done for: a call beside an access that waits, one that is refused, and a resume of none or of one that waits on.
use Rattle.std.proofs.Common.{◌≡◌, ◌+◌, ℕ, List, true, false, Option, Some, None, refl, sym, ◌∙◌, ap}
use Rattle.std.specs.Borrow.{Bor}
use Rattle.std.specs.Prelude.{is_some, Ok}
use Rattle.std.specs.Option.{option_copied, option_map}
use Rattle.disk_model.specs.declared.device.Disk as disk
use Rattle.hsm_types.specs.declared.calls.Call.{Call}
use Rattle.hsm_types.specs.declared.calls.CallRefusal.{CallRefusal}
use Rattle.hsm_types.specs.declared.calls.CallRefusal.TheVariants.{Waiting, Idle}
use Rattle.hsm_types.specs.declared.calls.Reply.{Reply}
use Rattle.hsm_types.specs.declared.calls.Reply.TheVariants.{Still, Refused}
use Rattle.hsm_types.specs.declared.keys.FileKey.{FileKey}
use Rattle.hsm_types.specs.declared.keys.Token.{Token}
use Rattle.hsm_types.specs.Keyed.{set_at}
use Rattle.hsm_types.specs.declared.stores.Superblock.{Superblock}
use Rattle.plain_model.specs.declared.entries.Action.{Action}
use Rattle.plain_model.specs.declared.entries.Action.TheVariants.{Issue, Resume}
use Rattle.plain_model.specs.Ledger.{issued, resumed, goes_on, objection_again}
use Rattle.plain_model.specs.Plain.{refusal_of}
use Rattle.plain_model.specs.State.{no_flags, State, noted, names_of}
use Rattle.plain_model.specs.Verdict.{reply_where, reply_to, state_where, state_after}
use Rattle.access_park.specs.declared.access.Access.{Access}
use Rattle.dm_service.specs.declared.verdict.Verdict.{Verdict}
use Rattle.dm_service.specs.declared.verdict.Verdict.TheVariants.{Answered, Missing, Block, Post, NoSpace, Complete}
use Rattle.dm_service.specs.Services.{AreBoth}
use Rattle.dm_service.specs.Tables.{Tables, waiting, ledger_of, pending_as, flags_or_none, state_in}
use Rattle.file_store.specs.Stores.{Store as FileStore, superblock_of, Proceeds}
use Rattle.hsm_core.specs.Outcomes.{ended_reply, held_said, stamps_said, IsFinished, IsReplied}
use Rattle.hsm_core.specs.Stamps.{stamp_in}
use Rattle.hsm_core.proofs.Accesses.{same_at, none_gone}
use Rattle.hsm_core.proofs.Replying.{same_ends}
use Rattle.hsm_core.proofs.Seeing.{held_replies}

-- ---- what waits, as it is looked up

pub copied_some : {A : Type 0} (o : Option (Bor A)) (w : Option A) → option_copied o ≡ w → is_some o ≡ true → is_some w ≡ true
copied_some (Some x) w is some = ap (λ (w : Option _). is_some w) (sym is)
copied_some None w is some = absurd cc

pub copied_none : {A : Type 0} (o : Option (Bor A)) (w : Option A) → option_copied o ≡ w → is_some o ≡ false → w ≡ None
copied_none (Some x) w is none = absurd cc
copied_none None w is none = sym is

-- ---- the events

module _ {D : Type 0} (g : disk.Ghosts D) (f : FileStore D) (n : ℕ) (stamps : List (FileKey × ℕ)) (t : Tables) (c : ℕ) (working : f.failed ≡ false) (idle : Proceeds g f n f) where
  abbrev super : Superblock
  super = superblock_of f

  abbrev now : State
  now = state_in f.held (stamp_in stamps) n t

  -- the reply is known, and what is left, and nothing was done
  nothing_done : (action : Action) (own : Reply) (r : Reply × Reply) → AreBoth own r → own ≡ reply_to super now c action → state_in f.held (stamp_in stamps) (n + 1) t ≡ state_after super now c action → IsReplied g f n stamps t c action (Ok r) f stamps t
  nothing_done action own r both reply left = record {
    replies = held_replies _ (Ok r) f.held (λ h. reply_to super (state_in h (stamp_in stamps) n t) c action) own reply both;
    left = left;
    unstamped = tt;
    err = tt;
    ends = same_ends g f n (Ok r) working idle tt;
  }

  -- what waits is left
  still_left : state_in f.held (stamp_in stamps) (n + 1) t ≡ record (noted now) { ledger = record (ledger_of t) { pending = set_at c ((ledger_of t).pending c) (ledger_of t).pending } }
  still_left i = record (noted now) { ledger = record (ledger_of t) { pending = λ d. sym (same_at c ((ledger_of t).pending c) (ledger_of t).pending refl d) i } }

  pub waiting_replied : (call : Call) (r : Reply × Reply) → is_some (waiting t c) ≡ true → AreBoth (Refused Waiting) r → IsReplied g f n stamps t c (Issue call) (Ok r) f stamps t
  waiting_replied call r some both = by (waiting t c) refl some
    where
      by : (w : Option Access) → waiting t c ≡ w → is_some w ≡ true → IsReplied g f n stamps t c (Issue call) (Ok r) f stamps t
      by None is some = absurd cc
      by (Some a) is some = nothing_done (Issue call) (Refused Waiting) r both
          (λ i. reply_where super now no_flags (refusal_of super (names_of f.held.files) call) (issued (names_of f.held.files) (option_map pending_as (sym is i)) call))
          (still_left ∙ (λ i. state_where super now c no_flags (refusal_of super (names_of f.held.files) call) (issued (names_of f.held.files) (option_map pending_as (sym is i)) call)))

  pub refused_replied : (call : Call) (why : CallRefusal) (r : Reply × Reply) → waiting t c ≡ None → refusal_of super (names_of f.held.files) call ≡ Some why → AreBoth (Refused why) r → IsReplied g f n stamps t c (Issue call) (Ok r) f stamps t
  refused_replied call why r none refuses both = nothing_done (Issue call) (Refused why) r both
      (λ i. reply_where super now no_flags (sym refuses i) (issued (names_of f.held.files) (option_map pending_as (sym none i)) call))
      (sym (ap noted (none_gone c now (ap (λ w. option_map pending_as w) none) (ap flags_or_none none)))
      ∙ (λ i. state_where super now c no_flags (sym refuses i) (issued (names_of f.held.files) (option_map pending_as (sym none i)) call)))

  pub idle_replied : (r : Reply × Reply) → waiting t c ≡ None → AreBoth (Refused Idle) r → IsReplied g f n stamps t c Resume (Ok r) f stamps t
  idle_replied r none both = nothing_done Resume (Refused Idle) r both
      (λ i. reply_where super now (flags_or_none (sym none i)) (objection_again (names_of f.held.files) (option_map pending_as (sym none i))) (resumed (option_map pending_as (sym none i))))
      (still_left ∙ (λ i. state_where super now c (flags_or_none (sym none i)) (objection_again (names_of f.held.files) (option_map pending_as (sym none i))) (resumed (option_map pending_as (sym none i)))))

  pub still_replied : (a : Access) (token : Token) (r : Reply × Reply) → waiting t c ≡ Some a → a.token ≡ Some token → a.answer ≡ None → AreBoth (Still token) r → IsReplied g f n stamps t c Resume (Ok r) f stamps t
  still_replied a token r waits waited unanswered both = nothing_done Resume (Still token) r both
      ((λ i. reply_where super now (flags_or_none (Some a)) (objection_again (names_of f.held.files) (Some (pending_as a))) (goes_on (pending_as a) (sym waited i) (sym unanswered i)))
      ∙ (λ i. reply_where super now (flags_or_none (sym waits i)) (objection_again (names_of f.held.files) (option_map pending_as (sym waits i))) (resumed (option_map pending_as (sym waits i)))))
      (still_left
      ∙ (λ i. state_where super now c (flags_or_none (Some a)) (objection_again (names_of f.held.files) (Some (pending_as a))) (goes_on (pending_as a) (sym waited i) (sym unanswered i)))
      ∙ (λ i. state_where super now c (flags_or_none (sym waits i)) (objection_again (names_of f.held.files) (option_map pending_as (sym waits i))) (resumed (option_map pending_as (sym waits i)))))

-- ---- an access that is refused by what was said of it

module _ {D : Type 0} (g : disk.Ghosts D) (f : FileStore D) (n : ℕ) (stamps : List (FileKey × ℕ)) (working : f.failed ≡ false) (idle : Proceeds g f n f) where
  held_refused : (k : FileKey) (call : Call) (said : Verdict) → (said ≡ Complete → ⊥) → f.held ≡ held_said f.held k call said
  held_refused k call Complete not = absurd (not refl)
  held_refused k call (Post kind) not = refl
  held_refused k call (Block other) not = refl
  held_refused k call (NoSpace need free) not = refl
  held_refused k call Missing not = refl
  held_refused k call (Answered response) not = refl

  stamps_refused : (k : FileKey) (call : Call) (said : Verdict) → (said ≡ Complete → ⊥) → stamp_in stamps ≡ stamps_said (n + 1) k call said (stamp_in stamps)
  stamps_refused k call Complete not = absurd (not refl)
  stamps_refused k call (Post kind) not = refl
  stamps_refused k call (Block other) not = refl
  stamps_refused k call (NoSpace need free) not = refl
  stamps_refused k call Missing not = refl
  stamps_refused k call (Answered response) not = refl

  pub refused_finished : (k : FileKey) (call : Call) (said other : Verdict) (why : CallRefusal) (r : Reply × Reply) → said ≡ other → (other ≡ Complete → ⊥) → Refused why ≡ ended_reply f.held k call other → AreBoth (Refused why) r → IsFinished g f n stamps k call said (Ok r) f stamps
  refused_finished k call said other why r is not told both = record {
    replies = held_replies _ (Ok r) f.held (λ h. ended_reply h k call said) (Refused why) (told ∙ ap (ended_reply f.held k call) (sym is)) both;
    held = held_refused k call said (λ complete. not (sym is ∙ complete));
    stamps = stamps_refused k call said (λ complete. not (sym is ∙ complete));
    unstamped = tt;
    answered = λ apart. refl;
    ended = same_ends g f n (Ok r) working idle tt;
  }
