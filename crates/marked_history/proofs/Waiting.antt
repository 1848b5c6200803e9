-- Which accesses may still wait where a store is at rest.
use Rattle.std.proofs.Common.{◌≡◌, ◌≢◌, ℕ, Bool, true, false, ◌&&◌, List, [], ◌∷◌, ◌++◌, Option, None, Some, inl, inr, refl, sym, ap}
use Rattle.std.proofs.Common.{subst, ◌∙◌, append_assoc}
use Rattle.std.proofs.lemmas.Bool.{false≢true}
use Rattle.std.proofs.lemmas.List.Elements.{Contains-append_left, Contains-append_right, Contains-append_cases, Contains-push, Contains-push_cases}
use Rattle.std.specs.Prelude.{◌⊎◌, if◌then◌else◌, nat_le, Contains}
use Rattle.std.specs.List.{list_all}
use Rattle.std.specs.Option.{option_map}
use Rattle.hsm_types.specs.Callers.{IsCallerNumber}
use Rattle.hsm_types.specs.Daemons.{kinds_of}
use Rattle.hsm_types.specs.Limits.{buffer_bytes}
use Rattle.hsm_types.specs.Messages.{message_bytes, no_token, takes}
use Rattle.hsm_types.specs.Refusals.{first_refusal}
use Rattle.hsm_types.specs.Rights.{right_of, conflict}
use Rattle.hsm_types.specs.Sessions.{lives, dead_session, none_fits, queue_of, outstanding_of}
use Rattle.hsm_types.specs.declared.calls.Call.{Call}
use Rattle.hsm_types.specs.declared.calls.Call.TheVariants.{Create, Read, Stat}
use Rattle.hsm_types.specs.declared.calls.CallRefusal.{CallRefusal}
use Rattle.hsm_types.specs.declared.calls.Reply.{Reply}
use Rattle.hsm_types.specs.declared.calls.Reply.TheVariants.{Blocked, Still}
use Rattle.hsm_types.specs.declared.daemons.Daemon.{Daemon}
use Rattle.hsm_types.specs.declared.daemons.Daemon.TheVariants.{Recall, Migrate}
use Rattle.hsm_types.specs.declared.dm.DmCall.TheVariants.{GetEvents, RequestRight}
use Rattle.hsm_types.specs.declared.dm.DmRefusal.{DmRefusal}
use Rattle.hsm_types.specs.declared.dm.DmRefusal.TheVariants.{NoSession, Again, TooSmall}
use Rattle.hsm_types.specs.declared.dm.DmReply.TheVariants.{Refused}
use Rattle.hsm_types.specs.declared.dm.Kind.{Kind}
use Rattle.hsm_types.specs.declared.dm.Kind.TheVariants as kind
use Rattle.hsm_types.specs.declared.dm.Response.{Response}
use Rattle.hsm_types.specs.declared.dm.Right.TheVariants.{Null, Excl}
use Rattle.hsm_types.specs.declared.keys.FileKey.{FileKey}
use Rattle.hsm_types.specs.declared.keys.Handle.{Handle}
use Rattle.hsm_types.specs.declared.keys.Sid.{Sid}
use Rattle.hsm_types.specs.declared.keys.Token.{Token}
use Rattle.hsm_types.specs.declared.messages.Message.{Message}
use Rattle.hsm_types.specs.declared.stores.Superblock.{Superblock}
use Rattle.plain_model.specs.declared.entries.Action.{Action}
use Rattle.plain_model.specs.declared.entries.Action.TheVariants.{Issue, Resume, Dm}
use Rattle.plain_model.specs.declared.entries.Actor.{Actor}
use Rattle.plain_model.specs.declared.entries.Actor.TheVariants.{Caller, Session}
use Rattle.plain_model.specs.declared.entries.Answer.{Answer}
use Rattle.plain_model.specs.declared.entries.Answer.TheVariants.{Call as Replied, Dm as Told}
use Rattle.plain_model.specs.declared.entries.Entry.{Entry}
use Rattle.plain_model.specs.declared.facts.NoRoom.{NoRoom}
use Rattle.plain_model.specs.Accesses.{need_of}
use Rattle.plain_model.specs.Plain.{reply_on}
use Rattle.plain_model.specs.Ledger.{Access, Means, goes_on, resumed}
use Rattle.plain_model.specs.State.{Held, Flags, State, just_opened, noted}
use Rattle.plain_model.specs.Verdict.{Blocks, Posts, Lacks, Verdict, posts, touching, needing, without_room, lacking, facts_of, verdict, reply_by}
use Rattle.plain_model.specs.Verdict.{flags_now, objection_in, reply_where, reply_to}
use Rattle.plain_model.specs.Services.{dm_judged, dm_reply_to}
use Rattle.plain_model.specs.Stands.{InOrder}
use Rattle.plain_model.specs.Faults.{is_fault, fault_of, FaultIsLast}
use Rattle.plain_model.specs.Exact.{IsAnswer, left_answered, left_by, ExactSeen, state_by}
use Rattle.plain_model.specs.Laws.{IsRunSeen}
use Rattle.plain_model.proofs.AnyDisk.{state_seen_ordered}
use Rattle.plain_model.proofs.Faultless.{fault_is}
use Rattle.plain_model.proofs.Orders.{ordered_at_first}
use Rattle.file_store.specs.Stores.{superblock_of}
use Rattle.hsm_policy.specs.Settings.{Numbers}
use Rattle.daemon_session.specs.declared.events.Kept.{Kept}
use Rattle.daemon_session.specs.Seats.{IsSeated}
use Rattle.hsm_core.specs.Ready.{ready}
use Rattle.hsm_core.specs.Packed.{ArePacked}
use Rattle.hsm_core.specs.Store.{Store, state_of}
use Rattle.hsm_core.specs.declared.store.Ready.{Ready}
use Rattle.hsm_core.specs.declared.store.Ready.TheVariants.{Now}
use Rattle.marked_history.specs.Marks.{Mark, entries_of}
use Rattle.marked_history.specs.Quiet.{is_quiet_event, is_quiet}
use Rattle.marked_history.specs.Served.{Shown, nothing_shown, shown, IsTold, Served}
use Rattle.marked_history.specs.Tokens.{KeepsEvent, IsGranted, IsHindered, IsPresent, TellsOne}
use Rattle.marked_history.specs.Waiting.{Running, IsServable, IsForeign, IsHeldUp, MayWait, no_more, unserved, PutsOff, RecallRests, MigrateRests}
use Rattle.marked_history.specs.Waiting.{IsAtRest, SettledWaits}
use Rattle.marked_history.proofs.Lists.{none_in, none_there, parts}
use Rattle.marked_history.proofs.Granting.{refused_so, judged_busy, hindered_by, exact_rest, served_holds_granted}
use Rattle.marked_history.proofs.Seen.{over, IsOver, is_over}
use Rattle.marked_history.proofs.KeepingAll.{served_keeps_all}
use Rattle.marked_history.proofs.QuietEvents.{all_quiet_append, told_quiet, ready_seen, ready_in, ready_by_state}
use Rattle.marked_history.proofs.TellingOne.{served_tells_one}

-- ---- what a reply to a resume tells

-- the access waits on
abbrev waits_on : Reply → Bool
waits_on (Still t) = true
waits_on (Blocked t) = true
waits_on reply = false

done_ends : (k : FileKey) (body : List ℕ) (call : Call) → waits_on (reply_on k body call) ≡ false
done_ends k body (Create name) = refl
done_ends k body (Read name offset len) = refl
done_ends k body (Stat name) = refl
done_ends k body call = refl

abbrev blocks : Verdict → Bool
blocks (Some (Blocks t)) = true
blocks v = false

later_blocks : (x : Verdict) (rest : List Verdict) → blocks x ≡ false → blocks (first_refusal rest) ≡ false → blocks (first_refusal (x ∷ rest)) ≡ false
later_blocks None rest other later = later
later_blocks (Some ruling) rest other later = other

posts_only : (b : Bool) (found : Option Kind) → blocks (posts b found) ≡ false
posts_only false found = refl
posts_only true None = refl
posts_only true (Some kind) = refl

room_only : (asks : Bool) (found : Option NoRoom) → blocks (without_room asks found) ≡ false
room_only asks None = refl
room_only asks (Some room) = elim asks as (λ (b : Bool). blocks (if b then Some (Posts kind.NoSpace) else Some (Lacks room.need room.free)) ≡ false) [ true ↦ refl | false ↦ refl ]

module _ (s : Superblock) (st : State) (fl : Flags) where
  -- what blocks an access is a conflict of rights
  conflict_only : (k : FileKey) (call : Call) (t : Token) (found : Option Token) → first_refusal (option_map Blocks found ∷ touching fl (facts_of s st.held k call) call ∷ needing fl (facts_of s st.held k call) call ∷ lacking fl (facts_of s st.held k call) st.sessions ∷ []) ≡ Some (Blocks t)
      → found ≡ Some t
  conflict_only k call t None is =
      let last : List Verdict = lacking fl (facts_of s st.held k call) st.sessions ∷ [] in
      absurd (false≢true (sym (later_blocks (touching fl (facts_of s st.held k call) call) (needing fl (facts_of s st.held k call) call ∷ last) (posts_only _ _)
      (later_blocks (needing fl (facts_of s st.held k call) call) last (posts_only _ _) (later_blocks (lacking fl (facts_of s st.held k call) st.sessions) [] (room_only _ _) refl))) ∙ ap blocks is))
  conflict_only k call t (Some u) is = cc

  verdict_blocks : (k : FileKey) (call : Call) (t : Token) (v : Verdict) → reply_by st k call v ≡ Blocked t → v ≡ Some (Blocks t)
  verdict_blocks k call t None is = absurd (false≢true (sym (done_ends _ _ call) ∙ ap waits_on is))
  verdict_blocks k call t (Some (Blocks u)) is = cc
  verdict_blocks k call t (Some (Posts kind)) is = absurd cc
  verdict_blocks k call t (Some (Lacks need free)) is = absurd cc

  means_blocked : (k : FileKey) (call : Call) (t : Token) (why : Option CallRefusal) → reply_where s st fl why (Means k call) ≡ Blocked t → conflict k (need_of call) no_token st.rights ≡ Some t
  means_blocked k call t (Some why) is = absurd cc
  means_blocked k call t None is = conflict_only k call t (conflict k (need_of call) no_token st.rights) (verdict_blocks k call t (verdict s st fl k call) is)

  goes_blocked : (why : Option CallRefusal) (a : Access) (token : Option Token) (answer : Option Response) (t : Token) → reply_where s st fl why (goes_on a token answer) ≡ Blocked t → conflict a.key (need_of a.call) no_token st.rights ≡ Some t
  goes_blocked why a (Some u) None t is = absurd cc
  goes_blocked why a None answer t is = means_blocked a.key a.call t why is
  goes_blocked why a (Some u) (Some response) t is = means_blocked a.key a.call t why is

  verdict_still : (k : FileKey) (call : Call) (t : Token) (v : Verdict) → reply_by st k call v ≡ Still t → ⊥
  verdict_still k call t None is = false≢true (sym (done_ends _ _ call) ∙ ap waits_on is)
  verdict_still k call t (Some (Blocks u)) is = cc
  verdict_still k call t (Some (Posts kind)) is = cc
  verdict_still k call t (Some (Lacks need free)) is = cc

  means_still : (k : FileKey) (call : Call) (t : Token) (why : Option CallRefusal) → reply_where s st fl why (Means k call) ≡ Still t → ⊥
  means_still k call t (Some why) is = cc
  means_still k call t None is = verdict_still k call t (verdict s st fl k call) is

  goes_still : (why : Option CallRefusal) (a : Access) (token : Option Token) (answer : Option Response) (t : Token) → reply_where s st fl why (goes_on a token answer) ≡ Still t → (token ≡ Some t) × (answer ≡ None)
  goes_still why a (Some u) None t is = (cc, refl)
  goes_still why a None answer t is = absurd (means_still a.key a.call t why is)
  goes_still why a (Some u) (Some response) t is = absurd (means_still a.key a.call t why is)

module _ (s : Superblock) (st : State) (c : ℕ) (a : Access) (waits : st.ledger.pending c ≡ Some a) (t : Token) where
  abbrev resume_reply : Option Access → Reply
  resume_reply found = reply_where s st (flags_now st c Resume) (objection_in s st c Resume) (resumed found)

  pub is_blocked : reply_to s st c Resume ≡ Blocked t → conflict a.key (need_of a.call) no_token st.rights ≡ Some t
  is_blocked is = goes_blocked s st (flags_now st c Resume) (objection_in s st c Resume) a a.token a.answer t (subst (λ (found : Option Access). resume_reply found ≡ Blocked t) waits is)

  is_still : reply_to s st c Resume ≡ Still t → (a.token ≡ Some t) × (a.answer ≡ None)
  is_still is = goes_still s st (flags_now st c Resume) (objection_in s st c Resume) a a.token a.answer t (subst (λ (found : Option Access). resume_reply found ≡ Still t) waits is)

-- an access that may not go on would wait on, or be blocked
seen_waits : (a : Access) (reply : Reply) → ready_seen (Some a) reply ≢ Now → ((t : Token) × (reply ≡ Still t)) ⊎ ((t : Token) × (reply ≡ Blocked t))
seen_waits a (Still t) other = inl (t, refl)
seen_waits a (Blocked t) other = inr (t, refl)
seen_waits a reply other = absurd (other refl)

abbrev state_behind : {D : Type 0} → Store D → State
state_behind s = state_by (superblock_of s.opened) (just_opened s.opened.meta.number s.opened.held) s.history

pub ready_waits : {D : Type 0} (s : Store D) → state_of s ≡ state_behind s → s.files.failed ≡ false → (c : ℕ) (a : Access) → (state_behind s).ledger.pending c ≡ Some a → ready s c ≢ Now
    → ((t : Token) × (reply_to (superblock_of s.opened) (state_behind s) c Resume ≡ Still t)) ⊎ ((t : Token) × (reply_to (superblock_of s.opened) (state_behind s) c Resume ≡ Blocked t))
ready_waits s same working c a waits other =
    let seen : ready_in (superblock_of s.opened) (state_of s) c ≢ Now = subst (λ (x : Ready). x ≢ Now) (ready_by_state s c working) other in
    let behind : ready_in (superblock_of s.opened) (state_behind s) c ≢ Now = subst (λ (x : State). ready_in (superblock_of s.opened) x c ≢ Now) same seen in
    seen_waits a (reply_to (superblock_of s.opened) (state_behind s) c Resume) (subst (λ (found : Option Access). ready_seen found (reply_to (superblock_of s.opened) (state_behind s) c Resume) ≢ Now) waits behind)

-- ---- quiet entries leave the tables

module _ (s : Superblock) (st : State) where
  answered_quiet : (who : Actor) (what : Action) (answer : Answer) → is_quiet_event what answer ≡ true → left_answered s st who what answer ≡ noted st
  answered_quiet (Session sid) (Dm call) (Told reply) quiet = told_quiet st sid call reply quiet
  answered_quiet (Session sid) (Dm call) (Replied reply) quiet = absurd (false≢true quiet)
  answered_quiet (Caller c) (Issue call) answer quiet = absurd (false≢true quiet)
  answered_quiet (Caller c) Resume answer quiet = absurd (false≢true quiet)
  answered_quiet who what answer quiet = refl

  quiet_left : (who : Actor) (what : Action) (answer : Answer) → is_quiet_event what answer ≡ true → left_by s st who what answer ≡ noted st
  quiet_left who what answer quiet = elim (is_fault answer) as (λ (b : Bool). (if b then noted st else left_answered s st who what answer) ≡ noted st) [ true ↦ refl | false ↦ answered_quiet who what answer quiet ]

-- the same sessions, with the same rights, and the same files
abbrev pub Same : State → State → Type 0
Same old new = (new.sessions ≡ old.sessions) × (new.rights ≡ old.rights) × (new.held ≡ old.held)

module _ (s : Superblock) where
  quiet_same : (st : State) (es : List Entry) → list_all is_quiet es ≡ true → Same st (state_by s st es)
  quiet_same st [] quiet = (refl, refl, refl)
  quiet_same st (e ∷ es) quiet =
      let parts = all_quiet_append (e ∷ []) es quiet in
      let left = quiet_left s st e.actor e.action e.answer (one_quiet (is_quiet e) parts.0) in
      let later = quiet_same (left_by s st e.actor e.action e.answer) es parts.1 in
      (later.0 ∙ ap (λ (x : State). x.sessions) left, later.1 ∙ ap (λ (x : State). x.rights) left, later.2 ∙ ap (λ (x : State). x.held) left)
    where
      one_quiet : (b : Bool) → (b && true) ≡ true → b ≡ true
      one_quiet true is = refl
      one_quiet false is = is

  state_rest : (st : State) (before rest : List Entry) → state_by s st (before ++ rest) ≡ state_by s (state_by s st before) rest
  state_rest st [] rest = refl
  state_rest st (e ∷ before) rest = state_rest (left_by s st e.actor e.action e.answer) before rest

  -- an entry after which all is quiet, with what is so in the state before it
  pub record IsAt (st : State) (es : List Entry) (e : Entry) (rest : List Entry) : Type 0 where
    pub now : State
    pub answer : IsOver s now e.actor e.action e.answer
    pub last : FaultIsLast e rest
    pub same : Same now (state_by s st es)

  pub quiet_at : (st : State) (es first turns a : List Entry) (e : Entry) (rest : List Entry) → ExactSeen ⊥ s st es → es ≡ first ++ turns → list_all is_quiet turns ≡ true → turns ≡ a ++ e ∷ rest → IsAt st es e rest
  quiet_at st es first turns a e rest exact whole quiet is =
      let parted : es ≡ (first ++ a) ++ e ∷ rest = whole ∙ ap (λ (l : List Entry). first ++ l) is ∙ sym (append_assoc first a (e ∷ rest)) in
      let now : State = state_by s st (first ++ a) in
      let own : ExactSeen ⊥ s now (e ∷ rest) = exact_rest s st (first ++ a) (e ∷ rest) (subst (ExactSeen ⊥ s st) parted exact) in
      let ends : state_by s st es ≡ state_by s now (e ∷ rest) = ap (state_by s st) parted ∙ state_rest st (first ++ a) (e ∷ rest) in
      record {
        now = now;
        answer = is_over s now e.actor e.action e.answer own.0;
        last = own.1;
        same = subst (Same now) (sym ends) (quiet_same now (e ∷ rest) (all_quiet_append a (e ∷ rest) (subst (λ (l : List Entry). list_all is_quiet l ≡ true) is quiet)).1);
      }

-- ---- what refusals tell

module _ (s : Superblock) (st : State) (sid : Sid) where
  judged_again : (found : List Message) → first_refusal (dead_session sid st.sessions ∷ none_fits buffer_bytes found ∷ []) ≡ Some Again → found ≡ []
  judged_again found is = past_dead (lives sid st.sessions) is
    where
      fits : (b : Bool) (m : Message) (more : List Message) → first_refusal ((if b then None else Some (TooSmall (message_bytes m))) ∷ []) ≡ Some Again → m ∷ more ≡ []
      fits true m more is = absurd cc
      fits false m more is = absurd cc

      empty : (l : List Message) → first_refusal (none_fits buffer_bytes l ∷ []) ≡ Some Again → l ≡ []
      empty [] is = refl
      empty (m ∷ more) is = fits (nat_le (message_bytes m) buffer_bytes) m more is

      past_dead : (b : Bool) → first_refusal ((if b then None else Some NoSession) ∷ none_fits buffer_bytes found ∷ []) ≡ Some Again → found ≡ []
      past_dead true is = empty found is
      past_dead false is = absurd cc

  -- no message waits for the session
  pub told_again : IsAnswer s st (Session sid) (Dm (GetEvents 0 buffer_bytes)) (Told (Refused Again)) → queue_of sid st.sessions ≡ []
  told_again (inl is) = absurd (let wrong : Told (Refused Again) ≡ fault_of (Dm (GetEvents 0 buffer_bytes)) = is.1 in cc)
  told_again (inr is) =
      let own : Told (Refused Again) ≡ Told (dm_reply_to s st sid (GetEvents 0 buffer_bytes)) = is.1 in
      judged_again (queue_of sid st.sessions) (refused_so (dm_judged s st sid (GetEvents 0 buffer_bytes)) s st sid (GetEvents 0 buffer_bytes) Again cc)

no_request : (sid : Sid) (t : Token) (h : Handle) (cause : DmRefusal) → no_more sid ≡ unserved sid t h cause → ⊥
no_request sid t h cause same = let action : Dm (GetEvents 0 buffer_bytes) ≡ Dm (RequestRight t h Excl) = ap (λ (x : Entry). x.action) same in cc

-- a kind is of one daemon
kinds_apart : (k : Kind) → takes (kinds_of Recall) k ≡ true → takes (kinds_of Migrate) k ≡ true → ⊥
kinds_apart kind.Read recall migrate = false≢true migrate
kinds_apart kind.Write recall migrate = false≢true migrate
kinds_apart kind.Truncate recall migrate = false≢true migrate
kinds_apart kind.NoSpace recall migrate = false≢true recall
kinds_apart kind.User recall migrate = false≢true recall

-- ---- a store at rest

module _ (r : Running) (limits : Numbers) (s : Superblock) (base : ℕ) (h : Held) (marks : List Mark) where
  abbrev es : List Entry
  es = entries_of marks

  abbrev first : State
  first = just_opened base h

  abbrev st : State
  st = state_by s first es

  abbrev k : Shown
  k = shown limits nothing_shown marks

  abbrev Servable : Daemon → Message → Type 0
  Servable daemon m = IsServable r k marks st daemon m

  module _ (served : Served limits marks) (run : IsRunSeen ⊥ s base h es) (packed : ArePacked s first es) (rest : IsAtRest r k s first es) where
    ordered : InOrder st
    ordered = state_seen_ordered ⊥ s first es (ordered_at_first base h) run.exact

    tells : TellsOne limits st.sessions marks
    tells = served_tells_one limits s base h marks es refl served run packed

    abbrev turns : List Entry
    turns = rest.recall_turn ++ rest.migrate_turn

    at : (a : List Entry) (e : Entry) (more : List Entry) → turns ≡ a ++ e ∷ more → IsAt s first es e more
    at a e more is = quiet_at s first es rest.before turns a e more run.exact (rest.history ∙ append_assoc rest.before rest.recall_turn rest.migrate_turn) rest.quiet is

    -- the session's queue is empty
    none_queued : (sid : Sid) → Contains turns (no_more sid) → queue_of sid st.sessions ≡ []
    none_queued sid there =
        let p = parts turns (no_more sid) there in
        let here = at p.0 (no_more sid) p.1 p.2 in
        ap (queue_of sid) here.same.0 ∙ told_again s (over here.now here.answer.seen) sid here.answer.exact

    -- a request of the turn is hindered by another token that has a right now
    module _ (rests : RecallRests k.recall.seat rest.recall_turn) (t : Token) (handle : Handle) (cause : DmRefusal) (off : PutsOff cause) where
      abbrev asked : Entry
      asked = unserved rests.sid t handle cause

      never_last : (l : List Entry) → (l ++ no_more rests.sid ∷ []) ++ rest.migrate_turn ≡ [] → ⊥
      never_last l is = none_there l (no_more rests.sid) rest.migrate_turn (sym is ∙ append_assoc l (no_more rests.sid ∷ []) rest.migrate_turn)

      busy_at : (more : List Entry) → (more ≡ [] → ⊥) → IsAt s first es asked more → (other : Token) × IsHindered st.rights t handle.key Excl other
      busy_at more some here = by here.answer.seen here.answer.exact
        where
          by : (seen : Held) → IsAnswer s (over here.now seen) (Session rests.sid) (Dm (RequestRight t handle Excl)) (Told (Refused cause)) → (other : Token) × IsHindered st.rights t handle.key Excl other
          by seen (inl is) = absurd (some (here.last (ap is_fault is.1 ∙ fault_is (Dm (RequestRight t handle Excl)))))
          by seen (inr is) =
              let there : State = over here.now seen in
              let own : Told (Refused cause) ≡ Told (dm_reply_to s there rests.sid (RequestRight t handle Excl)) = is.1 in
              let judged : dm_judged s there rests.sid (RequestRight t handle Excl) ≡ Some cause = refused_so (dm_judged s there rests.sid (RequestRight t handle Excl)) s there rests.sid (RequestRight t handle Excl) cause cc in
              let busy = judged_busy s there rests.sid t handle Excl cause off judged in
              (busy.0, hindered_by handle.key Excl t busy.0 st.rights ordered.rights (ap (conflict handle.key Excl t) here.same.1 ∙ busy.1))

      hindered_in : Contains rests.first asked ⊎ (no_more rests.sid ≡ asked) → (other : Token) × IsHindered st.rights t handle.key Excl other
      hindered_in (inr same) = absurd (no_request rests.sid t handle cause same)
      hindered_in (inl there) =
          let p = parts rests.first asked there in
          let last : List Entry = no_more rests.sid ∷ [] in
          busy_at ((p.1 ++ last) ++ rest.migrate_turn) (never_last p.1)
          (at p.0 asked ((p.1 ++ last) ++ rest.migrate_turn)
          (ap (λ (l : List Entry). l ++ rest.migrate_turn) (rests.ends ∙ ap (λ (l : List Entry). l ++ last) p.2 ∙ append_assoc p.0 (asked ∷ p.1) last) ∙ append_assoc p.0 (asked ∷ p.1 ++ last) rest.migrate_turn))

      hindered : Contains rest.recall_turn asked → (other : Token) × IsHindered st.rights t handle.key Excl other
      hindered there = hindered_in (Contains-push_cases rests.first (no_more rests.sid) asked (subst (λ (l : List Entry). Contains l asked) rests.ends there))

    -- ---- daemons that rest

    recall_rests : (m : Message) (is : Servable Recall m) → (rests : RecallRests k.recall.seat rest.recall_turn) × (rests.sid ≡ is.sid)
    recall_rests m is = elim (rest.recall is.running) [
      | inl none ↦ absurd (let wrong : None ≡ Some is.sid = sym none ∙ is.uses in cc)
      | inr rests ↦ (rests, let same : Some rests.sid ≡ Some is.sid = sym rests.seated.session ∙ is.uses in cc)
    ]

    migrate_rests : (m : Message) (is : Servable Migrate m) → (rests : MigrateRests k.migrate.seat rest.migrate_turn) × (rests.sid ≡ is.sid)
    migrate_rests m is = elim (rest.migrate is.running) [
      | inl none ↦ absurd (let wrong : None ≡ Some is.sid = sym none ∙ is.uses in cc)
      | inr rests ↦ (rests, let same : Some rests.sid ≡ Some is.sid = sym rests.seated.session ∙ is.uses in cc)
    ]

    ends_in : (daemon : Daemon) (m : Message) (is : Servable daemon m) → Contains turns (no_more is.sid)
    ends_in Recall m is =
        let rests = recall_rests m is in
        let there : Contains rest.recall_turn (no_more rests.0.sid) = subst (λ (l : List Entry). Contains l (no_more rests.0.sid)) (sym rests.0.ends) (Contains-push rests.0.first (no_more rests.0.sid)) in
        subst (λ (y : Sid). Contains turns (no_more y)) rests.1 (Contains-append_left rest.recall_turn rest.migrate_turn (no_more rests.0.sid) there)
    ends_in Migrate m is =
        let rests = migrate_rests m is in
        let there : Contains rest.migrate_turn (no_more rests.0.sid) = subst (λ (l : List Entry). Contains l (no_more rests.0.sid)) (sym rests.0.ends) (Contains-push rests.0.first (no_more rests.0.sid)) in
        subst (λ (y : Sid). Contains turns (no_more y)) rests.1 (Contains-append_right rest.recall_turn rest.migrate_turn (no_more rests.0.sid) there)

    -- ---- messages that are outstanding

    -- recall's, of which it was refused the file
    record IsRefused (m : Message) : Type 0 where
      pub handle : Handle
      pub has : m.handle ≡ Some handle
      pub other : Token
      pub hindered : IsHindered st.rights m.token handle.key Excl other

    told_handle : (m : Message) (t : Token) (handle : Handle) → IsPresent st.sessions m → t ≡ m.token → IsTold k.recall.seat.kept t handle → m.handle ≡ Some handle
    told_handle m t handle there same told =
        (tells.kept Recall (record { event = told.0; marked = told.1.0 }) m told.1.1 there (sym (told.2 ∙ same))).handle ∙ ap (λ (y : Handle). Some y) told.3

    refused_kept : (m : Message) → (rests : RecallRests k.recall.seat rest.recall_turn) → IsPresent st.sessions m → KeepsEvent k.recall.seat.kept m.token → IsRefused m
    refused_kept m rests there (x, kept, same) =
        let refused = rests.refused x kept in
        let found = hindered rests x.event.token refused.0 refused.1 refused.4 refused.3 in
        record {
          handle = refused.0;
          has = told_handle m x.event.token refused.0 there same refused.2;
          other = found.0;
          hindered = subst (λ (u : Token). IsHindered st.rights u refused.0.key Excl found.0) same found.1;
        }

    is_refused : (m : Message) (is : Servable Recall m) → Contains (outstanding_of is.sid st.sessions) m → IsRefused m
    is_refused m is out =
        let rests = recall_rests m is in
        let seated : IsSeated k.recall.seat is.sid = subst (IsSeated k.recall.seat) rests.1 rests.0.seated in
        elim (served_keeps_all Recall limits s base h marks es refl served run packed is.sid m seated out is.kind) [
          | inl keeps ↦ refused_kept m rests.0 (inr (is.sid, inr out)) keeps
          | inr taken ↦ absurd (is.left taken)
        ]

    none_kept : (m : Message) (is : Servable Migrate m) → Contains (outstanding_of is.sid st.sessions) m → ⊥
    none_kept m is out =
        let rests = migrate_rests m is in
        let seated : IsSeated k.migrate.seat is.sid = subst (IsSeated k.migrate.seat) rests.1 rests.0.seated in
        elim (served_keeps_all Migrate limits s base h marks es refl served run packed is.sid m seated out is.kind) [
          | inl keeps ↦ none_in keeps.0 (subst (λ (l : List Kept). Contains l keeps.0) rests.0.none keeps.1)
          | inr taken ↦ is.left taken
        ]

    -- ---- tokens that have a right

    module _ (t : Token) (file : FileKey) (excl : right_of t file st.rights ≡ Excl) (granted : IsGranted marks t file) where
      no_own : (daemon : Daemon) (m : Message) (is : Servable daemon m) → m.token ≡ t → Contains (outstanding_of is.sid st.sessions) m → ⊥
      no_own Recall m is token out =
          let refused = is_refused m is out in
          let on = tells.granted t file m granted (inr (is.sid, inr out)) token in
          let one : Some on.told ≡ Some refused.handle = sym on.handle ∙ refused.has in
          let same : on.told ≡ refused.handle = cc in
          let key : file ≡ refused.handle.key = sym on.file ∙ ap (λ y. y.key) same in
          refused.hindered.lacks (subst (λ (u : Token). right_of u refused.handle.key st.rights ≡ Excl) (sym token) (subst (λ (j : FileKey). right_of t j st.rights ≡ Excl) key excl))
      no_own Migrate m is token out = kinds_apart m.kind (tells.granted t file m granted (inr (is.sid, inr out)) token).own is.kind

    foreign : (t : Token) (file : FileKey) → right_of t file st.rights ≢ Null → IsForeign r k marks st t
    foreign t file some own = elim (served_holds_granted limits s base h marks es refl served run t file some) [
      | inl named ↦ own.unnamed named
      | inr holds ↦ no_own t file holds.0 holds.1 own.daemon own.message own.servable own.token own.outstanding
    ]

    -- ---- accesses that wait

    held_up : (daemon : Daemon) (m : Message) (is : Servable daemon m) → Contains (outstanding_of is.sid st.sessions) m → (daemon ≡ Recall) × Contains (outstanding_of is.sid st.sessions) m × IsHeldUp r k marks st m
    held_up Recall m is out =
        let refused = is_refused m is out in (
          refl,
          out,
          record {
            handle = refused.handle;
            has = refused.has;
            other = refused.other;
            hinders = refused.hindered.told;
            foreign = foreign refused.other refused.handle.key refused.hindered.holds;
          },
        )
    held_up Migrate m is out = absurd (none_kept m is out)

    each_held_up : (daemon : Daemon) (m : Message) (is : Servable daemon m) → (daemon ≡ Recall) × Contains (outstanding_of is.sid st.sessions) m × IsHeldUp r k marks st m
    each_held_up daemon m is = elim (Contains-append_cases (queue_of is.sid st.sessions) (outstanding_of is.sid st.sessions) m is.there) [
      | inl queued ↦ absurd (none_in m (subst (λ (l : List Message). Contains l m) (none_queued is.sid (ends_in daemon m is)) queued))
      | inr out ↦ held_up daemon m is out
    ]

    may_wait : (c : ℕ) (a : Access) → IsCallerNumber c → st.ledger.pending c ≡ Some a → MayWait r k marks st s c a
    may_wait c a caller waits = elim (rest.waits c a caller waits) [
      | inl still ↦ let is = is_still s st c a waits still.0 still.1 in inr (still.0, is.0, is.1, λ daemon m same servable. each_held_up daemon m servable)
      | inr blocked ↦ let held = hindered_by a.key (need_of a.call) no_token blocked.0 st.rights ordered.rights (is_blocked s st c a waits blocked.0 blocked.1) in inl (blocked.0, blocked.1, foreign blocked.0 a.key held.holds)
    ]

pub settled_waits : (r : Running) (limits : Numbers) (s : Superblock) (base : ℕ) (h : Held) (marks : List Mark) (history : List Entry) → SettledWaits r limits s base h marks history
settled_waits r limits s base h marks history same served run packed rest c a caller waits =
    subst (λ (l : List Entry). MayWait r (shown limits nothing_shown marks) marks (state_by s (just_opened base h) l) s c a) same
    (may_wait r limits s base h marks served (subst (λ (l : List Entry). IsRunSeen ⊥ s base h l) (sym same) run) (subst (λ (l : List Entry). ArePacked s (just_opened base h) l) (sym same) packed)
    (subst (λ (l : List Entry). IsAtRest r (shown limits nothing_shown marks) s (just_opened base h) l) (sym same) rest) c a caller
    (subst (λ (l : List Entry). (state_by s (just_opened base h) l).ledger.pending c ≡ Some a) (sym same) waits))
