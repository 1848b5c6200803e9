-- What the store answers is a legal step from each world that it stands for, and it stands for the world after it.
use Rattle.std.proofs.Common.{◌≡◌, ◌-◌, ℕ, List, [], ◌∷◌, length, Bool, true, false, Option, Some, None, inl, inr, refl, sym, ◌∙◌, ap, subst, arith}
use Rattle.std.specs.Prelude.{nat_lt, if◌then◌else◌}
use Rattle.hsm_types.proofs.Righted.{conflict-held}
use Rattle.hsm_types.specs.declared.keys.FileKey.{FileKey}
use Rattle.hsm_types.specs.declared.stores.Superblock.{Superblock}
use Rattle.hsm_types.specs.declared.calls.Call.{Call}
use Rattle.hsm_types.specs.declared.calls.Call.TheVariants.{Create, Read, Write, Truncate, Remove, Stat, Sync}
use Rattle.hsm_types.specs.declared.calls.CallRefusal.{CallRefusal}
use Rattle.hsm_types.specs.declared.calls.CallRefusal.TheVariants.{NoSpace, Waiting, Idle}
use Rattle.hsm_types.specs.declared.calls.Reply.{Reply}
use Rattle.hsm_types.specs.declared.calls.Reply.TheVariants.{Done, Made, Data, Size, Parked, Blocked, Still, Refused}
use Rattle.hsm_types.specs.Messages.{no_token}
use Rattle.plain_model.specs.declared.entries.Entry.{Entry}
use Rattle.plain_model.specs.declared.entries.Actor.{Actor}
use Rattle.plain_model.specs.declared.entries.Actor.TheVariants.{Caller, Session, Store}
use Rattle.plain_model.specs.declared.entries.Action.{Action}
use Rattle.plain_model.specs.declared.entries.Action.TheVariants.{Issue, Resume, Dm, Commit}
use Rattle.plain_model.specs.declared.entries.Answer.{Answer}
use Rattle.plain_model.specs.declared.facts.Facts.{Facts}
use Rattle.plain_model.specs.Effects.{Makes, Drops, Writes, Resizes, effect_of}
use Rattle.plain_model.specs.Plain.{File, listing, free_inode, body_of}
use Rattle.plain_model.specs.Accesses.{need_of}
use Rattle.plain_model.specs.Ledger.{Ledger, Meant, Fixed, Means, next_token, meant, objection, ledger_replied}
use Rattle.plain_model.specs.Blocks.{touched}
use Rattle.plain_model.specs.State.{FileState, Held, Flags, State, just_opened, noted, names_of, next_key, file_at, bytes_of, used}
use Rattle.plain_model.specs.Verdict.{Blocks, Posts, Lacks, Verdict, facts_of, conflicting, touching, needing}
use Rattle.plain_model.specs.Verdict.{lacking, verdict, done_reply, reply_by, flags_now, objection_in, meant_in, reply_where, reply_to}
use Rattle.plain_model.specs.Verdict.{left_by_verdict, state_where, state_after}
use Rattle.plain_model.specs.Services.{dm_judged}
use Rattle.plain_model.specs.Faults.{is_fault}
use Rattle.plain_model.specs.Step.{World, start, IsOutcome, MayReply, meant_for, objection_for, replied, MayAnswer, MayGive, given, after}
use Rattle.plain_model.specs.Legal.{Legal, After}
use Rattle.plain_model.specs.Stands.{HasBody, Stands, StandsFor, InOrder}
use Rattle.plain_model.specs.Exact.{IsOwn, IsAnswer, left_own, left_answered, left_by, Exact, state_by}
use Rattle.plain_model.specs.Laws.{IsOpening}
use Rattle.plain_model.proofs.Unstopped.{read_free, call_sound}
use Rattle.plain_model.proofs.SoundEffects.{IsSoundAt, sound_at, affected_stands, names_stand, file_stands}
use Rattle.plain_model.proofs.Faultless.{fault_is}
use Rattle.plain_model.proofs.SessionAnswers.{same_read, may_tell, told_stands}
use Rattle.plain_model.proofs.Judged.{none_first, Says, meant_says}
use Rattle.plain_model.proofs.Ruling.{wants, short_by, rules_follow}
use Rattle.plain_model.proofs.Orders.{event_ordered, ordered_at_first}
use Rattle.plain_model.proofs.Seeing.{left_own_by}

-- ---- a call to which nothing objects

module _ (s : Superblock) (st : State) (W : World) (stands : StandsFor st W) where
  names : names_of st.held.files ≡ listing W.files
  names = names_stand st.held.files W.files stands.files

  bytes : (k : FileKey) → HasBody (file_at k st.held.files) (body_of k W.files)
  bytes k = file_stands k st.held.files W.files stands.files

  same_left : (c : ℕ) (m : Meant) (reply : Reply) → ledger_replied st.ledger c m reply ≡ ledger_replied W.ledger c m reply
  same_left c m reply = ap (λ (L : Ledger). ledger_replied L c m reply) stands.ledger

  -- rules 4 and 5 don't apply where none does
  unstopped : (fl : Flags) (k : FileKey) (call : Call) → verdict s st fl k call ≡ None → (touching fl (facts_of s st.held k call) call ≡ None) × (needing fl (facts_of s st.held k call) call ≡ None)
  unstopped fl k call is =
      let facts : Facts = facts_of s st.held k call in
      let past_third = none_first (conflicting st.rights k call) (touching fl facts call ∷ needing fl facts call ∷ lacking fl facts st.sessions ∷ []) is in
      let past_fourth = none_first (touching fl facts call) (needing fl facts call ∷ lacking fl facts st.sessions ∷ []) past_third.1 in
      let past_fifth = none_first (needing fl facts call) (lacking fl facts st.sessions ∷ []) past_fourth.1 in
      (past_fourth.0, past_fifth.0)

  outcome : (fl : Flags) (k : FileKey) (call : Call) → verdict s st fl k call ≡ None → IsOutcome W k call (done_reply st.held k call)
  outcome fl k (Create name) none = ((ap (free_inode 1) names, stands.newer), refl)
  outcome fl k (Read name o n) none =
      let f : FileState = file_at k st.held.files in
      let past = unstopped fl k (Read name o n) none in
      (tt, ap Data (same_read f (body_of k W.files) (bytes k) o n (read_free f (bytes k).covered fl (facts_of s st.held k (Read name o n)) name o n (refl, refl) past.0 past.1)))
  outcome fl k (Write name o b) none = (tt, refl)
  outcome fl k (Truncate name n) none = (tt, refl)
  outcome fl k (Remove name) none = (tt, refl)
  outcome fl k (Stat name) none = (tt, ap (λ n. Size n) (bytes k).size)
  outcome fl k Sync none = (tt, refl)

  done_sound : (fl : Flags) (k : FileKey) (call : Call) → verdict s st fl k call ≡ None → IsSoundAt (effect_of call) k st.held.files
  done_sound fl k call none =
      let past = unstopped fl k call none in
      sound_at (effect_of call) k st.held.files (call_sound (file_at k st.held.files) (bytes k).covered fl (facts_of s st.held k call) call (refl, refl) past.0 past.1)

  done_stands : (c : ℕ) (fl : Flags) (k : FileKey) (call : Call) → verdict s st fl k call ≡ None → StandsFor (left_by_verdict s st c fl k call None) (replied W c (Means k call) (done_reply st.held k call))
  done_stands c fl k (Create name) none = record {
    files = affected_stands (Makes name) (next_key st.held) st.held.files W.files (sound_at (Makes name) (next_key st.held) st.held.files tt) stands.files;
    newer = omega arith;
    ledger = same_left c (Means k (Create name)) (Made (next_key st.held));
  }
  done_stands c fl k (Write name o b) none = record { files = affected_stands (Writes o b) k st.held.files W.files (done_sound fl k (Write name o b) none) stands.files; newer = stands.newer; ledger = same_left c (Means k (Write name o b)) Done }
  done_stands c fl k (Truncate name n) none = record { files = affected_stands (Resizes n) k st.held.files W.files (done_sound fl k (Truncate name n) none) stands.files; newer = stands.newer; ledger = same_left c (Means k (Truncate name n)) Done }
  done_stands c fl k (Remove name) none = record { files = affected_stands Drops k st.held.files W.files (done_sound fl k (Remove name) none) stands.files; newer = stands.newer; ledger = same_left c (Means k (Remove name)) Done }
  done_stands c fl k (Read name o n) none = record { files = stands.files; newer = stands.newer; ledger = same_left c (Means k (Read name o n)) (done_reply st.held k (Read name o n)) }
  done_stands c fl k (Stat name) none = record { files = stands.files; newer = stands.newer; ledger = same_left c (Means k (Stat name)) (done_reply st.held k (Stat name)) }
  done_stands c fl k Sync none = record { files = stands.files; newer = stands.newer; ledger = same_left c (Means k Sync) Done }

  verdict_step : (c : ℕ) (fl : Flags) (k : FileKey) (call : Call) (v : Verdict) → verdict s st fl k call ≡ v
      → (InOrder st → IsOutcome W k call (reply_by st k call v)) × StandsFor (left_by_verdict s st c fl k call v) (replied W c (Means k call) (reply_by st k call v))
  verdict_step c fl k call None is = ((λ ordered. outcome fl k call is), done_stands c fl k call is)
  verdict_step c fl k call (Some (Blocks t)) is =
      let held = rules_follow s st fl k call (Blocks t) is in (
        (λ ordered. (held.0, ap (λ (L : Ledger). L.open t.0) (sym stands.ledger) ∙ conflict-held (λ h. st.ledger.open h.token.0 ≡ true) k (need_of call) no_token t st.rights ordered.held held.1)),
        record { files = stands.files; newer = stands.newer; ledger = same_left c (Means k call) (Blocked t) },
      )
  verdict_step c fl k call (Some (Posts kind)) is = (
    (λ ordered. (rules_follow s st fl k call (Posts kind) is, ap next_token stands.ledger)),
    record { files = stands.files; newer = stands.newer; ledger = same_left c (Means k call) (Parked (next_token st.ledger)) },
  )
  verdict_step c fl k call (Some (Lacks need free)) is =
      let size : ℕ = length (bytes_of k st.held.files) in
      let short = short_by (nat_lt (s.geometry.blocks - used st.held.files) (length (touched (effect_of call) size))) (length (touched (effect_of call) size)) (s.geometry.blocks - used st.held.files) need free refl (rules_follow s st fl k call (Lacks need free) is) in (
        (λ ordered. (wants call size (s.geometry.blocks - used st.held.files) short.2, rw (← short.0, ← short.1) short.2)),
        record { files = stands.files; newer = stands.newer; ledger = same_left c (Means k call) (Refused (NoSpace need free)) },
      )

  where_step : (c : ℕ) (fl : Flags) (why : Option CallRefusal) (m : Meant) → Says m
      → (InOrder st → MayReply W why m (reply_where s st fl why m)) × StandsFor (state_where s st c fl why m) (replied W c m (reply_where s st fl why m))
  where_step c fl why (Fixed (Refused Waiting)) says = ((λ ordered. refl), record { files = stands.files; newer = stands.newer; ledger = same_left c (Fixed (Refused Waiting)) (Refused Waiting) })
  where_step c fl why (Fixed (Refused Idle)) says = ((λ ordered. refl), record { files = stands.files; newer = stands.newer; ledger = same_left c (Fixed (Refused Idle)) (Refused Idle) })
  where_step c fl why (Fixed (Still t)) says = ((λ ordered. refl), record { files = stands.files; newer = stands.newer; ledger = same_left c (Fixed (Still t)) (Still t) })
  where_step c fl why (Fixed reply) says = absurd says
  where_step c fl None (Means k call) says = verdict_step c fl k call (verdict s st fl k call) refl
  where_step c fl (Some why) (Means k call) says = ((λ ordered. refl), record { files = stands.files; newer = stands.newer; ledger = same_left c (Means k call) (Refused why) })

  pub same_meant : (c : ℕ) (what : Action) → meant_in st c what ≡ meant_for W c what
  same_meant c what i = meant (names i) ((stands.ledger i).pending c) what

  same_objection : (c : ℕ) (what : Action) → objection_in s st c what ≡ objection_for s W c what
  same_objection c what i = objection s (names i) ((stands.ledger i).pending c) what

  call_step : (c : ℕ) (what : Action) → (InOrder st → MayReply W (objection_for s W c what) (meant_for W c what) (reply_to s st c what)) × StandsFor (state_after s st c what) (replied W c (meant_for W c what) (reply_to s st c what))
  call_step c what =
      let step = where_step c (flags_now st c what) (objection_in s st c what) (meant_in st c what) (meant_says (names_of st.held.files) (st.ledger.pending c) what) in (
        subst (λ (m : Meant). InOrder st → MayReply W (objection_for s W c what) m (reply_to s st c what)) (same_meant c what)
            (subst (λ (why : Option CallRefusal). InOrder st → MayReply W why (meant_in st c what) (reply_to s st c what)) (same_objection c what) step.0),
        subst (λ (m : Meant). StandsFor (state_after s st c what) (replied W c m (reply_to s st c what))) (same_meant c what) step.1,
      )

-- ---- any event

own_may : (s : Superblock) (st : State) (W : World) (who : Actor) (what : Action) (answer : Answer) → StandsFor st W → InOrder st → IsOwn s st who what answer → MayAnswer s W who what answer
own_may s st W (Caller c) (Issue call) answer stands ordered is = rw is.1 ((call_step s st W stands c (Issue call)).0 ordered)
own_may s st W (Caller c) Resume answer stands ordered is = rw is.1 ((call_step s st W stands c Resume).0 ordered)
own_may s st W (Session sid) (Dm call) answer stands ordered is = rw is.1 (may_tell s st W stands sid call (dm_judged s st sid call) ordered refl)
own_may s st W Store Commit answer stands ordered is = rw is.1 refl
own_may s st W who what answer stands ordered is = absurd is.0

own_stands : (s : Superblock) (st : State) (W : World) (who : Actor) (what : Action) (answer : Answer) → StandsFor st W → IsOwn s st who what answer → StandsFor (left_own s st who what) (given W who what answer)
own_stands s st W (Caller c) (Issue call) answer stands is = rw is.1 (call_step s st W stands c (Issue call)).1
own_stands s st W (Caller c) Resume answer stands is = rw is.1 (call_step s st W stands c Resume).1
own_stands s st W (Session sid) (Dm call) answer stands is = rw is.1 (told_stands s st W stands sid call (dm_judged s st sid call) refl)
own_stands s st W Store Commit answer stands is = (record { files = stands.files; newer = stands.newer; ledger = stands.ledger })
own_stands s st W who what answer stands is = absurd is.0

if_stands : (fault : Bool) (st own : State) (W V : World) → StandsFor (noted st) W → (fault ≡ false → StandsFor own V) → StandsFor (if fault then noted st else own) (if fault then W else V)
if_stands true st own W V still done = still
if_stands false st own W V still done = done refl

faulty_stands : (fault : Bool) (st own : State) (W V : World) → fault ≡ true → StandsFor (noted st) W → StandsFor (if fault then noted st else own) (if fault then W else V)
faulty_stands true st own W V is still = still
faulty_stands false st own W V is still = cc

-- the store after an event stands for the world after it
pub event_stands : (s : Superblock) (st : State) (W : World) (e : Entry) → StandsFor st W → IsAnswer s st e.actor e.action e.answer → StandsFor (left_by s st e.actor e.action e.answer) (after W e)
event_stands s st W e stands (inl is) =
    faulty_stands (is_fault e.answer) st (left_answered s st e.actor e.action e.answer) W (given W e.actor e.action e.answer) (ap is_fault is.1 ∙ fault_is e.action)
    (record { files = stands.files; newer = stands.newer; ledger = stands.ledger })
event_stands s st W e stands (inr is) =
    if_stands (is_fault e.answer) st (left_answered s st e.actor e.action e.answer) W (given W e.actor e.action e.answer) (record { files = stands.files; newer = stands.newer; ledger = stands.ledger })
    (λ none. subst (λ (left : State). StandsFor left (given W e.actor e.action e.answer)) (sym (left_own_by s st e.actor e.action e.answer is)) (own_stands s st W e.actor e.action e.answer stands is))

event_may : (s : Superblock) (st : State) (W : World) (e : Entry) → StandsFor st W → InOrder st → IsAnswer s st e.actor e.action e.answer → MayGive s W e.actor e.action e.answer
event_may s st W e stands ordered (inl is) = inl is
event_may s st W e stands ordered (inr is) = inr (own_may s st W e.actor e.action e.answer stands ordered is)

steps : (s : Superblock) (st : State) (W : World) (es : List Entry) → StandsFor st W → InOrder st → Exact s st es → Legal s W es × StandsFor (state_by s st es) (After W es)
steps s st W [] stands ordered exact = (tt, stands)
steps s st W (e ∷ es) stands ordered exact =
    let rest = steps s (left_by s st e.actor e.action e.answer) (after W e) es (event_stands s st W e stands exact.0) (event_ordered s st e ordered exact.0) exact.2 in
    ((event_may s st W e stands ordered exact.0, exact.1, rest.0), rest.1)

-- a store that was just opened stands for each plain map that what it holds does
pub stands_at_first : (base : ℕ) (h : Held) (P : List File) → IsOpening h → Stands h.files P → StandsFor (just_opened base h) (start P)
stands_at_first base h P opening stands = record { files = stands; newer = rw (names_stand h.files P stands) at opening; ledger = refl }

-- from each plain map that the opening stands for an exact history is legal, and the store stands for the map that it leaves
pub exact_is_legal : (s : Superblock) (base : ℕ) (h : Held) (es : List Entry) (P : List File) → IsOpening h → Exact s (just_opened base h) es → Stands h.files P
    → Legal s (start P) es × StandsFor (state_by s (just_opened base h) es) (After (start P) es)
exact_is_legal s base h es P opening exact stands = steps s (just_opened base h) (start P) es (stands_at_first base h P opening stands) (ordered_at_first base h) exact
