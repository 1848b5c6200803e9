-- Each message that an exact history hands out is a session's own, or tells of an access that was parked before.
use Rattle.std.proofs.Common.{◌≡◌, ℕ, ◌<◌, Bool, true, false, List, [], ◌∷◌, ◌++◌, Option, None, Some, inl, inr, refl, sym, ◌∙◌, ap, subst}
use Rattle.std.proofs.Common.{append_assoc, append-nil, arith}
use Rattle.std.proofs.lemmas.Bool.{eq-eqb}
use Rattle.std.specs.Prelude.{◌⊎◌, IfSome, if◌then◌else◌}
use Rattle.std.specs.Option.{option_map}
use Rattle.hsm_types.specs.Daemons.{kinds_of}
use Rattle.hsm_types.specs.Messages.{no_token, takes, user_message}
use Rattle.hsm_types.specs.Refusals.{first_refusal}
use Rattle.hsm_types.specs.Sessions.{SessionTable, no_sessions, posted}
use Rattle.hsm_types.specs.declared.calls.Call.{Call}
use Rattle.hsm_types.specs.declared.calls.Call.TheVariants.{Read, Write, Truncate}
use Rattle.hsm_types.specs.declared.calls.CallRefusal.{CallRefusal}
use Rattle.hsm_types.specs.declared.calls.Reply.{Reply}
use Rattle.hsm_types.specs.declared.calls.Reply.TheVariants.{Parked}
use Rattle.hsm_types.specs.declared.daemons.Daemon.{Daemon}
use Rattle.hsm_types.specs.declared.daemons.Daemon.TheVariants.{Recall, Migrate}
use Rattle.hsm_types.specs.declared.dm.DmCall.{DmCall}
use Rattle.hsm_types.specs.declared.dm.DmCall.TheVariants.{CreateSession, DestroySession, SetDisp, GetEvents, Respond, CreateUserEvent, SendMsg}
use Rattle.hsm_types.specs.declared.dm.DmRefusal.{DmRefusal}
use Rattle.hsm_types.specs.declared.dm.Kind.{Kind}
use Rattle.hsm_types.specs.declared.keys.FileKey.{FileKey}
use Rattle.hsm_types.specs.declared.keys.Handle.{Handle}
use Rattle.hsm_types.specs.declared.keys.Sid.{Sid}
use Rattle.hsm_types.specs.declared.keys.Token.{Token}
use Rattle.hsm_types.specs.declared.messages.Message.{Message}
use Rattle.hsm_types.specs.declared.stores.Superblock.{Superblock}
use Rattle.plain_model.specs.declared.entries.Action.{Action}
use Rattle.plain_model.specs.declared.entries.Action.TheVariants.{Issue, Resume, Dm}
use Rattle.plain_model.specs.declared.entries.Actor.{Actor}
use Rattle.plain_model.specs.declared.entries.Actor.TheVariants.{Caller, Session}
use Rattle.plain_model.specs.declared.entries.Answer.{Answer}
use Rattle.plain_model.specs.declared.entries.Answer.TheVariants.{Call as Replied}
use Rattle.plain_model.specs.declared.entries.Entry.{Entry}
use Rattle.plain_model.specs.declared.facts.NoRoom.{NoRoom}
use Rattle.plain_model.specs.Accesses.{kind_of}
use Rattle.plain_model.specs.Effects.{change_of}
use Rattle.plain_model.specs.Ledger.{Meant, Fixed, Means, next_token}
use Rattle.plain_model.specs.Seen.{blanked}
use Rattle.plain_model.specs.State.{Held, Flags, State, noted, changed}
use Rattle.plain_model.specs.Verdict.{Blocks, Posts, Lacks, Verdict, verdict, reply_by, message_of, flags_now, objection_in, meant_in, reply_where, reply_to}
use Rattle.plain_model.specs.Verdict.{posts, conflicting, touching, needing, without_room, lacking, facts_of, left_by_verdict, state_where}
use Rattle.plain_model.specs.Services.{dm_judged, dm_state_where}
use Rattle.plain_model.specs.Faults.{is_fault}
use Rattle.plain_model.specs.Exact.{IsOwn, IsAnswerSeen, left_own, left_answered, left_by, ExactSeen, state_by}
use Rattle.plain_model.proofs.Alike.{left_alike}
use Rattle.plain_model.proofs.Faultless.{fault_is}
use Rattle.plain_model.proofs.Histories.{state_by-push}
use Rattle.plain_model.proofs.Seeing.{left_own_by}
use Rattle.hsm_core.specs.Answers.{entry_of}
use Rattle.marked_history.specs.Caused.{WaitsOn, WasParked}
use Rattle.marked_history.proofs.Carrying.{Each, each_weaker, none_each, posted_each, created_each, ended_each, disposed_each, delivered_each}
use Rattle.marked_history.proofs.Carrying.{responded_each, made_each, sent_each}
use Rattle.marked_history.proofs.Seen.{over}

-- ---- a session's call

-- the message of its own that a call makes, if it makes one, is so
abbrev pub Makes : (Message → Type 0) → State → DmCall → Type 0
Makes P st (CreateUserEvent body) = P (user_message (next_token st.ledger) body)
Makes P st (SendMsg target body) = P (user_message no_token body)
Makes P st call = Unit {0}

module _ (P : Message → Type 0) (st : State) (each : Each P st.sessions) where
  call_each : (sid : Sid) (call : DmCall) → Makes P st call → Each P (changed (change_of sid call) st).sessions
  call_each sid (CreateSession old info) makes = created_each P old info st.sessions each
  call_each sid DestroySession makes = ended_each P sid st.sessions each
  call_each sid (SetDisp kinds) makes = disposed_each P sid kinds st.sessions each
  call_each sid (GetEvents most room) makes = delivered_each P sid _ st.sessions each
  call_each sid (Respond token response) makes = responded_each P sid token st.sessions each
  call_each sid (CreateUserEvent body) makes = made_each P sid (next_token st.ledger) body st.sessions each makes
  call_each sid (SendMsg target body) makes = sent_each P target body st.sessions each makes
  call_each sid call makes = each

  pub made_told : (why : Option DmRefusal) (s : Superblock) (sid : Sid) (call : DmCall) → (why ≡ None → Makes P st call) → Each P (dm_state_where why s st sid call).sessions
  made_told None s sid call makes = call_each sid call (makes refl)
  made_told (Some why) s sid call makes = each

module _ (P : Message → Type 0) (own : (t : Token) (body : List ℕ) → P (user_message t body)) (st : State) where
  makes_any : (call : DmCall) → Makes P st call
  makes_any (CreateUserEvent body) = own (next_token st.ledger) body
  makes_any (SendMsg target body) = own no_token body
  makes_any call = tt

  pub told_each : Each P st.sessions → (why : Option DmRefusal) (s : Superblock) (sid : Sid) (call : DmCall) → Each P (dm_state_where why s st sid call).sessions
  told_each each why s sid call = made_told P st each why s sid call (λ none. makes_any call)

-- ---- which events are posted

-- a daemon takes the kind
abbrev pub IsDaemonsKind : Kind → Type 0
IsDaemonsKind k = (d : Daemon) × (takes (kinds_of d) k ≡ true)

abbrev PostsWanted : Verdict → Type 0
PostsWanted (Some (Posts k)) = IsDaemonsKind k
PostsWanted v = Unit {0}

first_wanted : (v : Verdict) (rest : List Verdict) → PostsWanted v → PostsWanted (first_refusal rest) → PostsWanted (first_refusal (v ∷ rest))
first_wanted None rest is later = later
first_wanted (Some ruling) rest is later = is

blocks_wanted : (found : Option Token) → PostsWanted (option_map Blocks found)
blocks_wanted None = tt
blocks_wanted (Some t) = tt

touched_wanted : (b : Bool) (call : Call) → PostsWanted (posts b (kind_of call))
touched_wanted false call = tt
touched_wanted true (Read name offset len) = (Recall, refl)
touched_wanted true (Write name offset bytes) = (Recall, refl)
touched_wanted true (Truncate name size) = (Recall, refl)
touched_wanted true call = tt

room_wanted : (asks : Bool) (found : Option NoRoom) → PostsWanted (without_room asks found)
room_wanted asks None = tt
room_wanted true (Some room) = (Migrate, refl)
room_wanted false (Some room) = tt

verdict_wanted : (s : Superblock) (st : State) (fl : Flags) (k : FileKey) (call : Call) → PostsWanted (verdict s st fl k call)
verdict_wanted s st fl k call =
    let facts = facts_of s st.held k call in
    first_wanted (conflicting st.rights k call) (touching fl facts call ∷ needing fl facts call ∷ lacking fl facts st.sessions ∷ []) (blocks_wanted _)
    (first_wanted (touching fl facts call) (needing fl facts call ∷ lacking fl facts st.sessions ∷ []) (touched_wanted _ call)
    (first_wanted (needing fl facts call) (lacking fl facts st.sessions ∷ []) (touched_wanted _ call) (first_wanted (lacking fl facts st.sessions) [] (room_wanted _ _) tt)))

-- ---- a caller's event

-- the message of an access that the event has parked is posted
pub record HasParked (s : Superblock) (st after : State) (c : ℕ) (reply : Reply) : Type 0 where
  pub message : Message
  pub handle : Handle
  pub posts : after.sessions ≡ posted message st.sessions
  pub has : message.handle ≡ Some handle
  pub real : 0 < message.token.0
  pub wanted : IsDaemonsKind message.kind
  pub parks : reply ≡ Parked message.token
  pub waits : WaitsOn s after c message.token handle

-- or none is
abbrev pub PostsParked : Superblock → State → State → ℕ → Reply → Type 0
PostsParked s st after c reply = (after.sessions ≡ st.sessions) ⊎ HasParked s st after c reply

module _ (s : Superblock) (st : State) (c : ℕ) (fl : Flags) where
  posts_verdict : (k : FileKey) (call : Call) (v : Verdict) → PostsWanted v → PostsParked s st (left_by_verdict s st c fl k call v) c (reply_by st k call v)
  posts_verdict k call None wanted = inl refl
  posts_verdict k call (Some (Blocks t)) wanted = inl refl
  posts_verdict k call (Some (Lacks need free)) wanted = inl refl
  posts_verdict k call (Some (Posts kind)) wanted = inr (record {
    message = message_of s st k call kind;
    handle = record { fsid = s.fsid; key = k };
    posts = refl;
    has = refl;
    real = omega arith;
    wanted = wanted;
    parks = refl;
    waits = record {
      access = record { key = k; call = call; token = Some (next_token st.ledger); answer = None };
      waits = rw (eq-eqb c c refl) refl;
      token = refl;
      handle = refl;
    };
  })

  pub posts_where : (why : Option CallRefusal) (m : Meant) → PostsParked s st (state_where s st c fl why m) c (reply_where s st fl why m)
  posts_where why (Fixed reply) = inl refl
  posts_where (Some why) (Means k call) = inl refl
  posts_where None (Means k call) = posts_verdict k call (verdict s st fl k call) (verdict_wanted s st fl k call)

-- ---- any event

module _ (s : Superblock) (st : State) where
  -- the message is a session's own, or tells of an access that was parked
  abbrev pub IsOfParked : List Entry → Message → Type 0
  IsOfParked es m = IfSome m.handle (λ h. WasParked s st es m.token h)

  pub parked_more : (es more : List Entry) (t : Token) (h : Handle) → WasParked s st es t h → WasParked s st (es ++ more) t h
  parked_more es more t h was = record {
    before = was.before;
    caller = was.caller;
    action = was.action;
    rest = was.rest ++ more;
    parted = ap (λ l. l ++ more) was.parted ∙ append_assoc was.before _ more;
    waits = was.waits;
  }

  pub of_parked_more : (es more : List Entry) (t : Token) (found : Option Handle) → IfSome found (λ h. WasParked s st es t h) → IfSome found (λ h. WasParked s st (es ++ more) t h)
  of_parked_more es more t None is = tt
  of_parked_more es more t (Some h) is = parked_more es more t h is

  -- after an entry more, which was answered over what was seen
  module _ (done : List Entry) (seen : Held) (alike : blanked seen ≡ blanked (state_by s st done).held) where
    abbrev now : State
    now = over (state_by s st done) seen

    abbrev after : Actor → Action → Answer → List Entry
    after who what answer = done ++ entry_of who what answer ∷ []

    ends : (who : Actor) (what : Action) (answer : Answer) → IsOwn s now who what answer → state_by s st (after who what answer) ≡ over (left_by s now who what answer) (left_by s (state_by s st done) who what answer).held
    ends who what answer is = state_by-push s st done (entry_of who what answer) ∙ left_alike s (state_by s st done) seen alike who what answer is

    has_parked : (c : ℕ) (what : Action) (t : Token) (h : Handle) → IsOwn s now (Caller c) what (Replied (Parked t)) → WaitsOn s (left_own s now (Caller c) what) c t h → WasParked s st (after (Caller c) what (Replied (Parked t))) t h
    has_parked c what t h is waits = record {
      before = done;
      caller = c;
      action = what;
      rest = [];
      parted = refl;
      waits = subst (λ (x : State). WaitsOn s x c t h) (sym (ends (Caller c) what (Replied (Parked t)) is)) (record { access = waits.access; waits = waits.waits; token = waits.token; handle = waits.handle });
    }

    of_parked : (c : ℕ) (what : Action) (reply : Reply) (m : Message) (h : Handle) → IsOwn s now (Caller c) what (Replied reply) → m.handle ≡ Some h → reply ≡ Parked m.token → WaitsOn s (left_own s now (Caller c) what) c m.token h → IsOfParked (after (Caller c) what (Replied reply)) m
    of_parked c what reply m h is has parks waits =
        let own : IsOwn s now (Caller c) what (Replied (Parked m.token)) = subst (λ (r : Reply). IsOwn s now (Caller c) what (Replied r)) parks is in
        rw has (subst (λ (r : Reply). WasParked s st (after (Caller c) what (Replied r)) m.token h) (sym parks) (has_parked c what m.token h own waits))

    posts_each : (c : ℕ) (what : Action) (reply : Reply) → IsOwn s now (Caller c) what (Replied reply) → PostsParked s now (left_own s now (Caller c) what) c reply → Each (IsOfParked (after (Caller c) what (Replied reply))) now.sessions
        → Each (IsOfParked (after (Caller c) what (Replied reply))) (left_own s now (Caller c) what).sessions
    posts_each c what reply is (inl same) each = subst (λ (t : SessionTable). Each (IsOfParked (after (Caller c) what (Replied reply))) t) (sym same) each
    posts_each c what reply is (inr p) each =
        subst (λ (t : SessionTable). Each (IsOfParked (after (Caller c) what (Replied reply))) t) (sym p.posts)
        (posted_each (IsOfParked (after (Caller c) what (Replied reply))) p.message now.sessions each (of_parked c what reply p.message p.handle is p.has p.parks p.waits))

    own_each : (who : Actor) (what : Action) (answer : Answer) → IsOwn s now who what answer → Each (IsOfParked (after who what answer)) now.sessions → Each (IsOfParked (after who what answer)) (left_own s now who what).sessions
    own_each (Caller c) (Issue call) answer is each =
        let whole = posts_each c (Issue call) (reply_to s now c (Issue call)) (is.0, refl) (posts_where s now c (flags_now now c (Issue call)) (objection_in s now c (Issue call)) (meant_in now c (Issue call))) in
        rw is.1 (whole (rw is.1 at each))
    own_each (Caller c) Resume answer is each =
        let whole = posts_each c Resume (reply_to s now c Resume) (is.0, refl) (posts_where s now c (flags_now now c Resume) (objection_in s now c Resume) (meant_in now c Resume)) in
        rw is.1 (whole (rw is.1 at each))
    own_each (Session sid) (Dm call) answer is each = told_each (IsOfParked (after (Session sid) (Dm call) answer)) (λ t body. tt) now each (dm_judged s now sid call) s sid call
    own_each who what answer is each = each

    if_each : (P : Message → Type 0) (fault : Bool) (own : State) → Each P now.sessions → (fault ≡ false → Each P own.sessions) → Each P (if fault then noted now else own).sessions
    if_each P true own each is = each
    if_each P false own each is = is refl

    left_each : (who : Actor) (what : Action) (answer : Answer) → IsOwn s now who what answer → Each (IsOfParked (after who what answer)) now.sessions → Each (IsOfParked (after who what answer)) (left_by s now who what answer).sessions
    left_each who what answer is each =
        if_each (IsOfParked (after who what answer)) (is_fault answer) (left_answered s now who what answer) each
        (λ none. subst (λ (x : State). Each (IsOfParked (after who what answer)) x.sessions) (sym (left_own_by s now who what answer is)) (own_each who what answer is each))

  -- ---- whole histories

  abbrev EachAt : List Entry → Type 0
  EachAt es = Each (IsOfParked es) (state_by s st es).sessions

  next_each : (done : List Entry) (e : Entry) → IsAnswerSeen ⊥ s (state_by s st done) e.actor e.action e.answer → EachAt done → EachAt (done ++ e ∷ [])
  next_each done e answer each = by answer (each_weaker (IsOfParked done) (IsOfParked (done ++ e ∷ [])) (λ m. of_parked_more done (e ∷ []) m.token m.handle) (state_by s st done).sessions each)
    where
      by : IsAnswerSeen ⊥ s (state_by s st done) e.actor e.action e.answer → Each (IsOfParked (done ++ e ∷ [])) (state_by s st done).sessions → EachAt (done ++ e ∷ [])
      by (inl is) more =
          let fault : is_fault e.answer ≡ true = ap is_fault is.1 ∙ fault_is e.action in
          let still : Each (IsOfParked (done ++ e ∷ [])) (left_by s (state_by s st done) e.actor e.action e.answer).sessions = rw fault more in
          subst (λ (x : State). Each (IsOfParked (done ++ e ∷ [])) x.sessions) (sym (state_by-push s st done e)) still
      by (inr is) more =
          subst (λ (x : State). Each (IsOfParked (done ++ e ∷ [])) x.sessions) (sym (ends done is.0 is.1.alike e.actor e.action e.answer is.2)) (left_each done is.0 is.1.alike e.actor e.action e.answer is.2 more)

  each_at : (done before : List Entry) (e : Entry) (rest : List Entry) → ExactSeen ⊥ s (state_by s st done) (before ++ e ∷ rest) → EachAt done → EachAt (done ++ before)
  each_at done [] e rest exact each = subst EachAt (sym (append-nil done)) each
  each_at done (x ∷ more) e rest exact each =
      subst EachAt (append_assoc done (x ∷ []) more)
      (each_at (done ++ x ∷ []) more e rest (subst (λ (y : State). ExactSeen ⊥ s y (more ++ e ∷ rest)) (sym (state_by-push s st done x)) exact.2) (next_each done x exact.0 each))

  -- each message of the sessions before an entry
  pub each_parked : (es : List Entry) → st.sessions ≡ no_sessions → ExactSeen ⊥ s st es → (before : List Entry) (e : Entry) (rest : List Entry) → es ≡ before ++ e ∷ rest → EachAt before
  each_parked es none exact before e rest is =
      let first : EachAt [] = subst (λ (t : SessionTable). Each (IsOfParked []) t) (sym none) (none_each (IsOfParked [])) in
      each_at [] before e rest (subst (λ (l : List Entry). ExactSeen ⊥ s st l) is exact) first
