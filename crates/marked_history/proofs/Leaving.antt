-- What an event leaves outstanding to a session, and what the answer to a session's call tells of its tokens.
use Rattle.std.proofs.Common.{◌≡◌, ℕ, ◌<◌, ◌≤◌, Bool, true, false, List, [], ◌∷◌, length, take, Option, None, Some, inl, inr, refl, sym, ap, subst, ◌∙◌, arith}
use Rattle.std.proofs.lemmas.Bool.{false≢true, true≢false, eq-eqb, ne_eqb}
use Rattle.std.specs.Prelude.{◌==◌, if◌then◌else◌, nat_le}
use Rattle.std.specs.List.{All}
use Rattle.std.specs.Option.{option_map}
use Rattle.hsm_types.specs.Messages.{is_lawful, message_bytes, packed, handed_out, user_message}
use Rattle.hsm_types.specs.Refusals.{first_refusal}
use Rattle.hsm_types.specs.Rights.{right_of, conflict, reaches, busy, too_low, bad_right}
use Rattle.hsm_types.specs.Sessions.{SessionTable, lives, owner, dead_session, not_yours, queue_of, outstanding_of, tokens_of, outstanding_message}
use Rattle.hsm_types.specs.Sessions.{none_fits, bad_response, posted_to, taker, places}
use Rattle.hsm_types.specs.Stubs.{stub_at, not_offline, is_offline, entry_print}
use Rattle.hsm_types.specs.declared.calls.Reply.{Reply}
use Rattle.hsm_types.specs.declared.dm.DmCall.{DmCall}
use Rattle.hsm_types.specs.declared.dm.DmCall.TheVariants.{CreateSession, DestroySession, SetDisp, GetEvents, FindEventMsg, Respond, CreateUserEvent}
use Rattle.hsm_types.specs.declared.dm.DmCall.TheVariants.{SendMsg, RequestRight, GetFileAttr, GetAllocInfo, Restore}
use Rattle.hsm_types.specs.declared.dm.DmRefusal.{DmRefusal}
use Rattle.hsm_types.specs.declared.dm.DmRefusal.TheVariants as why
use Rattle.hsm_types.specs.declared.dm.DmReply.{DmReply}
use Rattle.hsm_types.specs.declared.dm.DmReply.TheVariants.{Packed, Refused}
use Rattle.hsm_types.specs.declared.dm.Response.{Response}
use Rattle.hsm_types.specs.declared.dm.Right.{Right}
use Rattle.hsm_types.specs.declared.dm.Right.TheVariants.{Null, Shared, Excl}
use Rattle.hsm_types.specs.declared.keys.Handle.{Handle}
use Rattle.hsm_types.specs.declared.keys.Sid.{Sid}
use Rattle.hsm_types.specs.declared.keys.Token.{Token}
use Rattle.hsm_types.specs.declared.messages.Message.{Message}
use Rattle.hsm_types.specs.declared.stores.Superblock.{Superblock}
use Rattle.hsm_types.specs.declared.stubs.Stub.{Stub}
use Rattle.plain_model.specs.declared.entries.Action.{Action}
use Rattle.plain_model.specs.declared.entries.Action.TheVariants.{Issue, Resume, Dm}
use Rattle.plain_model.specs.declared.entries.Actor.{Actor}
use Rattle.plain_model.specs.declared.entries.Actor.TheVariants.{Caller, Session}
use Rattle.plain_model.specs.declared.entries.Answer.{Answer}
use Rattle.plain_model.specs.declared.entries.Answer.TheVariants.{Dm as Told}
use Rattle.plain_model.specs.declared.facts.NoRoom.{NoRoom}
use Rattle.plain_model.specs.Effects.{Restores, change_of}
use Rattle.plain_model.specs.Ledger.{next_token}
use Rattle.plain_model.specs.Segments.{past_end, changed_from, same_print, no_room, restore_refusal}
use Rattle.hsm_types.specs.Stubs.{print_of}
use Rattle.plain_model.specs.State.{FileState, Held, State, noted, changed, file_at}
use Rattle.plain_model.specs.Verdict.{flags_now, objection_in, meant_in, reply_to}
use Rattle.plain_model.specs.Services.{bad_own_token, bad_given_token, bad_handle, is_live, service, handed, message_or_none, dm_judged}
use Rattle.plain_model.specs.Services.{dm_reply_where, dm_state_where}
use Rattle.plain_model.specs.Stands.{InOrder}
use Rattle.plain_model.specs.Faults.{is_fault}
use Rattle.plain_model.specs.Exact.{IsOwn, IsAnswer, left_own, left_answered, left_by}
use Rattle.plain_model.proofs.Faultless.{fault_is}
use Rattle.plain_model.proofs.Seeing.{left_own_by}
use Rattle.marked_history.proofs.Handing.{PostsParked, posts_where}
use Rattle.marked_history.proofs.AnyAnswer.{call_so, left_so}
use Rattle.marked_history.proofs.Outstanding.{created_out, ended_out, disposed_out, posted_out, sent_out, delivered_out, responded_out, user_out}
use Rattle.marked_history.proofs.Outstanding.{handed_first, owns_each}

-- ---- how many ids are given

posted_given : (found : Option Sid) (m : Message) (t : SessionTable) → (posted_to found m t).given ≡ t.given
posted_given None m t = refl
posted_given (Some sid) m t = refl

module _ (s : Superblock) (st : State) where
  call_given : (x : Sid) (c : DmCall) → st.sessions.given ≤ (changed (change_of x c) st).sessions.given
  call_given x (CreateSession old info) = omega arith
  call_given x c = omega arith

  parked_given : (after : State) (c : ℕ) (answer : Reply) → PostsParked s st after c answer → st.sessions.given ≤ after.sessions.given
  parked_given after c answer (inl same) = rw same (omega arith)
  parked_given after c answer (inr p) = rw (p.posts, posted_given (taker p.message.kind st.sessions) p.message st.sessions) (omega arith)

  -- they grow
  pub left_given : (who : Actor) (what : Action) (answer : Answer) → st.sessions.given ≤ (left_by s st who what answer).sessions.given
  left_given who what answer = left_so s st (λ (t : SessionTable). st.sessions.given ≤ t.given) (omega arith) call_given parked_given who what answer

-- ---- what is outstanding to a session then

-- where the session is handed messages, each of them is so
abbrev pub Hands : (Message → Type 0) → State → Sid → Actor → Action → Answer → Type 0
Hands P st sid who what answer = (most room : ℕ) (bytes : List ℕ) (tokens : List Token) → who ≡ Session sid → what ≡ Dm (GetEvents most room) → answer ≡ Told (Packed bytes tokens)
    → tokens ≡ tokens_of (handed_out most room (queue_of sid st.sessions)) → All P (handed_out most room (queue_of sid st.sessions))

module _ (s : Superblock) (st : State) (ordered : InOrder st) (P : Message → Type 0) (own : (t : Token) (body : List ℕ) → P (user_message t body)) (sid : Sid) (within : sid.0 ≤ st.sessions.given) (each : All P (outstanding_of sid st.sessions)) where
  abbrev HandsTo : Sid → DmCall → Type 0
  HandsTo x (GetEvents most room) = sid ≡ x → All P (handed_out most room (queue_of sid st.sessions))
  HandsTo x c = Unit {0}

  first_of_queue : (x : Sid) (most room : ℕ) → (sid ≡ x → All P (handed_out most room (queue_of sid st.sessions))) → sid ≡ x → All P (take (length (handed_out most room (queue_of x st.sessions))) (queue_of sid st.sessions))
  first_of_queue x most room hands same =
      let all : All P (take (length (handed_out most room (queue_of sid st.sessions))) (queue_of sid st.sessions)) = subst (λ (l : List Message). All P l) (sym (handed_first most room (queue_of sid st.sessions))) (hands same) in
      subst (λ (y : Sid). All P (take (length (handed_out most room (queue_of y st.sessions))) (queue_of sid st.sessions))) same all

  call_out : (x : Sid) (c : DmCall) → HandsTo x c → All P (outstanding_of sid (changed (change_of x c) st).sessions)
  call_out x (CreateSession old info) hands = created_out P sid st.sessions each old info ordered.ascend within
  call_out x DestroySession hands = ended_out P sid st.sessions each x ordered.ascend
  call_out x (SetDisp kinds) hands = disposed_out P sid st.sessions each x kinds
  call_out x (GetEvents most room) hands = delivered_out P sid st.sessions each x (length (handed_out most room (queue_of x st.sessions))) (first_of_queue x most room hands)
  call_out x (Respond token response) hands = responded_out P sid st.sessions each x token
  call_out x (CreateUserEvent body) hands = user_out P sid st.sessions each x (next_token st.ledger) body (own (next_token st.ledger) body)
  call_out x (SendMsg target body) hands = sent_out P sid st.sessions each target body
  call_out x c hands = each

  told_out : (why : Option DmRefusal) (x : Sid) (c : DmCall) → (why ≡ None → HandsTo x c) → All P (outstanding_of sid (dm_state_where why s st x c).sessions)
  told_out None x c hands = call_out x c (hands refl)
  told_out (Some why) x c hands = each

  parked_out : (after : State) (c : ℕ) (answer : Reply) → PostsParked s st after c answer → All P (outstanding_of sid after.sessions)
  parked_out after c answer (inl same) = subst (λ (t : SessionTable). All P (outstanding_of sid t)) (sym same) each
  parked_out after c answer (inr p) = subst (λ (t : SessionTable). All P (outstanding_of sid t)) (sym p.posts) (posted_out P sid st.sessions each p.message)

  hands_to : (x : Sid) (c : DmCall) (answer : Answer) → answer ≡ Told (dm_reply_where None s st x c) → Hands P st sid (Session x) (Dm c) answer → HandsTo x c
  hands_to x (GetEvents most room) answer is hands = λ same.
      hands most room (packed (handed_out most room (queue_of sid st.sessions))) (tokens_of (handed_out most room (queue_of sid st.sessions)))
      (ap (λ (y : Sid). Session y) (sym same)) refl (is ∙ ap (λ (y : Sid). Told (handed (handed_out most room (queue_of y st.sessions)))) (sym same)) refl
  hands_to x c answer is hands = tt

  own_out : (who : Actor) (what : Action) (answer : Answer) → IsOwn s st who what answer → Hands P st sid who what answer → All P (outstanding_of sid (left_own s st who what).sessions)
  own_out (Caller c) (Issue call) answer is hands = parked_out (left_own s st (Caller c) (Issue call)) c (reply_to s st c (Issue call)) (posts_where s st c (flags_now st c (Issue call)) (objection_in s st c (Issue call)) (meant_in st c (Issue call)))
  own_out (Caller c) Resume answer is hands = parked_out (left_own s st (Caller c) Resume) c (reply_to s st c Resume) (posts_where s st c (flags_now st c Resume) (objection_in s st c Resume) (meant_in st c Resume))
  own_out (Session x) (Dm c) answer is hands = told_out (dm_judged s st x c) x c (λ none. hands_to x c answer (is.1 ∙ ap (λ (o : Option DmRefusal). Told (dm_reply_where o s st x c)) none) hands)
  own_out who what answer is hands = each

  if_out : (fault : Bool) (after : State) → All P (outstanding_of sid after.sessions) → All P (outstanding_of sid (if fault then noted st else after).sessions)
  if_out true after are = each
  if_out false after are = are

  -- what is so of each message that was outstanding to the session, of its own messages, and of each that it is handed, is so after any event
  pub left_out : (who : Actor) (what : Action) (answer : Answer) → IsAnswer s st who what answer → Hands P st sid who what answer → All P (outstanding_of sid (left_by s st who what answer).sessions)
  left_out who what answer (inl is) hands = let fault : is_fault answer ≡ true = ap is_fault is.1 ∙ fault_is what in rw fault each
  left_out who what answer (inr is) hands =
      if_out (is_fault answer) (left_answered s st who what answer) (subst (λ (after : State). All P (outstanding_of sid after.sessions)) (sym (left_own_by s st who what answer is)) (own_out who what answer is hands))

-- ---- refusals that tell of a token

-- the token is outstanding to no session, or to another one
abbrev pub tells_gone : DmRefusal → Bool
tells_gone why.NoToken = true
tells_gone (why.NotYours owner) = true
tells_gone w = false

abbrev gone : Option DmRefusal → Bool
gone None = false
gone (Some w) = tells_gone w

abbrev pub told_gone : DmReply → Bool
told_gone (Refused w) = tells_gone w
told_gone reply = false

abbrev pub is_refused : DmReply → Bool
is_refused (Refused w) = true
is_refused reply = false

not_gone : (o : Option DmRefusal) (rest : List (Option DmRefusal)) → gone o ≡ false → gone (first_refusal rest) ≡ false → gone (first_refusal (o ∷ rest)) ≡ false
not_gone None rest is later = later
not_gone (Some w) rest is later = is

dead_kept : (sid : Sid) (t : SessionTable) → gone (dead_session sid t) ≡ false
dead_kept sid t = elim (lives sid t) as (λ (b : Bool). gone (if b then None else Some why.NoSession) ≡ false) [ true ↦ refl | false ↦ refl ]

busy_kept : (o : Option Token) → gone (busy o) ≡ false
busy_kept None = refl
busy_kept (Some t) = refl

low_kept : (need have : Right) → gone (too_low need have) ≡ false
low_kept need have = elim (reaches have need) as (λ (b : Bool). gone (if b then None else Some (why.NeedRight have)) ≡ false) [ true ↦ refl | false ↦ refl ]

response_kept : (response : Response) → gone (bad_response response) ≡ false
response_kept response = elim (is_lawful response) as (λ (b : Bool). gone (if b then None else Some why.BadResponse) ≡ false) [ true ↦ refl | false ↦ refl ]

fits_kept : (room : ℕ) (l : List Message) → gone (none_fits room l) ≡ false
fits_kept room [] = refl
fits_kept room (m ∷ more) = elim (nat_le (message_bytes m) room) as (λ (b : Bool). gone (if b then None else Some (why.TooSmall (message_bytes m))) ≡ false) [ true ↦ refl | false ↦ refl ]

handle_kept : (s : Superblock) (files : List FileState) (h : Handle) → gone (bad_handle s files h) ≡ false
handle_kept s files h = elim (is_live s files h) as (λ (b : Bool). gone (if b then None else Some why.NoObject) ≡ false) [ true ↦ refl | false ↦ refl ]

right_kept : (b : Bool) (o : Option Token) (need have : Right) → gone (if b then busy o else too_low need have) ≡ false
right_kept true o need have = busy_kept o
right_kept false o need have = low_kept need have

room_kept : (o : Option NoRoom) → gone (option_map (λ (room : NoRoom). why.NoSpace room.need room.free) o) ≡ false
room_kept None = refl
room_kept (Some room) = refl

changed_kept : (found : Option Stub) (bytes : List ℕ) → gone (changed_from found bytes) ≡ false
changed_kept None bytes = refl
changed_kept (Some stub) bytes = elim (same_print (entry_print stub.entry) (print_of bytes)) as (λ (b : Bool). gone (if b then None else Some (why.Changed (entry_print stub.entry) (print_of bytes))) ≡ false) [ true ↦ refl | false ↦ refl ]

offline_kept : (j : ℕ) (found : Option Stub) → gone (not_offline j found) ≡ false
offline_kept j found = elim (is_offline found) as (λ (b : Bool). gone (if b then None else Some (why.NotOffline j)) ≡ false) [ true ↦ refl | false ↦ refl ]

-- the segment starts past the end
end_kept : (b : Bool) → gone (if b then None else Some why.BadRange) ≡ false
end_kept true = refl
end_kept false = refl

restore_kept : (s : Superblock) (h : Held) (f : FileState) (j : ℕ) (bytes : List ℕ) → gone (restore_refusal s h f j bytes) ≡ false
restore_kept s h f j bytes =
    not_gone (past_end j (length f.body)) _ (end_kept _)
    (not_gone (not_offline j (stub_at j f.kept.stubs)) _ (offline_kept j (stub_at j f.kept.stubs))
    (not_gone (changed_from (stub_at j f.kept.stubs) bytes) _ (changed_kept (stub_at j f.kept.stubs) bytes) (not_gone (no_room s h f (Restores j bytes)) [] (room_kept _) refl)))

given_own : (sid : Sid) (token : Token) (t : SessionTable) → bad_own_token sid token t ≡ None → bad_given_token sid token t ≡ None
given_own sid token t none = elim (token.0 == 0) as (λ (b : Bool). (if b then Some why.NoToken else not_yours sid (owner token t)) ≡ None → (if b then None else not_yours sid (owner token t)) ≡ None) [ true ↦ λ is. refl | false ↦ λ is. is ] none

-- ---- what the answer to a session's call tells

-- a call of which the token is the subject
abbrev pub IsOn : Token → DmCall → Type 0
IsOn u (FindEventMsg token room) = token ≡ u
IsOn u (Respond token response) = token ≡ u
IsOn u (RequestRight token handle right) = token ≡ u
IsOn u (GetFileAttr token handle) = token ≡ u
IsOn u (GetAllocInfo token handle) = token ≡ u
IsOn u (Restore token handle segment bytes) = token ≡ u
IsOn u c = ⊥

module _ (s : Superblock) (st : State) (x : Sid) where
  on_file : (token : Token) (h : Handle) (need : Right) (own : Option DmRefusal) → bad_own_token x token st.sessions ≡ None → gone own ≡ false
      → gone (first_refusal (dead_session x st.sessions ∷ bad_given_token x token st.sessions ∷ bad_handle s st.held.files h ∷ bad_right token h.key need st.rights ∷ own ∷ [])) ≡ false
  on_file token h need own none is =
      not_gone (dead_session x st.sessions) _ (dead_kept x st.sessions)
      (not_gone (bad_given_token x token st.sessions) _ (ap gone (given_own x token st.sessions none))
      (not_gone (bad_handle s st.held.files h) _ (handle_kept s st.held.files h) (not_gone (bad_right token h.key need st.rights) _ (right_kept _ _ need _) (not_gone own [] is refl))))

  own_none : (token u : Token) → token ≡ u → bad_own_token x u st.sessions ≡ None → gone (bad_own_token x token st.sessions) ≡ false
  own_none token u is none = ap (λ (t : Token). gone (bad_own_token x t st.sessions)) is ∙ ap gone none

  -- where the token is outstanding to the session, no refusal says that it isn't
  judged_kept : (c : DmCall) (u : Token) → IsOn u c → bad_own_token x u st.sessions ≡ None → gone (dm_judged s st x c) ≡ false
  judged_kept (FindEventMsg token room) u is none =
      let found : List Message = message_or_none (outstanding_message token st.sessions) in
      not_gone (dead_session x st.sessions) (bad_own_token x token st.sessions ∷ none_fits room found ∷ []) (dead_kept x st.sessions)
      (not_gone (bad_own_token x token st.sessions) (none_fits room found ∷ []) (own_none token u is none) (not_gone (none_fits room found) [] (fits_kept room found) refl))
  judged_kept (Respond token response) u is none =
      not_gone (dead_session x st.sessions) (bad_own_token x token st.sessions ∷ bad_response response ∷ []) (dead_kept x st.sessions)
      (not_gone (bad_own_token x token st.sessions) (bad_response response ∷ []) (own_none token u is none) (not_gone (bad_response response) [] (response_kept response) refl))
  judged_kept (RequestRight token h right) u is none =
      let other : Option Token = conflict h.key right token st.rights in
      let has : Right = right_of token h.key st.rights in
      not_gone (dead_session x st.sessions) (bad_own_token x token st.sessions ∷ bad_handle s st.held.files h ∷ too_low Null has ∷ busy other ∷ []) (dead_kept x st.sessions)
      (not_gone (bad_own_token x token st.sessions) (bad_handle s st.held.files h ∷ too_low Null has ∷ busy other ∷ []) (own_none token u is none)
      (not_gone (bad_handle s st.held.files h) (too_low Null has ∷ busy other ∷ []) (handle_kept s st.held.files h) (not_gone (too_low Null has) (busy other ∷ []) (low_kept Null has) (not_gone (busy other) [] (busy_kept other) refl))))
  judged_kept (GetFileAttr token h) u is none = on_file token h Shared None (subst (λ (t : Token). bad_own_token x t st.sessions ≡ None) (sym is) none) refl
  judged_kept (GetAllocInfo token h) u is none = on_file token h Shared None (subst (λ (t : Token). bad_own_token x t st.sessions ≡ None) (sym is) none) refl
  judged_kept (Restore token h j bytes) u is none =
      on_file token h Excl (restore_refusal s st.held (file_at h.key st.held.files) j bytes) (subst (λ (t : Token). bad_own_token x t st.sessions ≡ None) (sym is) none) (restore_kept s st.held (file_at h.key st.held.files) j bytes)
  judged_kept c u is none = absurd is

  -- a call that isn't refused
  not_refused : (c : DmCall) (a : DmReply) (o : Option DmRefusal) → Told a ≡ Told (dm_reply_where o s st x c) → is_refused a ≡ false → (o ≡ None) × (a ≡ (service s st x c).reply)
  not_refused c a None is fine = (refl, cc)
  not_refused c a (Some w) is fine = let same : a ≡ Refused w = cc in absurd (true≢false (sym (ap is_refused same) ∙ fine))

  pub own_reply : (c : DmCall) (a : DmReply) → IsAnswer s st (Session x) (Dm c) (Told a) → is_refused a ≡ false → (dm_judged s st x c ≡ None) × (a ≡ (service s st x c).reply)
  own_reply c a (inl is) fine =
      let told : Told a ≡ Told (Refused why.Disk) = is.1 in
      let same : a ≡ Refused why.Disk = cc in
      absurd (true≢false (sym (ap is_refused same) ∙ fine))
  own_reply c a (inr is) fine = not_refused c a (dm_judged s st x c) is.1 fine

  pub done_left : (c : DmCall) (a : DmReply) → is_refused a ≡ false → (left_by s st (Session x) (Dm c) (Told a)).sessions ≡ (changed (change_of x c) st).sessions
  done_left c (Refused w) fine = absurd (true≢false fine)
  done_left c a fine = refl

  -- a call that changes no session
  pub same_left : (c : DmCall) (a : DmReply) → (changed (change_of x c) st).sessions ≡ st.sessions → (left_by s st (Session x) (Dm c) (Told a)).sessions ≡ st.sessions
  same_left c a same = call_so s st (λ (t : SessionTable). t ≡ st.sessions) refl x c a same

  gone_where : (c : DmCall) (a : DmReply) (o : Option DmRefusal) → told_gone (service s st x c).reply ≡ false → Told a ≡ Told (dm_reply_where o s st x c) → told_gone a ≡ true → gone o ≡ true
  gone_where c a None other is gone = let same : a ≡ (service s st x c).reply = cc in absurd (false≢true (sym other ∙ sym (ap told_gone same) ∙ gone))
  gone_where c a (Some w) other is gone = let same : a ≡ Refused w = cc in sym (ap told_gone same) ∙ gone

  gone_judged : (c : DmCall) (a : DmReply) → told_gone (service s st x c).reply ≡ false → IsAnswer s st (Session x) (Dm c) (Told a) → told_gone a ≡ true → gone (dm_judged s st x c) ≡ true
  gone_judged c a other (inl is) gone =
      let told : Told a ≡ Told (Refused why.Disk) = is.1 in
      let same : a ≡ Refused why.Disk = cc in
      absurd (false≢true (sym (ap told_gone same) ∙ gone))
  gone_judged c a other (inr is) gone = gone_where c a (dm_judged s st x c) other is.1 gone

  own_told : (c : DmCall) (u : Token) → IsOn u c → told_gone (service s st x c).reply ≡ false
  own_told (FindEventMsg token room) u is = refl
  own_told (Respond token response) u is = refl
  own_told (RequestRight token h right) u is = refl
  own_told (GetFileAttr token h) u is = refl
  own_told (GetAllocInfo token h) u is = refl
  own_told (Restore token h j bytes) u is = refl
  own_told c u is = absurd is

  module _ (ordered : InOrder st) where
    at_most : (b : Bool) (n : ℕ) → n ≡ (if b then 1 else 0) → n ≤ 1
    at_most true n is = omega arith
    at_most false n is = omega arith

    pub once : (u : Token) → 0 < u.0 → places u st.sessions ≤ 1
    once u real = at_most (st.ledger.open u.0) (places u st.sessions) (ordered.once u real)

    -- a session's own token isn't refused
    own_kept : (u : Token) → 0 < u.0 → owner u st.sessions ≡ Some x → bad_own_token x u st.sessions ≡ None
    own_kept u real own =
        let some : (u.0 == 0) ≡ false = ne_eqb u.0 0 (λ same. omega (arith, real, same)) in
        let self : (x.0 == x.0) ≡ true = eq-eqb x.0 x.0 refl in
        rw (some, own, self) refl

    -- where an answer says that the token isn't outstanding to the session, it isn't
    pub told_apart : (c : DmCall) (a : DmReply) (u : Token) → IsOn u c → IsAnswer s st (Session x) (Dm c) (Told a) → told_gone a ≡ true
        → All (λ (m : Message). 0 < m.token.0 → m.token.0 ≡ u.0 → ⊥) (outstanding_of x st.sessions)
    told_apart c a u on is gone =
        let says = gone_judged c a (own_told c u on) is gone in
        λ k d lt real same.
        let real_u : 0 < u.0 = subst (λ (n : ℕ). 0 < n) same real in
        let own : owner u st.sessions ≡ Some x = owns_each st.sessions once x u real_u k d lt (eq-eqb _ _ same) in
        true≢false (sym says ∙ judged_kept c u on (own_kept u real_u own))
