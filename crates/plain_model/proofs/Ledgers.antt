-- What an event of an exact run does to the ledger.
use Rattle.std.proofs.Common.{◌≡◌, ◌<◌, ◌≤◌, ◌+◌, ℕ, List, [], ◌∷◌, Bool, true, false, Option, Some, None, inl, inr, refl, sym, ◌∙◌, ap, subst, arith}
use Rattle.std.proofs.lemmas.Bool.{eqb-true, eq-eqb, ne_eqb, false≢true, cases_lt}
use Rattle.std.proofs.lemmas.Bool.Decides.{nat_tests}
use Rattle.std.specs.Prelude.{◌==◌, if◌then◌else◌, IfSome}
use Rattle.hsm_types.specs.Sessions.{dead_session, bad_response}
use Rattle.hsm_types.specs.Refusals.{first_refusal}
use Rattle.hsm_types.specs.declared.keys.FileKey.{FileKey}
use Rattle.hsm_types.specs.declared.keys.Sid.{Sid}
use Rattle.hsm_types.specs.declared.keys.Token.{Token}
use Rattle.hsm_types.specs.declared.calls.Call.{Call}
use Rattle.hsm_types.specs.declared.calls.Call.TheVariants.{Create, Read, Stat}
use Rattle.hsm_types.specs.declared.calls.CallRefusal.{CallRefusal}
use Rattle.hsm_types.specs.declared.calls.CallRefusal.TheVariants.{Disk}
use Rattle.hsm_types.specs.declared.calls.Reply.{Reply}
use Rattle.hsm_types.specs.declared.calls.Reply.TheVariants.{Parked, Refused}
use Rattle.hsm_types.specs.declared.dm.DmCall.{DmCall}
use Rattle.hsm_types.specs.declared.dm.DmCall.TheVariants.{Respond, CreateUserEvent}
use Rattle.hsm_types.specs.declared.dm.DmRefusal.{DmRefusal}
use Rattle.hsm_types.specs.declared.dm.DmRefusal.TheVariants as dm
use Rattle.hsm_types.specs.declared.dm.DmReply.TheVariants as told
use Rattle.hsm_types.specs.declared.dm.Response.{Response}
use Rattle.hsm_types.specs.declared.dm.Response.TheVariants.{Continue, Abort, Media}
use Rattle.hsm_types.specs.declared.stores.Superblock.{Superblock}
use Rattle.plain_model.specs.declared.entries.Actor.{Actor}
use Rattle.plain_model.specs.declared.entries.Actor.TheVariants.{Caller, Session, Store}
use Rattle.plain_model.specs.declared.entries.Action.{Action}
use Rattle.plain_model.specs.declared.entries.Action.TheVariants.{Issue, Resume, Dm, Commit}
use Rattle.plain_model.specs.declared.entries.Answer.{Answer}
use Rattle.plain_model.specs.declared.entries.Answer.TheVariants.{Call as Replied, Dm as Told}
use Rattle.hsm_types.specs.Keyed.{set_at}
use Rattle.plain_model.specs.Plain.{Listed, has_key, reply_on}
use Rattle.plain_model.specs.Ledger.{Access, Ledger, Meant, Fixed, Means, next_token, issued, goes_on, resumed, aborted, gone, objection_again}
use Rattle.plain_model.specs.Ledger.{left_waiting, waiting_after, top_by, open_by, ledger_replied, waits_for, answered}
use Rattle.plain_model.specs.Once.{gives, takes, is_taken, MustWait, either, used_by, waits_by, on_taken}
use Rattle.plain_model.specs.State.{Flags, no_flags, State, names_of, noted}
use Rattle.plain_model.specs.Verdict.{Blocks, Posts, Lacks, Verdict, verdict, reply_by, reply_where, state_where, objection_in, reply_to, state_after}
use Rattle.plain_model.specs.Services.{bad_own_token, service, dm_judged, dm_reply_where, dm_state_where}
use Rattle.plain_model.specs.Faults.{is_fault, IsFault}
use Rattle.plain_model.specs.Stands.{Awaits, InOrder}
use Rattle.plain_model.specs.Exact.{IsOwn, IsAnswer, left_own, left_answered, left_by}
use Rattle.plain_model.proofs.Faultless.{fault_is, own_faultless}
use Rattle.plain_model.proofs.Judged.{none_first, Says, meant_says}
use Rattle.plain_model.proofs.Orders.{owned_open}
use Rattle.plain_model.proofs.Seeing.{left_own_by}

-- what waits is an access on that token, with that response or none
abbrev pub IsOn : Token → Option Response → Option Access → Type 0
IsOn t answer None = ⊥
IsOn t answer (Some a) = (a.token ≡ Some t) × (a.answer ≡ answer)

-- an access that parks waits for the token that it was given
abbrev pub Parks : Ledger → Actor → Answer → Type 0
Parks M (Caller c) (Replied (Parked t)) = IsOn t None (M.pending c)
Parks M who answer = Unit {0}

pub record Moves (L M : Ledger) (who : Actor) (what : Action) (answer : Answer) : Type 0 where
  -- a token that is given is a new one
  pub given : (u : ℕ) → gives answer ≡ Some u → (L.top < u) × (u ≤ M.top)
  pub rises : L.top ≤ M.top
  -- a response is taken to an open token, and closes it
  pub taken : (u : ℕ) → is_taken u (takes what answer) ≡ true → (u ≤ L.top) × (L.open u ≡ true) × (M.open u ≡ false)
  -- no old token opens again
  pub stays : (u : ℕ) → u ≤ L.top → L.open u ≡ false → M.open u ≡ false
  pub parks : Parks M who answer
  -- an access waits for the response to its token, and then to use that up
  pub waits : (c : ℕ) (t : Token) → IsOn t None (L.pending c) → on_taken t.0 (takes what answer) (λ r. IsOn t (Some r) (M.pending c)) (waits_by c t.0 who what answer (IsOn t None (M.pending c)))
  pub uses : (c : ℕ) (t : Token) (r : Response) → IsOn t (Some r) (L.pending c) → used_by c t.0 r who what answer (IsOn t (Some r) (M.pending c))

-- ---- a caller's event

-- a reply that parks gives the next token, and leaves the access waiting for it
abbrev ParksNext : Ledger → Option Access → Reply → Type 0
ParksNext L left (Parked t) = (t ≡ next_token L) × IsOn t None left
ParksNext L left reply = Unit {0}

same_number : (t u : Token) → t ≡ u → t.0 ≡ u.0
same_number t u same i = (same i).0

module _ (L : Ledger) (left : Option Access) where
  gives_new : (reply : Reply) → ParksNext L left reply → (u : ℕ) → gives (Replied reply) ≡ Some u → (L.top < u) × (u ≤ top_by L.top reply)
  gives_new (Parked t) next u is = let same : t.0 ≡ u = cc in let new = same_number t (next_token L) next.0 in (omega arith, omega arith)
  gives_new reply next u is = cc

  top_rises : (reply : Reply) → ParksNext L left reply → L.top ≤ top_by L.top reply
  top_rises (Parked t) next = let new = same_number t (next_token L) next.0 in omega arith
  top_rises reply next = omega arith

  stays_shut : (reply : Reply) → ParksNext L left reply → (u : ℕ) → u ≤ L.top → L.open u ≡ false → open_by L.open reply u ≡ false
  stays_shut (Parked t) next u old shut = let new = same_number t (next_token L) next.0 in let apart : (u == t.0) ≡ false = grind (arith, nat_tests) in rw (apart, shut) refl
  stays_shut reply next u old shut = shut

  parked_on : (c : ℕ) (M : Ledger) (reply : Reply) → M.pending c ≡ left → ParksNext L left reply → Parks M (Caller c) (Replied reply)
  parked_on c M (Parked t) is next = subst (IsOn t None) (sym is) next.1
  parked_on c M reply is next = tt

-- what is true at the place of a new value, and at each other place
at_apart : {V : Type 0} (P : ℕ → V → Type 0) (c : ℕ) (v : V) (f : ℕ → V) → P c v → ((d : ℕ) → (c == d) ≡ false → P d (f d)) → (d : ℕ) → P d (set_at c v f d)
at_apart P c v f here there d = elim (d == c) as (λ b. (d == c) ≡ b → P d (if b then v else f d)) [
  | true ↦ λ same. subst (λ x. P x v) (sym (eqb-true d c same)) here
  | false ↦ λ apart. there d (grind (arith, nat_tests))
] refl

own_either : (c : ℕ) (A B : Type 0) → A → either (c == c) A B
own_either c A B h = rw (eq-eqb c c refl) h

-- an event of another caller uses no response up
used_other : (c d t : ℕ) (r : Response) (what : Action) (answer : Answer) (later : Type 0) → (d == c) ≡ false → later → used_by c t r (Caller d) what answer later
used_other c d t r Resume (Replied (Refused Disk)) later apart h = h
used_other c d t r Resume (Replied reply) later apart h = rw apart h
used_other c d t r what answer later apart h = h

caller_moves : (L : Ledger) (c : ℕ) (what : Action) (m : Meant) (reply : Reply) → takes what (Replied reply) ≡ None → ParksNext L (waiting_after m reply (L.pending c)) reply
    → ((t : Token) → IsOn t None (L.pending c) → MustWait t.0 what (Replied reply) × IsOn t None (waiting_after m reply (L.pending c)))
    → ((t : Token) (r : Response) → IsOn t (Some r) (L.pending c) → used_by c t.0 r (Caller c) what (Replied reply) (IsOn t (Some r) (waiting_after m reply (L.pending c))))
    → Moves L (ledger_replied L c m reply) (Caller c) what (Replied reply)
caller_moves L c what m reply none next own_waits own_uses = let left : Option Access = waiting_after m reply (L.pending c) in record {
  given = gives_new L left reply next;
  rises = top_rises L left reply next;
  taken = λ u is. let wrong : false ≡ true = ap (is_taken u) (sym none) ∙ is in absurd (false≢true wrong);
  stays = stays_shut L left reply next;
  parks = parked_on L left c (ledger_replied L c m reply) reply (rw (eq-eqb c c refl) refl) next;
  waits = λ d t on. rw none (
      at_apart (λ e p. IsOn t None (L.pending e) → either (c == e) (MustWait t.0 what (Replied reply) × IsOn t None p) (IsOn t None p)) c left L.pending
      (λ here. own_either c _ _ (own_waits t here)) (λ e apart there. rw apart there) d on);
  uses = λ d t r on.
      at_apart (λ e p. IsOn t (Some r) (L.pending e) → used_by e t.0 r (Caller c) what (Replied reply) (IsOn t (Some r) p)) c left L.pending
      (λ here. own_uses t r here) (λ e apart there. used_other e c t.0 r what (Replied reply) _ apart there) d on;
}

-- ---- the store's reply to it

next_done : (L : Ledger) (left : Option Access) (k : FileKey) (body : List ℕ) (call : Call) → ParksNext L left (reply_on k body call)
next_done L left k body (Create name) = tt
next_done L left k body (Read name offset len) = tt
next_done L left k body (Stat name) = tt
next_done L left k body call = tt

next_by : (st : State) (k : FileKey) (call : Call) (v : Verdict) → ParksNext st.ledger (left_waiting k call (reply_by st k call v)) (reply_by st k call v)
next_by st k call (Some (Blocks t)) = tt
next_by st k call (Some (Posts kind)) = (refl, (refl, refl))
next_by st k call (Some (Lacks need free)) = tt
next_by st k call None = next_done st.ledger _ _ _ call

used_done : (c t : ℕ) (later : Type 0) (k : FileKey) (body : List ℕ) (call : Call) → used_by c t Continue (Caller c) Resume (Replied (reply_on k body call)) later
used_done c t later k body (Create name) = own_either c _ later tt
used_done c t later k body (Read name offset len) = own_either c _ later tt
used_done c t later k body (Stat name) = own_either c _ later tt
used_done c t later k body call = own_either c _ later tt

used_verdict : (st : State) (c t : ℕ) (later : Type 0) (k : FileKey) (call : Call) (v : Verdict) → used_by c t Continue (Caller c) Resume (Replied (reply_by st k call v)) later
used_verdict st c t later k call (Some (Blocks u)) = own_either c _ later tt
used_verdict st c t later k call (Some (Posts kind)) = own_either c _ later tt
used_verdict st c t later k call (Some (Lacks need free)) = own_either c _ later tt
used_verdict st c t later k call None = used_done c t later _ _ call

module _ (s : Superblock) (st : State) (fl : Flags) where
  next_where : (why : Option CallRefusal) (m : Meant) (p : Option Access) → Says m → ParksNext st.ledger (waiting_after m (reply_where s st fl why m) p) (reply_where s st fl why m)
  next_where why (Fixed (Parked t)) p says = absurd says
  next_where why (Fixed reply) p says = tt
  next_where (Some why) (Means k call) p says = tt
  next_where None (Means k call) p says = next_by st k call (verdict s st fl k call)

  left_ledger : (c : ℕ) (why : Option CallRefusal) (m : Meant) → (state_where s st c fl why m).ledger ≡ ledger_replied st.ledger c m (reply_where s st fl why m)
  left_ledger c why (Fixed reply) = refl
  left_ledger c (Some why) (Means k call) = refl
  left_ledger c None (Means k call) = refl

  -- beside an access that waits an issue is told to wait
  issue_waits : (why : Option CallRefusal) (files : List Listed) (call : Call) (p : Option Access) (t : Token) → IsOn t None p
      → MustWait t.0 (Issue call) (Replied (reply_where s st fl why (issued files p call))) × IsOn t None (waiting_after (issued files p call) (reply_where s st fl why (issued files p call)) p)
  issue_waits why files call None t on = absurd on
  issue_waits why files call (Some a) t on = (tt, on)

  issue_uses : (why : Option CallRefusal) (files : List Listed) (call : Call) (p : Option Access) (t : Token) (r : Response) → IsOn t (Some r) p → IsOn t (Some r) (waiting_after (issued files p call) (reply_where s st fl why (issued files p call)) p)
  issue_uses why files call None t r on = absurd on
  issue_uses why files call (Some a) t r on = on

  -- without a response a resume waits on
  again_waits : (why : Option CallRefusal) (a : Access) (token : Option Token) (answer : Option Response) (t : Token) → token ≡ Some t → answer ≡ None
      → MustWait t.0 Resume (Replied (reply_where s st fl why (goes_on a token answer))) × (waiting_after (goes_on a token answer) (reply_where s st fl why (goes_on a token answer)) (Some a) ≡ Some a)
  again_waits why a (Some u) None t token none = (let same : u ≡ t = cc in same_number u t same, refl)
  again_waits why a None answer t token none = absurd cc
  again_waits why a (Some u) (Some r) t token none = absurd cc

  resume_waits : (why : Option CallRefusal) (p : Option Access) (t : Token) → IsOn t None p → MustWait t.0 Resume (Replied (reply_where s st fl why (resumed p))) × IsOn t None (waiting_after (resumed p) (reply_where s st fl why (resumed p)) p)
  resume_waits why None t on = absurd on
  resume_waits why (Some a) t on = let still = again_waits why a a.token a.answer t on.0 on.1 in (still.0, subst (IsOn t None) (sym still.1) on)

  -- with one it uses that up
  used_response : (c t : ℕ) (later : Type 0) (r : Response) (live : Bool) (k : FileKey) (call : Call)
      → used_by c t r (Caller c) Resume (Replied (reply_where s st fl (first_refusal (aborted (Some r) ∷ gone live ∷ [])) (Means k call))) later
  used_response c t later (Abort error) live k call = own_either c _ later refl
  used_response c t later (Media fault) live k call = own_either c _ later refl
  used_response c t later Continue true k call = used_verdict st c t later k call (verdict s st fl k call)
  used_response c t later Continue false k call = own_either c _ later tt

  again_uses : (c : ℕ) (later : Type 0) (live : Bool) (a : Access) (token : Option Token) (answer : Option Response) (t : Token) (r : Response) → token ≡ Some t → answer ≡ Some r
      → used_by c t.0 r (Caller c) Resume (Replied (reply_where s st fl (first_refusal (aborted answer ∷ gone live ∷ [])) (goes_on a token answer))) later
  again_uses c later live a (Some u) (Some q) t r token some = let same : r ≡ q = cc in rw same (used_response c t.0 later q live a.key a.call)
  again_uses c later live a None answer t r token some = absurd cc
  again_uses c later live a (Some u) None t r token some = absurd cc

  resume_uses : (c : ℕ) (later : Type 0) (files : List Listed) (p : Option Access) (t : Token) (r : Response) → IsOn t (Some r) p → used_by c t.0 r (Caller c) Resume (Replied (reply_where s st fl (objection_again files p) (resumed p))) later
  resume_uses c later files None t r on = absurd on
  resume_uses c later files (Some a) t r on = again_uses c later (has_key a.key files) a a.token a.answer t r on.0 on.1

-- ---- a session's call, and a commit

still : (L : Ledger) (who : Actor) (what : Action) (answer : Answer) → gives answer ≡ None → takes what answer ≡ None → Parks L who answer → ((c t : ℕ) (later : Type 0) → later → waits_by c t who what answer later)
    → ((c t : ℕ) (r : Response) (later : Type 0) → later → used_by c t r who what answer later) → Moves L L who what answer
still L who what answer none nothing parks waits uses = record {
  given = λ u is. let wrong : None ≡ Some u = sym none ∙ is in cc wrong;
  rises = omega arith;
  taken = λ u is. let wrong : false ≡ true = ap (is_taken u) (sym nothing) ∙ is in absurd (false≢true wrong);
  stays = λ u old shut. shut;
  parks = parks;
  waits = λ c t on. rw nothing (waits c t.0 _ on);
  uses = λ c t r on. uses c t.0 r _ on;
}

told_still : (L : Ledger) (sid : Sid) (what : Action) (answer : Answer) → gives answer ≡ None → takes what answer ≡ None → Moves L L (Session sid) what answer
told_still L sid what answer none nothing = still L (Session sid) what answer none nothing tt (λ c t later h. h) (λ c t r later h. h)

refused_moves : (L : Ledger) (sid : Sid) (call : DmCall) (why : DmRefusal) → Moves L L (Session sid) (Dm call) (Told (told.Refused why))
refused_moves L sid (Respond u q) why = told_still L sid (Dm (Respond u q)) _ refl refl
refused_moves L sid call why = told_still L sid (Dm call) _ refl refl

module _ (u : Token) (q : Response) where
  -- the response reaches the access that waits for its token, and no other
  answered_on : (a : Access) (t : Token) (token : Option Token) → token ≡ Some t → IsOn t None (Some a)
      → either (u.0 == t.0) (IsOn t (Some q) (if waits_for u token then Some (record a { answer = Some q }) else Some a)) (IsOn t None (if waits_for u token then Some (record a { answer = Some q }) else Some a))
  answered_on a t None is on = absurd cc
  answered_on a t (Some v) is on = let same : v ≡ t = cc in rw same (elim (u.0 == t.0) as (λ b. either b (IsOn t (Some q) (if b then Some (record a { answer = Some q }) else Some a)) (IsOn t None (if b then Some (record a { answer = Some q }) else Some a))) [
    | true ↦ (on.0, refl)
    | false ↦ on
  ])

  answered_waits : (p : Option Access) (t : Token) → IsOn t None p → either (u.0 == t.0) (IsOn t (Some q) (answered u q p)) (IsOn t None (answered u q p))
  answered_waits None t on = absurd on
  answered_waits (Some a) t on = answered_on a t a.token on.0 on

  answered_uses : (p : Option Access) (t : Token) (r : Response) → (u.0 == t.0) ≡ false → IsOn t (Some r) p → IsOn t (Some r) (answered u q p)
  answered_uses None t r apart on = absurd on
  answered_uses (Some a) t r apart on = let off : waits_for u a.token ≡ false = rw (on.0, apart) refl in rw off on

-- the token of a response is closed
shut_after : (L : Ledger) (p : Option Access) (t : Token) (r : Response) → IfSome p (λ a. Awaits L a.token a.answer) → IsOn t (Some r) p → L.open t.0 ≡ false
shut_after L None t r is on = absurd on
shut_after L (Some a) t r is on = let now : Awaits L (Some t) (Some r) = rw (on.0, on.1) at is in now.1

given_before : (st : State) (u : ℕ) → InOrder st → st.ledger.open u ≡ true → u ≤ st.ledger.top
given_before st u ordered is = elim (cases_lt st.ledger.top u) [
  | inl past ↦ absurd (false≢true (sym (ordered.given u past) ∙ is))
  | inr within ↦ within
]

module _ (s : Superblock) (st : State) (sid : Sid) (ordered : InOrder st) where
  abbrev L : Ledger
  L = st.ledger

  respond_moves : (u : Token) (q : Response) → L.open u.0 ≡ true → Moves L (record L { pending = λ c. answered u q (L.pending c); «open» = set_at u.0 false L.open }) (Session sid) (Dm (Respond u q)) (Told told.Done)
  respond_moves u q is = record {
    given = λ v e. cc;
    rises = omega arith;
    taken = λ v e. let same : u.0 ≡ v = eqb-true u.0 v e in subst (λ x. (x ≤ L.top) × (L.open x ≡ true) × (set_at u.0 false L.open x ≡ false)) same (given_before st u.0 ordered is, is, rw (eq-eqb u.0 u.0 refl) refl);
    stays = λ v old shut. at_apart (λ w b. L.open w ≡ false → b ≡ false) u.0 false L.open (λ e. refl) (λ w apart e. e) v shut;
    parks = tt;
    waits = λ c t on. answered_waits u q (L.pending c) t on;
    uses = λ c t r on. answered_uses u q (L.pending c) t r (ne_eqb u.0 t.0 (λ same. false≢true (sym (shut_after L (L.pending c) t r (ordered.waits c) on) ∙ (ap L.open (sym same) ∙ is)))) on;
  }

  user_event_moves : (body : List ℕ) → Moves L (record L { top = L.top + 1; «open» = set_at (L.top + 1) true L.open }) (Session sid) (Dm (CreateUserEvent body)) (Told (told.Token (next_token L)))
  user_event_moves body = record {
    given = λ v e. let same : L.top + 1 ≡ v = cc in (omega arith, omega arith);
    rises = omega arith;
    taken = λ v e. cc;
    stays = λ v old shut. let apart : (v == (L.top + 1)) ≡ false = grind (arith, nat_tests) in rw (apart, shut) refl;
    parks = tt;
    waits = λ c t on. on;
    uses = λ c t r on. on;
  }

  told_moves : (call : DmCall) → dm_judged s st sid call ≡ None → Moves L (dm_state_where None s st sid call).ledger (Session sid) (Dm call) (Told (service s st sid call).reply)
  told_moves (Respond token response) none =
      let past = none_first (dead_session sid st.sessions) (bad_own_token sid token st.sessions ∷ bad_response response ∷ []) none in
      respond_moves token response (owned_open st sid token ordered (none_first (bad_own_token sid token st.sessions) (bad_response response ∷ []) past.1).0).0
  told_moves (CreateUserEvent body) none = user_event_moves body
  told_moves call none = told_still L sid (Dm call) _ refl refl

  told_where : (call : DmCall) (why : Option DmRefusal) → dm_judged s st sid call ≡ why → Moves L (dm_state_where why s st sid call).ledger (Session sid) (Dm call) (Told (dm_reply_where why s st sid call))
  told_where call None is = told_moves call is
  told_where call (Some why) is = refused_moves L sid call why

-- ---- any event

issue_moves : (s : Superblock) (st : State) (c : ℕ) (call : Call) → Moves st.ledger (state_after s st c (Issue call)).ledger (Caller c) (Issue call) (Replied (reply_to s st c (Issue call)))
issue_moves s st c call =
    let why : Option CallRefusal = objection_in s st c (Issue call) in
    let files : List Listed = names_of st.held.files in
    let p : Option Access = st.ledger.pending c in
    rw (left_ledger s st no_flags c why (issued files p call)) (caller_moves st.ledger c (Issue call) (issued files p call) _ refl (next_where s st no_flags why _ p (meant_says files p (Issue call)))
    (issue_waits s st no_flags why files call p) (issue_uses s st no_flags why files call p))

resume_moves : (s : Superblock) (st : State) (c : ℕ) → Moves st.ledger (state_after s st c Resume).ledger (Caller c) Resume (Replied (reply_to s st c Resume))
resume_moves s st c =
    let why : Option CallRefusal = objection_in s st c Resume in
    let files : List Listed = names_of st.held.files in
    let p : Option Access = st.ledger.pending c in
    rw (left_ledger s st (st.flags c) c why (resumed p)) (caller_moves st.ledger c Resume (resumed p) _ refl (next_where s st (st.flags c) why _ p (meant_says files p Resume))
    (resume_waits s st (st.flags c) why p) (λ t r on. resume_uses s st (st.flags c) c _ files p t r on))

own_moves : (s : Superblock) (st : State) (who : Actor) (what : Action) (answer : Answer) → InOrder st → IsOwn s st who what answer → Moves st.ledger (left_own s st who what).ledger who what answer
own_moves s st (Caller c) (Issue call) answer ordered is = rw is.1 (issue_moves s st c call)
own_moves s st (Caller c) Resume answer ordered is = rw is.1 (resume_moves s st c)
own_moves s st (Session sid) (Dm call) answer ordered is = rw is.1 (told_where s st sid ordered call (dm_judged s st sid call) refl)
own_moves s st Store Commit answer ordered is = rw is.1 (still st.ledger Store Commit _ refl refl tt (λ c t later h. h) (λ c t r later h. h))
own_moves s st who what answer ordered is = absurd is.0

fault_waits : (b : Bool) (later : Type 0) → later → either b (Unit {0} × later) later
fault_waits true later h = (tt, h)
fault_waits false later h = h

-- a fault changes nothing
fault_moves : (L : Ledger) (who : Actor) (what : Action) (answer : Answer) → IsFault who what answer → Moves L L who what answer
fault_moves L (Caller c) (Issue call) answer is = rw is.1 (still L (Caller c) (Issue call) (Replied (Refused Disk)) refl refl tt (λ d t later h. fault_waits (c == d) later h) (λ d t r later h. h))
fault_moves L (Caller c) Resume answer is = rw is.1 (still L (Caller c) Resume (Replied (Refused Disk)) refl refl tt (λ d t later h. fault_waits (c == d) later h) (λ d t r later h. h))
fault_moves L (Session sid) (Dm call) answer is = rw is.1 (refused_moves L sid call dm.Disk)
fault_moves L Store Commit answer is = rw is.1 (still L Store Commit (Replied (Refused Disk)) refl refl tt (λ d t later h. h) (λ d t r later h. h))
fault_moves L who what answer is = absurd is.0

if_moves : (fault : Bool) (st own : State) (who : Actor) (what : Action) (answer : Answer) → (fault ≡ true → Moves st.ledger st.ledger who what answer) → (fault ≡ false → Moves st.ledger own.ledger who what answer)
    → Moves st.ledger (if fault then noted st else own).ledger who what answer
if_moves true st own who what answer faulty done = faulty refl
if_moves false st own who what answer faulty done = done refl

pub event_moves : (s : Superblock) (st : State) (who : Actor) (what : Action) (answer : Answer) → InOrder st → IsAnswer s st who what answer → Moves st.ledger (left_by s st who what answer).ledger who what answer
event_moves s st who what answer ordered (inl is) =
    if_moves (is_fault answer) st (left_answered s st who what answer) who what answer (λ fault. fault_moves st.ledger who what answer is)
    (λ none. absurd (false≢true (sym none ∙ (ap is_fault is.1 ∙ fault_is what))))
event_moves s st who what answer ordered (inr is) =
    if_moves (is_fault answer) st (left_answered s st who what answer) who what answer (λ fault. absurd (false≢true (sym (own_faultless s st who what answer is) ∙ fault)))
    (λ none. subst (λ (left : State). Moves st.ledger left.ledger who what answer) (sym (left_own_by s st who what answer is)) (own_moves s st who what answer ordered is))
