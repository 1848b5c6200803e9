-- In a store that has settled, where each call is a daemon's own and both daemons run, no access waits.
use Rattle.std.proofs.Common.{◌≡◌, ◌∙◌, ◌≢◌, ℕ, zero, suc, ◌+◌, ◌<◌, ◌≤◌, Bool, true, false, cond, ◌&&◌, List, [], ◌∷◌, ◌++◌, length, Option, None, Some, is_some, inl, inr, refl}
use Rattle.std.proofs.Common.{sym, ap, subst, append_assoc, leb-true, arith}
use Rattle.std.proofs.lemmas.Bool.{false≢true, eqb-true, eq-eqb, ne_eqb}
use Rattle.std.proofs.lemmas.List.Elements.{All-contains, All-head, All-tail, Contains-append_left, Contains-append_right}
use Rattle.std.proofs.lemmas.List.Sums.{sum_by-cons}
use Rattle.std.proofs.lemmas.Option.{none-some}
use Rattle.std.specs.Prelude.{◌⊎◌, ◌==◌, Contains, IfSome, count_by, sum_by, if◌then◌else◌, nat_le}
use Rattle.std.specs.List.{All, AllByRecursion}
use Rattle.std.specs.Map.{lookup, keys_of}
use Rattle.std.specs.Option.{option_map}
use Rattle.hsm_types.specs.Daemons.{information, kinds_of}
use Rattle.hsm_types.specs.Limits.{live_sessions}
use Rattle.hsm_types.specs.Messages.{takes, has_token, no_token}
use Rattle.hsm_types.specs.Refusals.{first_refusal}
use Rattle.hsm_types.specs.Handles.{same_key}
use Rattle.hsm_types.specs.Rights.{Rights, holding, same_token, same_holding, right_of, right_or_null}
use Rattle.hsm_types.specs.Sessions.{LiveSession, SessionTable, Ascend, same_sid, session_of, queue_or_none, outstanding_or_none, queue_of, outstanding_of}
use Rattle.hsm_types.specs.Sessions.{places_in, places, bad_info, creation_refusal}
use Rattle.hsm_types.specs.declared.daemons.Daemon.{Daemon}
use Rattle.hsm_types.specs.declared.daemons.Daemon.TheVariants.{Recall, Migrate}
use Rattle.hsm_types.specs.declared.dm.DmCall.TheVariants.{CreateSession}
use Rattle.hsm_types.specs.declared.dm.DmRefusal.{DmRefusal}
use Rattle.hsm_types.specs.declared.dm.DmRefusal.TheVariants.{NoSession, TooMany}
use Rattle.hsm_types.specs.declared.dm.DmReply.TheVariants.{Refused}
use Rattle.hsm_types.specs.declared.dm.Right.TheVariants.{Null, Excl}
use Rattle.hsm_types.specs.declared.keys.FileKey.{FileKey}
use Rattle.hsm_types.specs.declared.keys.Holding.{Holding}
use Rattle.hsm_types.specs.declared.keys.Sid.{Sid}
use Rattle.hsm_types.specs.declared.keys.Token.{Token}
use Rattle.hsm_types.specs.declared.messages.Message.{Message}
use Rattle.hsm_types.specs.declared.stores.Superblock.{Superblock}
use Rattle.hsm_types.proofs.Queues.{lookup-above}
use Rattle.plain_model.specs.declared.entries.Action.TheVariants.{Dm}
use Rattle.plain_model.specs.declared.entries.Actor.TheVariants.{Session}
use Rattle.plain_model.specs.declared.entries.Answer.TheVariants.{Dm as Told}
use Rattle.plain_model.specs.declared.entries.Entry.{Entry}
use Rattle.plain_model.specs.Exact.{IsAnswer, ExactSeen, state_by}
use Rattle.plain_model.specs.Faults.{fault_of}
use Rattle.plain_model.specs.Laws.{IsRunSeen}
use Rattle.plain_model.specs.Ledger.{Access}
use Rattle.plain_model.specs.Accesses.{need_of}
use Rattle.plain_model.specs.Services.{dm_judged, dm_reply_to}
use Rattle.plain_model.specs.Stands.{Awaits, InOrder}
use Rattle.plain_model.specs.State.{Held, State, just_opened}
use Rattle.plain_model.proofs.AnyDisk.{state_seen_ordered}
use Rattle.plain_model.proofs.Histories.{ExactSeen-first}
use Rattle.plain_model.proofs.Orders.{ordered_at_first}
use Rattle.hsm_core.specs.Packed.{ArePacked}
use Rattle.hsm_core.proofs.Packing.{packed_first}
use Rattle.hsm_policy.specs.Settings.{Numbers}
use Rattle.daemon_session.specs.Seats.{IsSeated, first_id}
use Rattle.marked_history.specs.Marks.{Mark, entries_of, made}
use Rattle.marked_history.specs.Served.{Shown, nothing_shown, learned, shown, MayCall, ServedFrom, Served}
use Rattle.marked_history.specs.Settling.{IsCalledByDaemon, both_run, NoneWaits, IsTurnedAway, HasSettled, SettledNoneWaits}
use Rattle.marked_history.specs.Tokens.{seat_of, IsTaken, IsNamed}
use Rattle.marked_history.specs.Waiting.{runs, IsServable, IsForeign, MayWait}
use Rattle.marked_history.proofs.DaemonsCalls.{AllSit, SitsBehind, sits_of, sit_on, first_sits}
use Rattle.marked_history.proofs.DaemonsTables.{IsFor, IsDaemons, Has, Tables}
use Rattle.marked_history.proofs.Handing.{IsDaemonsKind}
use Rattle.marked_history.proofs.Granting.{refused_so, hindered_by, exact_rest}
use Rattle.marked_history.proofs.Lists.{none_in, first_in, later_in, first_or_rest, all_first, all_at}
use Rattle.marked_history.proofs.Seen.{over, is_over, ordered_over}
use Rattle.marked_history.proofs.Waiting.{is_blocked}
use Rattle.marked_history.proofs.Walking.{kept_behind}

-- ---- where a token stands

abbrev one_if : Bool → ℕ
one_if b = cond b 1 0

counted : (p : Message → Bool) (l : List Message) → 0 < count_by p l → (m : Message) × Contains l m × (p m ≡ true)
counted p [] some = absurd (omega (arith, some))
counted p (x ∷ l) some = by (p x) refl (counted p l)
  where
    all : count_by p (x ∷ l) ≡ one_if (p x) + count_by p l
    all = sum_by-cons (λ y. one_if (p y)) x l

    by : (b : Bool) → p x ≡ b → (0 < count_by p l → (m : Message) × Contains l m × (p m ≡ true)) → (m : Message) × Contains (x ∷ l) m × (p m ≡ true)
    by true is later = (x, first_in x l, is)
    by false is later =
        let none : one_if (p x) ≡ 0 = ap one_if is in
        let found = later (omega (arith, some, all, none)) in
        (found.0, later_in x l found.0 found.1, found.2)

summed : (f : Sid × LiveSession → ℕ) (live : List (Sid × LiveSession)) → 0 < sum_by f live → (e : Sid × LiveSession) × Contains live e × (0 < f e)
summed f [] some = absurd (omega (arith, some))
summed f (e ∷ rest) some = by (f e) refl (summed f rest)
  where
    all : sum_by f (e ∷ rest) ≡ f e + sum_by f rest
    all = sum_by-cons f e rest

    by : (n : ℕ) → f e ≡ n → (0 < sum_by f rest → (x : Sid × LiveSession) × Contains rest x × (0 < f x)) → (x : Sid × LiveSession) × Contains (e ∷ rest) x × (0 < f x)
    by zero is later = let found = later (omega (arith, some, all, is)) in (found.0, later_in e rest found.0 found.1, found.2)
    by (suc n) is later = (e, first_in e rest, omega (arith, is))

looked_up : (e : Sid × LiveSession) (low high : ℕ) (live : List (Sid × LiveSession)) → Ascend low high live → Contains live e → lookup (same_sid e.0) live ≡ Some e.1
looked_up e low high [] ascend there = absurd (none_in e there)
looked_up e low high (x ∷ rest) ascend there = by (first_or_rest x rest e there) (looked_up e x.0.0 high rest ascend.2)
  where
    by : (x ≡ e) ⊎ Contains rest e → (Contains rest e → lookup (same_sid e.0) rest ≡ Some e.1) → lookup (same_sid e.0) (x ∷ rest) ≡ Some e.1
    by (inl same) more = subst (λ (z : Sid × LiveSession). lookup (same_sid z.0) (x ∷ rest) ≡ Some z.1) same (let own : same_sid x.0 x.0 ≡ true = eq-eqb x.0.0 x.0.0 refl in rw own refl)
    by (inr later) more =
        let found = more later in
        let past = lookup-above e.0 x.0.0 high rest ascend.2 (ap (λ (o : Option LiveSession). is_some o) found) in
        let other : same_sid e.0 x.0 ≡ false = ne_eqb e.0.0 x.0.0 (λ same. omega arith) in
        rw other found

-- a message has the token, without a session or in one
pub record StandsIn (u : Token) (t : SessionTable) (e : Sid × LiveSession) : Type 0 where
  pub live : Contains t.live e
  pub message : Message
  pub token : message.token.0 ≡ u.0
  pub there : Contains (e.1.queue ++ e.1.outstanding) message

abbrev IsUnrouted : Token → SessionTable → Type 0
IsUnrouted u t = (m : Message) × Contains t.unrouted m × (m.token.0 ≡ u.0)

in_session : (u : Token) (x : LiveSession) → 0 < places_in u x → (m : Message) × Contains (x.queue ++ x.outstanding) m × (has_token u m ≡ true)
in_session u x some = by (count_by (has_token u) x.queue) refl
  where
    by : (n : ℕ) → count_by (has_token u) x.queue ≡ n → (m : Message) × Contains (x.queue ++ x.outstanding) m × (has_token u m ≡ true)
    by zero is = let found = counted (has_token u) x.outstanding (omega (arith, some, is)) in (found.0, Contains-append_right x.queue x.outstanding found.0 found.1, found.2)
    by (suc n) is = let found = counted (has_token u) x.queue (omega (arith, is)) in (found.0, Contains-append_left x.queue x.outstanding found.0 found.1, found.2)

stands : (u : Token) (t : SessionTable) → 0 < places u t → IsUnrouted u t ⊎ ((e : Sid × LiveSession) × StandsIn u t e)
stands u t some = by (count_by (has_token u) t.unrouted) refl
  where
    by : (n : ℕ) → count_by (has_token u) t.unrouted ≡ n → IsUnrouted u t ⊎ ((e : Sid × LiveSession) × StandsIn u t e)
    by zero is =
        let found = summed (λ (e : Sid × LiveSession). places_in u e.1) t.live (omega (arith, some, is)) in
        let own = in_session u found.0.1 found.2 in
        inr (found.0, record { live = found.1; message = own.0; token = eqb-true own.0.token.0 u.0 own.2; there = own.1 })
    by (suc n) is = let found = counted (has_token u) t.unrouted (omega (arith, is)) in inl (found.0, found.1, eqb-true found.0.token.0 u.0 found.2)

-- ---- a token that has a right is open

second_so : (a b : Bool) → (a && b) ≡ true → b ≡ true
second_so true b is = is
second_so false b is = absurd (false≢true is)

right_open : (opens : ℕ → Bool) (t : Token) (k : FileKey) (rights : Rights) → All (λ (h : Holding). opens h.token.0 ≡ true) (keys_of rights) → right_of t k rights ≢ Null → opens t.0 ≡ true
right_open opens t k [] all some = absurd (some refl)
right_open opens t k (e ∷ rest) all some = by (same_holding (holding t k) e.0) refl some (right_open opens t k rest (All-tail (λ (h : Holding). opens h.token.0 ≡ true) e.0 (keys_of rest) all))
  where
    by : (b : Bool) → same_holding (holding t k) e.0 ≡ b → right_or_null (cond b (Some e.1) (lookup (same_holding (holding t k)) rest)) ≢ Null → (right_of t k rest ≢ Null → opens t.0 ≡ true) → opens t.0 ≡ true
    by true is has later =
        let same : t.0 ≡ e.0.token.0 = eqb-true t.0 e.0.token.0 (second_so (same_key k e.0.key) (same_token t e.0.token) is) in
        subst (λ (n : ℕ). opens n ≡ true) (sym same) (All-head (λ (h : Holding). opens h.token.0 ≡ true) e.0 (keys_of rest) all)
    by false is has later = later has

-- ---- two sessions aren't too many

two_same : (a b c : Daemon) → (a ≡ b) ⊎ ((a ≡ c) ⊎ (b ≡ c))
two_same Recall Recall c = inl refl
two_same Migrate Migrate c = inl refl
two_same Recall Migrate Recall = inr (inl refl)
two_same Recall Migrate Migrate = inr (inr refl)
two_same Migrate Recall Migrate = inr (inl refl)
two_same Migrate Recall Recall = inr (inr refl)

module _ (t : SessionTable) (ascend : Ascend 0 t.given t.live) (tables : Tables t) where
  owner_has : (e : Sid × LiveSession) → Contains t.live e → (d : Daemon) × Has d e.0 t
  owner_has e there =
      let own = All-contains (λ (x : Sid × LiveSession). IsDaemons x.1) t.live e tables.owned there in
      (own.0, ap (λ (o : Option LiveSession). option_map (λ (z : LiveSession). z.info) o) (looked_up e 0 t.given t.live ascend there) ∙ ap (λ (l : List ℕ). Some l) own.1.info)

  same_id : (d e : Daemon) (a b : Sid) → d ≡ e → Has d a t → Has e b t → a.0 ≡ b.0
  same_id d e a b same mine theirs = tables.single d a b mine (subst (λ (z : Daemon). Has z b t) (sym same) theirs)

  few : (live : List (Sid × LiveSession)) → t.live ≡ live → length live ≤ 2
  few [] is = omega arith
  few (a ∷ []) is = omega arith
  few (a ∷ b ∷ []) is = omega arith
  few (a ∷ b ∷ c ∷ rest) is =
      let up = subst (λ (l : List (Sid × LiveSession)). Ascend 0 t.given l) is ascend in
      let first = owner_has a (subst (λ (l : List (Sid × LiveSession)). Contains l a) (sym is) (first_in a (b ∷ c ∷ rest))) in
      let second = owner_has b (subst (λ (l : List (Sid × LiveSession)). Contains l b) (sym is) (later_in a (b ∷ c ∷ rest) b (first_in b (c ∷ rest)))) in
      let third = owner_has c (subst (λ (l : List (Sid × LiveSession)). Contains l c) (sym is) (later_in a (b ∷ c ∷ rest) c (later_in b (c ∷ rest) c (first_in c rest)))) in
      let low = up.2.0 in
      let high = up.2.2.0 in
      absurd (elim (two_same first.0 second.0 third.0) [
        | inl same ↦ let one = same_id first.0 second.0 a.0 b.0 same first.1 second.1 in omega (arith, one, low)
        | inr (inl same) ↦ let one = same_id first.0 third.0 a.0 c.0 same first.1 third.1 in omega (arith, one, low, high)
        | inr (inr same) ↦ let one = same_id second.0 third.0 b.0 c.0 same second.1 third.1 in omega (arith, one, high)
      ])

  not_many : nat_le live_sessions (length t.live) ≡ false
  not_many = by (nat_le live_sessions (length t.live)) refl
    where
      by : (b : Bool) → nat_le live_sessions (length t.live) ≡ b → b ≡ false
      by true many = absurd (let least = leb-true live_sessions (length t.live) many in let most = few t.live refl in omega (arith, least, most))
      by false is = refl

  good_info : (d : Daemon) → bad_info (information d) ≡ None
  good_info Recall = refl
  good_info Migrate = refl

  made_or_gone : (there beside many : Bool) (bad : Option DmRefusal) (count : ℕ) → bad ≡ None → many ≡ false → first_refusal ((if there then None else Some NoSession) ∷ bad ∷ (if beside && many then Some (TooMany live_sessions) else None) ∷ []) ≡ Some (TooMany count) → ⊥
  made_or_gone false beside many bad count good fine is = cc
  made_or_gone true beside many (Some w) count good fine is = none-some _ (sym good)
  made_or_gone true beside true None count good fine is = false≢true (sym fine)
  made_or_gone true true false None count good fine is = none-some _ is
  made_or_gone true false false None count good fine is = none-some _ is

  alone : (o : Option DmRefusal) → first_refusal (o ∷ []) ≡ o
  alone None = refl
  alone (Some w) = refl

  not_too_many : (d : Daemon) (old : Sid) (count : ℕ) → first_refusal (creation_refusal old (information d) t ∷ []) ≡ Some (TooMany count) → ⊥
  not_too_many d old count is = made_or_gone _ (old.0 == 0) (nat_le live_sessions (length t.live)) (bad_info (information d)) count (good_info d) not_many (sym (alone (creation_refusal old (information d) t)) ∙ is)

-- so a daemon isn't turned away
never_turned : (s : Superblock) (st : State) → InOrder st → Tables st.sessions → (d : Daemon) (x old : Sid) (info : List ℕ) (count : ℕ) → info ≡ information d → IsAnswer s st (Session x) (Dm (CreateSession old info)) (Told (Refused (TooMany count))) → ⊥
never_turned s st ordered tables d x old info count own (inl is) = let wrong : Told (Refused (TooMany count)) ≡ fault_of (Dm (CreateSession old info)) = is.1 in cc
never_turned s st ordered tables d x old info count own (inr is) =
    let told : Told (Refused (TooMany count)) ≡ Told (dm_reply_to s st x (CreateSession old info)) = is.1 in
    let judged : dm_judged s st x (CreateSession old info) ≡ Some (TooMany count) = refused_so (dm_judged s st x (CreateSession old info)) s st x (CreateSession old info) (TooMany count) cc in
    not_too_many st.sessions ordered.ascend tables d old count (subst (λ (l : List ℕ). first_refusal (creation_refusal old l st.sessions ∷ []) ≡ Some (TooMany count)) own judged)

-- ---- a beginning of a served history

served_parts : (limits : Numbers) (k : Shown) (first rest : List Mark) → ServedFrom limits k (first ++ rest) → ServedFrom limits k first × ServedFrom limits (shown limits k first) rest
served_parts limits k [] rest served = (tt, served)
served_parts limits k (m ∷ first) rest served = let later = served_parts limits (learned limits k m) first rest served.1 in ((served.0, later.0), later.1)

entries_parts : (first rest : List Mark) → entries_of (first ++ rest) ≡ entries_of first ++ entries_of rest
entries_parts [] rest = refl
entries_parts (m ∷ first) rest = ap (λ (l : List Entry). m.entry ∷ l) (entries_parts first rest)

own_info : (d : Daemon) (k : Shown) (x old : Sid) (info : List ℕ) → MayCall d k x (CreateSession old info) → info ≡ information d
own_info Recall k x old info may = may.1
own_info Migrate k x old info may = may.1

-- ---- the store at the end

module _ (limits : Numbers) (s : Superblock) (base : ℕ) (h : Held) where
  abbrev opened : State
  opened = just_opened base h

  all_sit : (marks : List Mark) → Served limits marks → IsRunSeen ⊥ s base h (entries_of marks) → ArePacked s opened (entries_of marks) → AllByRecursion IsCalledByDaemon marks → AllSit (state_by s opened (entries_of marks)).sessions (shown limits nothing_shown marks)
  all_sit marks served run packed called = kept_behind limits s SitsBehind (sit_on limits s) base h marks (entries_of marks) refl served run packed (first_sits base h) called

  module _ (marks : List Mark) (served : Served limits marks) (run : IsRunSeen ⊥ s base h (entries_of marks)) (packed : ArePacked s opened (entries_of marks)) (called : AllByRecursion IsCalledByDaemon marks) where
    abbrev st : State
    st = state_by s opened (entries_of marks)

    abbrev k : Shown
    k = shown limits nothing_shown marks

    ordered : InOrder st
    ordered = state_seen_ordered ⊥ s opened (entries_of marks) (ordered_at_first base h) run.exact

    sit : AllSit st.sessions k
    sit = all_sit marks served run packed called

    -- no daemon was turned away
    none_turned : (d : Daemon) (done : List Mark) (old : Sid) (info : List ℕ) (count : ℕ) (since : List Mark) → marks ≡ done ++ made d first_id (CreateSession old info) (Refused (TooMany count)) ∷ since → ⊥
    none_turned d done old info count since is =
        let asked : Mark = made d first_id (CreateSession old info) (Refused (TooMany count)) in
        let parts : entries_of marks ≡ entries_of done ++ entries_of (asked ∷ since) = ap entries_of is ∙ entries_parts done (asked ∷ since) in
        let so = served_parts limits nothing_shown done (asked ∷ since) (subst (ServedFrom limits nothing_shown) is served) in
        let exact : ExactSeen ⊥ s opened (entries_of done ++ entries_of (asked ∷ since)) = subst (ExactSeen ⊥ s opened) parts run.exact in
        let run_then : IsRunSeen ⊥ s base h (entries_of done) = record { opening = run.opening; exact = ExactSeen-first ⊥ s opened (entries_of done) (entries_of (asked ∷ since)) exact } in
        let packed_then = packed_first s opened (entries_of done) (entries_of (asked ∷ since)) (subst (ArePacked s opened) parts packed) in
        let then_state : State = state_by s opened (entries_of done) in
        let sat = all_sit done so.0 run_then packed_then (all_first IsCalledByDaemon done (asked ∷ since) (subst (AllByRecursion IsCalledByDaemon) is called)) in
        let here = is_over s then_state (Session first_id) (Dm (CreateSession old info)) (Told (Refused (TooMany count))) (exact_rest s opened (entries_of done) (entries_of (asked ∷ since)) exact).0 in
        let ordered_then = state_seen_ordered ⊥ s opened (entries_of done) (ordered_at_first base h) run_then.exact in
        never_turned s (over then_state here.seen) (ordered_over then_state here.seen ordered_then) sat.tables d first_id old info count (own_info d (shown limits nothing_shown done) first_id old info so.1.0) here.exact

    -- no line took a token, or named it
    no_line : (m : Mark) (sid : Sid) (before rest : List Mark) → marks ≡ before ++ m ∷ rest → m.entry.actor ≡ Session sid → m.by ≡ None → ⊥
    no_line m sid before rest is actor none =
        let by = all_at IsCalledByDaemon before m rest (subst (AllByRecursion IsCalledByDaemon) is called) sid actor in
        none-some _ (sym none ∙ by.1)

    none_taken : (d : Daemon) (t : Token) → IsTaken d marks t → ⊥
    none_taken d t taken = no_line _ taken.sid taken.before taken.rest taken.parted refl refl

    none_named : (t : Token) → IsNamed marks t → ⊥
    none_named t named = elim named.names.3 [
      | inl asks ↦ no_line named.mark named.names.0 named.before named.rest named.parted (ap (λ (m : Mark). m.entry.actor) asks.1) (ap (λ (m : Mark). m.by) asks.1)
      | inr lowers ↦ no_line named.mark named.names.0 named.before named.rest named.parted (ap (λ (m : Mark). m.entry.actor) lowers) (ap (λ (m : Mark). m.by) lowers)
    ]

    -- ---- where both daemons are at work

    module _ (work : (d : Daemon) → (sid : Sid) × IsSeated (seat_of d k) sid × (queue_of sid st.sessions ≡ [])) where
      both : (d : Daemon) → runs d both_run ≡ true
      both Recall = refl
      both Migrate = refl

      -- each message of a daemon's session is outstanding, and can be served
      record Serves (u : Token) : Type 0 where
        daemon : Daemon
        message : Message
        token : message.token ≡ u
        servable : IsServable both_run k marks st daemon message
        out : Contains (outstanding_of servable.sid st.sessions) message

      serves_in : (u : Token) (e : Sid × LiveSession) → StandsIn u st.sessions e → Serves u
      serves_in u e is =
          let own = All-contains (λ (x : Sid × LiveSession). IsDaemons x.1) st.sessions.live e sit.tables.owned is.live in
          let d : Daemon = own.0 in
          let found : session_of e.0 st.sessions ≡ Some e.1 = looked_up e 0 st.sessions.given st.sessions.live ordered.ascend is.live in
          let has : Has d e.0 st.sessions = ap (λ (o : Option LiveSession). option_map (λ (z : LiveSession). z.info) o) found ∙ ap (λ (l : List ℕ). Some l) own.1.info in
          let at = work d in
          let id : e.0.0 ≡ at.0.0 = sit.tables.single d e.0 at.0 has ((sits_of d st.sessions k sit).here at.0 at.1.session) in
          let one : e.0 ≡ at.0 = λ i. record { 0 = id i } in
          let here : session_of at.0 st.sessions ≡ Some e.1 = subst (λ (z : Sid). session_of z st.sessions ≡ Some e.1) one found in
          let queue : e.1.queue ≡ [] = sym (ap (λ (o : Option LiveSession). queue_or_none o) here) ∙ at.2 in
          let out_there : Contains e.1.outstanding is.message = subst (λ (l : List Message). Contains (l ++ e.1.outstanding) is.message) queue is.there in
          let out : Contains (outstanding_of at.0 st.sessions) is.message = subst (λ (o : Option LiveSession). Contains (outstanding_or_none o) is.message) (sym here) out_there in
          record {
            daemon = d;
            message = is.message;
            token = λ i. record { 0 = is.token i };
            servable = record {
              sid = at.0;
              running = both d;
              uses = at.1.session;
              there = Contains-append_right (queue_of at.0 st.sessions) (outstanding_of at.0 st.sessions) is.message out;
              kind = All-contains (IsFor d) e.1.outstanding is.message own.1.out out_there;
              left = none_taken d is.message.token;
            };
            out = out;
          }

      -- none waits without a session
      none_unrouted : (u : Token) → IsUnrouted u st.sessions → ⊥
      none_unrouted u (m, there, token) =
          let wanted = All-contains (λ (n : Message). IsDaemonsKind n.kind) st.sessions.unrouted m sit.tables.wanted there in
          let at = work wanted.0 in
          let ready = (sits_of wanted.0 st.sessions k sit).ready at.0 at.1.session at.1.set in
          false≢true (sym (All-contains (λ (n : Message). takes (kinds_of wanted.0) n.kind ≡ false) st.sessions.unrouted m ready.routed there) ∙ wanted.1)

      serves : (u : Token) → st.ledger.open u.0 ≡ true → Serves u
      serves u opens = by u.0 refl
        where
          stood : (n : ℕ) → 0 < n → u.0 ≡ n → IsUnrouted u st.sessions ⊎ ((e : Sid × LiveSession) × StandsIn u st.sessions e)
          stood n real is =
              let once : places u st.sessions ≡ (if st.ledger.open u.0 then 1 else 0) = ordered.once u (omega (arith, real, is)) in
              let one : places u st.sessions ≡ 1 = once ∙ ap (λ (b : Bool). if b then 1 else 0) opens in
              stands u st.sessions (omega (arith, one))

          by : (n : ℕ) → u.0 ≡ n → Serves u
          by zero is = absurd (false≢true (sym ordered.none ∙ subst (λ (n : ℕ). st.ledger.open n ≡ true) is opens))
          by (suc n) is = elim (stood (suc n) (omega arith) is) [
            | inl unrouted ↦ absurd (none_unrouted u unrouted)
            | inr in_one ↦ serves_in u in_one.0 in_one.1
          ]

      -- so no token that has a right is foreign
      none_foreign : (u : Token) (file : FileKey) → right_of u file st.rights ≢ Null → IsForeign both_run k marks st u → ⊥
      none_foreign u file some foreign =
          let is = serves u (right_open st.ledger.open u file st.rights ordered.held some) in
          foreign (record { daemon = is.daemon; message = is.message; token = is.token; servable = is.servable; outstanding = is.out; unnamed = none_named u })

      waits_never : (c : ℕ) (a : Access) → st.ledger.pending c ≡ Some a → MayWait both_run k marks st s c a → ⊥
      waits_never c a waits (inl (t, blocked, foreign)) =
          none_foreign t a.key (hindered_by a.key (need_of a.call) no_token t st.rights ordered.rights (is_blocked s st c a waits t blocked)).holds foreign
      waits_never c a waits (inr (t, token, none, each)) =
          let awaits : Awaits st.ledger a.token a.answer = subst (λ (o : Option Access). IfSome o (λ (x : Access). Awaits st.ledger x.token x.answer)) waits (ordered.waits c) in
          let opens : (t.0 ≤ st.ledger.top) × (st.ledger.open t.0 ≡ true) = rw (token, none) at awaits in
          let is = serves t opens.1 in
          let up = (each is.daemon is.message is.token is.servable).2 in
          none_foreign up.other up.handle.key (hindered_by up.handle.key Excl is.message.token up.other st.rights ordered.rights up.hinders).holds up.foreign

-- ---- the law

module _ (limits : Numbers) (s : Superblock) (base : ℕ) (h : Held) (before part : List Mark) where
  abbrev all : List Mark
  all = before ++ part

  module _ (served : Served limits all) (run : IsRunSeen ⊥ s base h (entries_of all)) (packed : ArePacked s (just_opened base h) (entries_of all)) (called : AllByRecursion IsCalledByDaemon all) (settled : HasSettled limits s (just_opened base h) both_run before part) where
    abbrev end : State
    end = state_by s (just_opened base h) (entries_of all)

    turned : (d : Daemon) → IsTurnedAway d part → ⊥
    turned d away =
        none_turned limits s base h all served run packed called d (before ++ away.first) away.old away.info away.count away.since
        (ap (λ (l : List Mark). before ++ l) away.parted ∙ sym (append_assoc before away.first (made d first_id (CreateSession away.old away.info) (Refused (TooMany away.count)) ∷ away.since)))

    works : (d : Daemon) → runs d both_run ≡ true → (sid : Sid) × IsSeated (seat_of d (shown limits nothing_shown all)) sid × (queue_of sid end.sessions ≡ [])
    works d so = elim (settled.works d so) [
      | inl work ↦ (work.sid, work.seated, work.empty)
      | inr away ↦ absurd (turned d away)
    ]

    work : (d : Daemon) → (sid : Sid) × IsSeated (seat_of d (shown limits nothing_shown all)) sid × (queue_of sid end.sessions ≡ [])
    work Recall = works Recall refl
    work Migrate = works Migrate refl

    none_waits : NoneWaits end
    none_waits c caller = by (end.ledger.pending c) refl
      where
        by : (found : Option Access) → end.ledger.pending c ≡ found → found ≡ None
        by None none = refl
        by (Some a) waits = absurd (waits_never limits s base h all served run packed called work c a waits (settled.waits c a caller waits))

pub settled_none_waits : (limits : Numbers) (s : Superblock) (base : ℕ) (h : Held) (before part : List Mark) → SettledNoneWaits limits s base h before part
settled_none_waits limits s base h before part served run packed called settled = none_waits limits s base h before part served run packed called settled
