-- What is true of a table of sessions, after each call.
use Rattle.std.proofs.Common.{◌≡◌, ℕ, zero, suc, ◌+◌, ◌-◌, ◌<◌, ◌≤◌, Bool, true, false, cond, not, List, [], ◌∷◌, ◌++◌, length, map}
use Rattle.std.proofs.Common.{take, drop, filter, Option, None, Some, is_some, refl, sym, ap, subst, ◌∙◌, eqb, length-append, arith}
use Rattle.std.proofs.lemmas.Bool.{true≢false, ne_eqb, eq-eqb, eqb-true}
use Rattle.std.proofs.lemmas.List.{length-map}
use Rattle.std.proofs.lemmas.List.Elements.{All-push, All-filter}
use Rattle.std.proofs.lemmas.List.Sums.{sum_by-cons, sum_by-append, count_by-le-length}
use Rattle.std.specs.Prelude.{count_by, sum_by, MatchOption}
use Rattle.std.specs.List.{find, slice_get}
use Rattle.std.specs.Option.{option_map, IfSome}
use Rattle.std.specs.Map.{lookup, remove_entry, set_value, values_of}
use Rattle.indexmap.specs.IndexMap.{set_value_at}
use Rattle.hsm_types.specs.Refusals.{first_refusal}
use Rattle.hsm_types.specs.Messages.{has_token, no_token, takes, user_message, IsMessage}
use Rattle.hsm_types.specs.Sessions.{LiveSession, SessionTable, IsNewToken, same_sid, session_of, lives, heir, next_sid, with_session}
use Rattle.hsm_types.specs.Sessions.{without_session, change_live, change_session, queued, loses, with_kinds, posted, posted_to, taker}
use Rattle.hsm_types.specs.Sessions.{delivered, hands_out, user_event, put_message, responded, without_token, sent, is_of_user, user_tokens}
use Rattle.hsm_types.specs.Sessions.{places, places_in, holds, owner, message_in, outstanding_or_none, creation_refusal, dead_session}
use Rattle.hsm_types.specs.Sessions.{destruction_refusal, events_left, too_long, too_many_waiting, sending_refusal, queue_of, bad_token}
use Rattle.hsm_types.specs.declared.dm.DmRefusal.{DmRefusal}
use Rattle.hsm_types.specs.declared.dm.DmRefusal.TheVariants.{NoSession, NotYours, EventsLeft}
use Rattle.hsm_types.specs.declared.dm.Kind.TheVariants.{Read, Write, Truncate, NoSpace, User}
use Rattle.hsm_types.specs.declared.keys.Sid.{Sid}
use Rattle.hsm_types.specs.declared.keys.Token.{Token}
use Rattle.hsm_types.specs.declared.dm.Kind.{Kind}
use Rattle.hsm_types.specs.declared.dm.Kinds.{Kinds}
use Rattle.hsm_types.specs.declared.messages.Message.{Message}
use Rattle.hsm_types.proofs.Queues.{sum-change_live, sum-remove, sum-mapped, remove-absent, lookup-mapped, session-lives, found-lives}
use Rattle.hsm_types.proofs.Queues.{count-put_message, places-held, places-created, places-destroyed, places-disposed, places-posted, places-delivered}
use Rattle.hsm_types.proofs.Queues.{places-responded, places-responded-other, places-user_event, places-sent, owner-own, owner-holds}
use Rattle.dm_sessions.specs.Tables.{IsEvent, IsTable, users_of}
use Rattle.dm_sessions.proofs.InOrder.{any-found}
use Rattle.dm_sessions.proofs.Ascending.{Ascend-remove, length-remove_entry, Ascend-push, Ascend-change, length-change, Ascend-map, room, none-first, passed}

abbrev pub Live : Type 0
Live = List (Sid × LiveSession)

-- one or none
abbrev pub one_if : Bool → ℕ
one_if b = cond b 1 0

-- ---- a change through a lent session

pub set-is-change : (sid : Sid) (change : LiveSession → LiveSession) (live : Live) (s : LiveSession) → lookup (same_sid sid) live ≡ Some s → set_value (same_sid sid) live (change s) ≡ change_live sid change live
set-is-change sid change [] s is = refl
set-is-change sid change (e ∷ rest) s is =
    elim (same_sid sid e.0) as (λ (b : Bool). cond b (Some e.1) (lookup (same_sid sid) rest) ≡ Some s → cond b ((e.0, change s) ∷ rest) (e ∷ set_value (same_sid sid) rest (change s)) ≡ cond b ((e.0, change e.1) ∷ rest) (e ∷ change_live sid change rest)) [
      | true ↦ λ here. let same : e.1 ≡ s = cc in λ i. (e.0, change (sym same i)) ∷ rest
      | false ↦ λ there. ap (λ (l : Live). e ∷ l) (set-is-change sid change rest s there)
    ] is

pub set-same : (sid : Sid) (live : Live) (s : LiveSession) → lookup (same_sid sid) live ≡ Some s → set_value (same_sid sid) live s ≡ live
set-same sid [] s is = refl
set-same sid (e ∷ rest) s is =
    elim (same_sid sid e.0) as (λ (b : Bool). cond b (Some e.1) (lookup (same_sid sid) rest) ≡ Some s → cond b ((e.0, s) ∷ rest) (e ∷ set_value (same_sid sid) rest s) ≡ e ∷ rest) [
      | true ↦ λ here. let same : e.1 ≡ s = cc in λ i. (e.0, sym same i) ∷ rest
      | false ↦ λ there. ap (λ (l : Live). e ∷ l) (set-same sid rest s there)
    ] is

-- ---- a session without messages

none-left : (n : ℕ) → events_left n ≡ None → n ≡ 0
none-left n is = by (eqb n 0) refl
  where
    by : (b : Bool) → eqb n 0 ≡ b → n ≡ 0
    by true e = eqb-true n 0 e
    by false e = let told : Some (EventsLeft n) ≡ None = rw e at is in absurd cc

pub ended-none : (sid : Sid) (t : SessionTable) (s : LiveSession) → session_of sid t ≡ Some s → length s.queue + length s.outstanding ≡ 0 → destruction_refusal sid t ≡ None
ended-none sid t s there empty = rw (there, empty) refl

pub ended-judged : (sid : Sid) (t : SessionTable) (s : LiveSession) → session_of sid t ≡ Some s → length s.queue + length s.outstanding ≡ 0 → first_refusal (dead_session sid t ∷ destruction_refusal sid t ∷ []) ≡ None
ended-judged sid t s there empty = rw (there, empty) refl

-- ---- tokens of user events

pub users-created : (old : Sid) (info : List ℕ) (t : SessionTable) → user_tokens (with_session old info t) ≡ user_tokens t
users-created old info t = by (session_of old t) refl
  where
    at : (s : LiveSession) → sum_by (λ e. users_of e.1) (remove_entry (same_sid old) t.live ++ (next_sid t, s) ∷ []) ≡ sum_by (λ e. users_of e.1) (remove_entry (same_sid old) t.live) + users_of s
    at s = omega (arith, sum_by-append (λ (e : Sid × LiveSession). users_of e.1) (remove_entry (same_sid old) t.live) ((next_sid t, s) ∷ []))

    by : (o : Option LiveSession) → session_of old t ≡ o → sum_by (λ e. users_of e.1) (remove_entry (same_sid old) t.live ++ (next_sid t, heir info o) ∷ []) ≡ user_tokens t
    by None none = let whole = at (heir info None) in let same : sum_by (λ e. users_of e.1) (remove_entry (same_sid old) t.live) ≡ sum_by (λ e. users_of e.1) t.live = ap (sum_by (λ (e : Sid × LiveSession). users_of e.1)) (remove-absent old t.live none) in omega arith
    by (Some s) there = omega (arith, at (heir info (Some s)), sum-remove users_of old t.live s there)

pub users-ended : (sid : Sid) (t : SessionTable) → destruction_refusal sid t ≡ None → user_tokens (without_session sid t) ≡ user_tokens t
users-ended sid t none = by (session_of sid t) refl
  where
    by : (o : Option LiveSession) → session_of sid t ≡ o → user_tokens (without_session sid t) ≡ user_tokens t
    by None absent = ap (sum_by (λ (e : Sid × LiveSession). users_of e.1)) (remove-absent sid t.live absent)
    by (Some s) there =
        let empty : length s.queue + length s.outstanding ≡ 0 = none-left (length s.queue + length s.outstanding) (rw there at none) in
        omega (arith, sum-remove users_of sid t.live s there, count_by-le-length (λ m. is_of_user m.kind) s.outstanding)

-- a message that is taken out
pub users-without : (p : Message → Bool) (token : Token) (l : List Message) → count_by (has_token token) l ≤ 1 → MatchOption (find (has_token token) l) (count_by p (without_token token l) ≡ count_by p l) (λ m. count_by p (without_token token l) + one_if (p m) ≡ count_by p l)
users-without p token [] few = refl
users-without p token (m ∷ more) few = by (has_token token m) refl (users-without p token more)
  where
    all : count_by (has_token token) (m ∷ more) ≡ one_if (has_token token m) + count_by (has_token token) more
    all = sum_by-cons (λ x. one_if (has_token token x)) m more

    kept : (l : List Message) → count_by (has_token token) l ≡ 0 → without_token token l ≡ l
    kept [] none = refl
    kept (x ∷ xs) none = at (has_token token x) refl (kept xs)
      where
        every : count_by (has_token token) (x ∷ xs) ≡ one_if (has_token token x) + count_by (has_token token) xs
        every = sum_by-cons (λ y. one_if (has_token token y)) x xs

        at : (b : Bool) → has_token token x ≡ b → (count_by (has_token token) xs ≡ 0 → without_token token xs ≡ xs) → cond (not b) (x ∷ without_token token xs) (without_token token xs) ≡ x ∷ xs
        at true here rest = let one : one_if (has_token token x) ≡ 1 = ap one_if here in absurd (omega (arith, every))
        at false other rest = ap (λ (z : List Message). x ∷ z) (rest (omega (arith, every)))

    after : (o : Option Message) → MatchOption o (count_by p (without_token token more) ≡ count_by p more) (λ y. count_by p (without_token token more) + one_if (p y) ≡ count_by p more)
        → MatchOption o (count_by p (m ∷ without_token token more) ≡ count_by p (m ∷ more)) (λ y. count_by p (m ∷ without_token token more) + one_if (p y) ≡ count_by p (m ∷ more))
    after None is = omega (arith, is, sum_by-cons (λ y. one_if (p y)) m (without_token token more), sum_by-cons (λ y. one_if (p y)) m more)
    after (Some y) is = omega (arith, is, sum_by-cons (λ z. one_if (p z)) m (without_token token more), sum_by-cons (λ z. one_if (p z)) m more)

    by : (b : Bool) → has_token token m ≡ b
        → (count_by (has_token token) more ≤ 1 → MatchOption (find (has_token token) more) (count_by p (without_token token more) ≡ count_by p more) (λ y. count_by p (without_token token more) + one_if (p y) ≡ count_by p more))
        → MatchOption (cond b (Some m) (find (has_token token) more)) (count_by p (cond (not b) (m ∷ without_token token more) (without_token token more)) ≡ count_by p (m ∷ more)) (λ y. count_by p (cond (not b) (m ∷ without_token token more) (without_token token more)) + one_if (p y) ≡ count_by p (m ∷ more))
    by true here later =
        let one : one_if (has_token token m) ≡ 1 = ap one_if here in
        let same : count_by p (without_token token more) ≡ count_by p more = ap (count_by p) (kept more (omega (arith, all))) in
        omega (arith, same, sum_by-cons (λ y. one_if (p y)) m more)
    by false other later = after (find (has_token token) more) (later (omega (arith, all)))

-- ---- tables

pub table-created : (old : Sid) (info : List ℕ) (t : SessionTable) (users : ℕ) → IsTable t users → creation_refusal old info t ≡ None → IsTable (with_session old info t) users
table-created old info t users is none = record {
  ascend = Ascend-push 0 t.given (t.given + 1) (heir info (session_of old t)) (remove_entry (same_sid old) t.live) (Ascend-remove (same_sid old) 0 t.given t.live is.ascend) (omega arith) (omega arith);
  few = let fits = room old info t is.few none in omega (arith, length-append (remove_entry (same_sid old) t.live) ((next_sid t, heir info (session_of old t)) ∷ []));
  events = is.events;
  once = λ u real. let one = is.once u real in omega (arith, places-created u old info t);
  counted = is.counted ∙ sym (users-created old info t);
}

pub table-ended : (sid : Sid) (t : SessionTable) (users : ℕ) → IsTable t users → destruction_refusal sid t ≡ None → IsTable (without_session sid t) users
table-ended sid t users is none = record {
  ascend = Ascend-remove (same_sid sid) 0 t.given t.live is.ascend;
  few = let shorter = length-remove_entry (same_sid sid) t.live in let few = is.few in omega arith;
  events = is.events;
  once = λ u real. let one = is.once u real in omega (arith, places-destroyed u sid t none);
  counted = is.counted ∙ sym (users-ended sid t none);
}

-- one session is changed
pub table-changed : (sid : Sid) (change : LiveSession → LiveSession) (t : SessionTable) (users after : ℕ) (s : LiveSession) → IsTable t users → session_of sid t ≡ Some s → ((u : Token) → 0 < u.0 → places u (change_session sid change t) ≤ 1)
    → after + users_of s ≡ users + users_of (change s) → IsTable (change_session sid change t) after
table-changed sid change t users after s is there once counts = record {
  ascend = Ascend-change sid change 0 t.given t.live is.ascend;
  few = let few = is.few in omega (arith, length-change sid change t.live);
  events = is.events;
  once = once;
  counted = let had = is.counted in omega (arith, sum-change_live users_of sid change t.live s there);
}

-- a token that is new stands once
pub new-once : (token : Token) (t : SessionTable) (users after : ℕ) (u : Token) → IsTable t users → IsNewToken token t → 0 < u.0 → after ≡ places u t + one_if (eqb token.0 u.0) → after ≤ 1
new-once token t users after u is fresh real sum = by (eqb token.0 u.0) refl (places u t) refl
  where
    by : (b : Bool) → eqb token.0 u.0 ≡ b → (n : ℕ) → places u t ≡ n → after ≤ 1
    by true same zero none = let one : one_if (eqb token.0 u.0) ≡ 1 = ap one_if same in omega arith
    by true same (suc n) some = let below = fresh.1 u (omega arith) in let equal = eqb-true token.0 u.0 same in absurd (omega arith)
    by false other n is_n = let zero_more : one_if (eqb token.0 u.0) ≡ 0 = ap one_if other in let one = is.once u real in omega arith

-- a message waits unrouted
pub table-unrouted : (m : Message) (t : SessionTable) (users : ℕ) → IsTable t users → IsEvent m → ((u : Token) → 0 < u.0 → places u (record t { unrouted = t.unrouted ++ m ∷ [] }) ≤ 1) → IsTable (record t { unrouted = t.unrouted ++ m ∷ [] }) users
table-unrouted m t users is event once = record { ascend = is.ascend; few = is.few; events = All-push IsEvent t.unrouted m is.events event; once = once; counted = is.counted }

-- ---- kinds

pub table-disposed : (sid : Sid) (kinds : Kinds) (t : SessionTable) (users : ℕ) → IsTable t users → lives sid t ≡ true → IsTable (with_kinds sid kinds t) users
table-disposed sid kinds t users is living =
    let joined : List Message = filter (λ m. takes kinds m.kind) t.unrouted in
    let change : LiveSession → LiveSession = λ s. queued joined (record s { kinds = kinds }) in
    let others : Live = map (λ (s : Sid × LiveSession). (s.0, loses kinds s.1)) t.live in
    let s = session-lives sid t living in
    let there : lookup (same_sid sid) others ≡ Some (loses kinds s.0) = lookup-mapped sid (loses kinds) t.live ∙ ap (option_map (loses kinds)) s.1 in
    record {
      ascend = Ascend-change sid change 0 t.given others (Ascend-map (loses kinds) 0 t.given t.live is.ascend);
      few = let few = is.few in let same : length others ≡ length t.live = length-map t.live (λ (x : Sid × LiveSession). (x.0, loses kinds x.1)) in omega (arith, length-change sid change others);
      events = All-filter (λ m. not (takes kinds m.kind)) IsEvent t.unrouted is.events;
      once = λ u real. let one = is.once u real in omega (arith, places-disposed u sid kinds t living);
      counted = let had = is.counted in omega (arith, sum-change_live users_of sid change others (loses kinds s.0) there, sum-mapped users_of (loses kinds) (λ x. refl) t.live);
    }

-- as the code does it: the messages join, all lose the kinds, and the session takes them
pub disposed-is : (sid : Sid) (kinds : Kinds) (joined : List Message) (live : Live) → change_live sid (λ s. record s { kinds = kinds }) (map (λ (x : Sid × LiveSession). (x.0, loses kinds x.1)) (change_live sid (queued joined) live))
    ≡ change_live sid (λ s. queued joined (record s { kinds = kinds })) (map (λ (x : Sid × LiveSession). (x.0, loses kinds x.1)) live)
disposed-is sid kinds joined [] = refl
disposed-is sid kinds joined (e ∷ rest) = by (same_sid sid e.0) refl (disposed-is sid kinds joined rest)
  where
    by : (b : Bool) → same_sid sid e.0 ≡ b
        → change_live sid (λ s. record s { kinds = kinds }) (map (λ (x : Sid × LiveSession). (x.0, loses kinds x.1)) (change_live sid (queued joined) rest)) ≡ change_live sid (λ s. queued joined (record s { kinds = kinds })) (map (λ (x : Sid × LiveSession). (x.0, loses kinds x.1)) rest)
        → change_live sid (λ s. record s { kinds = kinds }) (map (λ (x : Sid × LiveSession). (x.0, loses kinds x.1)) (cond b ((e.0, queued joined e.1) ∷ rest) (e ∷ change_live sid (queued joined) rest)))
        ≡ change_live sid (λ s. queued joined (record s { kinds = kinds })) (map (λ (x : Sid × LiveSession). (x.0, loses kinds x.1)) (e ∷ rest))
    by true own later = rw own refl
    by false other later = rw other (ap (λ (l : Live). (e.0, loses kinds e.1) ∷ l) later)

pub lives-change : (sid : Sid) (change : LiveSession → LiveSession) (live : Live) → is_some (lookup (same_sid sid) (change_live sid change live)) ≡ is_some (lookup (same_sid sid) live)
lives-change sid change [] = refl
lives-change sid change (e ∷ rest) = by (same_sid sid e.0) refl (lives-change sid change rest)
  where
    by : (b : Bool) → same_sid sid e.0 ≡ b → is_some (lookup (same_sid sid) (change_live sid change rest)) ≡ is_some (lookup (same_sid sid) rest) → is_some (lookup (same_sid sid) (cond b ((e.0, change e.1) ∷ rest) (e ∷ change_live sid change rest))) ≡ is_some (lookup (same_sid sid) (e ∷ rest))
    by true own later = rw own refl
    by false other later = rw other later

is_some-map : (h : LiveSession → LiveSession) (o : Option LiveSession) → is_some (option_map h o) ≡ is_some o
is_some-map h None = refl
is_some-map h (Some s) = refl

pub lives-map : (sid : Sid) (h : LiveSession → LiveSession) (live : Live) → is_some (lookup (same_sid sid) (map (λ (x : Sid × LiveSession). (x.0, h x.1)) live)) ≡ is_some (lookup (same_sid sid) live)
lives-map sid h live = ap is_some (lookup-mapped sid h live) ∙ is_some-map h (lookup (same_sid sid) live)

-- ---- all sessions lose kinds, one after the other

abbrev pub lost : Kinds → ℕ → Live → Live
lost kinds i live = map (λ (s : Sid × LiveSession). (s.0, loses kinds s.1)) (take i live) ++ drop i live

pub lost-more : (kinds : Kinds) (live : Live) (i : ℕ) (s : LiveSession) → slice_get (values_of (lost kinds i live)) i ≡ Some s → set_value_at (lost kinds i live) i (loses kinds s) ≡ lost kinds (suc i) live
lost-more kinds [] zero s is = absurd cc
lost-more kinds [] (suc i) s is = absurd cc
lost-more kinds (e ∷ rest) zero s is = let same : e.1 ≡ s = cc in λ j. (e.0, loses kinds (sym same j)) ∷ rest
lost-more kinds (e ∷ rest) (suc i) s is = ap (λ (l : Live). (e.0, loses kinds e.1) ∷ l) (lost-more kinds rest i s is)

pub lost-length : (kinds : Kinds) (i : ℕ) (live : Live) → length (lost kinds i live) ≡ length live
lost-length kinds zero live = refl
lost-length kinds (suc i) [] = refl
lost-length kinds (suc i) (e ∷ rest) = ap suc (lost-length kinds i rest)

pub lost-all : (kinds : Kinds) (i : ℕ) (live : Live) → length live ≤ i → lost kinds i live ≡ map (λ (s : Sid × LiveSession). (s.0, loses kinds s.1)) live
lost-all kinds zero [] le = refl
lost-all kinds zero (e ∷ rest) le = absurd (omega arith)
lost-all kinds (suc i) [] le = refl
lost-all kinds (suc i) (e ∷ rest) le = ap (λ (l : Live). (e.0, loses kinds e.1) ∷ l) (lost-all kinds i rest (omega arith))

-- ---- what isn't refused

pub living : (sid : Sid) (t : SessionTable) (rest : List (Option DmRefusal)) → first_refusal (dead_session sid t ∷ rest) ≡ None → lives sid t ≡ true
living sid t rest none = passed (lives sid t) NoSession (none-first (dead_session sid t) rest none).0

pub access-event : (m : Message) → IsMessage m → (m.kind ≡ User → ⊥) → IsEvent m
access-event m message access = (message, by m.kind access)
  where
    by : (k : Kind) → (k ≡ User → ⊥) → is_of_user k ≡ false
    by User other = absurd (other refl)
    by Read other = refl
    by Write other = refl
    by Truncate other = refl
    by NoSpace other = refl

-- ---- a token that is new

new-nowhere : (token : Token) (t : SessionTable) → IsNewToken token t → places token t ≡ 0
new-nowhere token t fresh = by (places token t) refl
  where
    by : (n : ℕ) → places token t ≡ n → n ≡ 0
    by zero is = refl
    by (suc n) is = let below = fresh.1 token (omega arith) in absurd (omega arith)

pub new-absent : (token : Token) (sid : Sid) (t : SessionTable) → IsNewToken token t → count_by (has_token token) (outstanding_or_none (session_of sid t)) ≡ 0
new-absent token sid t fresh = by (session_of sid t) refl
  where
    by : (o : Option LiveSession) → session_of sid t ≡ o → count_by (has_token token) (outstanding_or_none o) ≡ 0
    by None none = refl
    by (Some s) there = omega (arith, new-nowhere token t fresh, places-held token sid t s there)

pub once-held : (sid : Sid) (t : SessionTable) (users : ℕ) → IsTable t users → IfSome (session_of sid t) (λ s. (u : Token) → 0 < u.0 → places_in u s ≤ 1)
once-held sid t users is = by (session_of sid t) refl
  where
    by : (o : Option LiveSession) → session_of sid t ≡ o → IfSome o (λ s. (u : Token) → 0 < u.0 → places_in u s ≤ 1)
    by None none = tt
    by (Some s) there = λ u real. let one = is.once u real in omega (arith, places-held u sid t s there)

-- ---- tables after events

pub table-user : (sid : Sid) (token : Token) (body : List ℕ) (t : SessionTable) (users : ℕ) → IsTable t users → lives sid t ≡ true → IsNewToken token t → IsTable (user_event sid token body t) (users + 1)
table-user sid token body t users is alive fresh =
    let s = session-lives sid t alive in
    table-changed sid (λ x. record x { outstanding = put_message x.outstanding (user_message token body) }) t users (users + 1) s.0 is s.1
    (λ u real. new-once token t users (places u (user_event sid token body t)) u is fresh real (places-user_event u sid token body t alive))
    (omega (arith, count-put_message (λ m. is_of_user m.kind) s.0.outstanding (user_message token body)))

pub table-queued : (sid : Sid) (m : Message) (t : SessionTable) (users : ℕ) → IsTable t users → lives sid t ≡ true → ((u : Token) → 0 < u.0 → places u (change_session sid (queued (m ∷ [])) t) ≤ 1) → IsTable (change_session sid (queued (m ∷ [])) t) users
table-queued sid m t users is alive once = let s = session-lives sid t alive in table-changed sid (queued (m ∷ [])) t users users s.0 is s.1 once refl

pub table-sent : (target : Sid) (body : List ℕ) (t : SessionTable) (users : ℕ) → IsTable t users → lives target t ≡ true → IsTable (sent target body t) users
table-sent target body t users is alive = table-queued target (user_message no_token body) t users is alive (λ u real. let one = is.once u real in omega (arith, places-sent u target body t real))

pub table-posted : (m : Message) (t : SessionTable) (users : ℕ) → IsTable t users → IsEvent m → IsNewToken m.token t → IsTable (posted m t) users
table-posted m t users is event fresh = by (taker m.kind t) refl
  where
    once : (u : Token) → 0 < u.0 → places u (posted m t) ≤ 1
    once u real = new-once m.token t users (places u (posted m t)) u is fresh real (places-posted u m t)

    by : (o : Option Sid) → taker m.kind t ≡ o → IsTable (posted_to o m t) users
    by None none = table-unrouted m t users is event (subst (λ o. (u : Token) → 0 < u.0 → places u (posted_to o m t) ≤ 1) none once)
    by (Some sid) there = table-queued sid m t users is (found-lives (λ s. takes s.1.kinds m.kind) sid t.live there) (subst (λ o. (u : Token) → 0 < u.0 → places u (posted_to o m t) ≤ 1) there once)

pub taker-lives : (kind : Kind) (sid : Sid) (t : SessionTable) → taker kind t ≡ Some sid → lives sid t ≡ true
taker-lives kind sid t there = found-lives (λ s. takes s.1.kinds kind) sid t.live there

pub table-delivered : (sid : Sid) (count : ℕ) (t : SessionTable) (users : ℕ) → IsTable t users → lives sid t ≡ true → IfSome (session_of sid t) (λ s. users_of (hands_out count s) ≡ users_of s) → IsTable (delivered sid count t) users
table-delivered sid count t users is alive same =
    let s = session-lives sid t alive in
    let own : users_of (hands_out count s.0) ≡ users_of s.0 = rw s.1 at same in
    table-changed sid (hands_out count) t users users s.0 is s.1 (λ u real. let one = is.once u real in omega (arith, places-delivered u sid count t real)) (omega (arith, own))

pub taken-out : (o : Option Message) (left all : ℕ) (b : Bool) → MatchOption o (left ≡ all) (λ m. left + one_if (is_of_user m.kind) ≡ all) → MatchOption o (b ≡ false) (λ m. b ≡ is_of_user m.kind) → left + one_if b ≡ all
taken-out None left all b is own = let none : one_if b ≡ 0 = ap one_if own in omega arith
taken-out (Some m) left all b is own = let same : one_if b ≡ one_if (is_of_user m.kind) = ap one_if own in omega arith

module _ (sid : Sid) (token : Token) (t : SessionTable) (users : ℕ) (b : Bool) (is : IsTable t users) (alive : lives sid t ≡ true)
    (few : count_by (has_token token) (outstanding_or_none (session_of sid t)) ≤ 1) (own : MatchOption (message_in token (outstanding_or_none (session_of sid t))) (b ≡ false) (λ m. b ≡ is_of_user m.kind)) where
  left-users : (s : LiveSession) × (session_of sid t ≡ Some s) × (count_by (λ m. is_of_user m.kind) (without_token token s.outstanding) + one_if b ≡ users_of s)
  left-users =
      let s = session-lives sid t alive in
      let once : count_by (has_token token) s.0.outstanding ≤ 1 = rw s.1 at few in
      let mine : MatchOption (message_in token s.0.outstanding) (b ≡ false) (λ m. b ≡ is_of_user m.kind) = rw s.1 at own in
      (s.0, s.1, taken-out (message_in token s.0.outstanding) (count_by (λ m. is_of_user m.kind) (without_token token s.0.outstanding)) (users_of s.0) b (users-without (λ m. is_of_user m.kind) token s.0.outstanding once) mine)

  pub enough-users : one_if b ≤ users
  enough-users = let left = left-users in let rest = left.2 in let had = is.counted in omega (arith, sum-remove users_of sid t.live left.0 left.1)

  pub table-answered : IsTable (responded sid token t) (users - one_if b)
  table-answered =
      let left = left-users in
      let rest = left.2 in
      let enough = enough-users in
      table-changed sid (λ s. record s { outstanding = without_token token s.outstanding }) t users (users - one_if b) left.0 is left.1
      (λ u real. let one = is.once u real in by u real (eqb u.0 token.0) refl one)
      (omega arith)
    where
      by : (u : Token) → 0 < u.0 → (c : Bool) → eqb u.0 token.0 ≡ c → places u t ≤ 1 → places u (responded sid token t) ≤ 1
      by u real true same one = let equal = eqb-true u.0 token.0 same in let it : token ≡ u = λ i. record { 0 = sym equal i } in subst (λ (x : Token). places x t ≤ 1 → places x (responded sid token t) ≤ 1) it (λ le. omega (arith, places-responded sid token t)) one
      by u real false other one = omega (arith, places-responded-other u sid token t (λ same. true≢false (sym (eq-eqb u.0 token.0 same) ∙ other)))

-- ---- who holds a token

pub admitted : (sid : Sid) (token : Token) (t : SessionTable) (users : ℕ) (s : LiveSession) → IsTable t users → session_of sid t ≡ Some s → holds token s ≡ true → 0 < token.0 → first_refusal (dead_session sid t ∷ bad_token sid token t ∷ []) ≡ None
admitted sid token t users s is there own real =
    let mine = owner-own token sid s t (is.once token real) there own in
    let self : eqb sid.0 sid.0 ≡ true = eq-eqb sid.0 sid.0 refl in
    rw (there, mine, self) refl

pub of-another : (sid other : Sid) (token : Token) (t : SessionTable) (users : ℕ) (s : LiveSession) → IsTable t users → session_of sid t ≡ Some s → holds token s ≡ false → owner token t ≡ Some other → first_refusal (dead_session sid t ∷ bad_token sid token t ∷ []) ≡ Some (NotYours other)
of-another sid other token t users s is there lacks has =
    let differs : eqb other.0 sid.0 ≡ false = ne_eqb other.0 sid.0 (λ same. clash (subst (λ (x : Sid). owner token t ≡ Some x) (λ i. record { 0 = same i }) has)) in
    rw (there, has, differs) refl
  where
    clash : owner token t ≡ Some sid → ⊥
    clash own =
        let met = owner-holds token sid 0 t.given t is.ascend own in
        let one : Some met.0 ≡ Some s = sym met.1 ∙ there in
        let same : met.0 ≡ s = cc in
        true≢false (sym met.2 ∙ ap (holds token) same ∙ lacks)

-- ---- the first session that passes, one after the other

module _ (p : Sid × LiveSession → Bool) (all s t : Live) (kept : find p all ≡ find p s) where
  pub find-hit : (x : Sid × LiveSession) → s ≡ x ∷ t → p x ≡ true → find p all ≡ Some x
  find-hit x first passes = kept ∙ ap (find p) first ∙ ap (λ (b : Bool). cond b (Some x) (find p t)) passes

  pub find-miss : (x : Sid × LiveSession) → s ≡ x ∷ t → p x ≡ false → find p all ≡ find p t
  find-miss x first fails = kept ∙ ap (find p) first ∙ ap (λ (b : Bool). cond b (Some x) (find p t)) fails

  pub find-end : s ≡ [] → find p all ≡ None
  find-end none = kept ∙ ap (find p) none

-- a session holds the token whose message is found in it
pub found-held : (token : Token) (s : LiveSession) (o : Option Message) → o ≡ message_in token s.outstanding → holds token s ≡ is_some o
found-held token s o is = any-found token s.outstanding ∙ ap is_some (sym is)

-- ---- what refuses a message

pub sending-is : (sid target : Sid) (body : List ℕ) (t : SessionTable) (s : LiveSession) → lives sid t ≡ true → session_of target t ≡ Some s
    → first_refusal (dead_session sid t ∷ sending_refusal target body t ∷ []) ≡ first_refusal (too_long body ∷ too_many_waiting s.queue ∷ [])
sending-is sid target body t s alive there = rw (alive, there) (alone (first_refusal (too_long body ∷ too_many_waiting s.queue ∷ [])))
  where
    alone : (o : Option DmRefusal) → first_refusal (o ∷ []) ≡ o
    alone None = refl
    alone (Some why) = refl

pub sending-dead : (sid target : Sid) (body : List ℕ) (t : SessionTable) → lives sid t ≡ true → session_of target t ≡ None → first_refusal (dead_session sid t ∷ sending_refusal target body t ∷ []) ≡ Some NoSession
sending-dead sid target body t alive none = rw (alive, none) refl

pub sending-alive : (sid target : Sid) (body : List ℕ) (t : SessionTable) → first_refusal (dead_session sid t ∷ sending_refusal target body t ∷ []) ≡ None → lives target t ≡ true
sending-alive sid target body t none =
    let later = (none-first (dead_session sid t) (sending_refusal target body t ∷ []) none).1 in
    living target t (too_long body ∷ too_many_waiting (queue_of target t) ∷ []) (none-first (sending_refusal target body t) [] later).0
