-- What is true of a session, after each call of it.
use Rattle.std.proofs.Common.{◌≡◌, ℕ, ◌+◌, ◌-◌, ◌<◌, ◌≤◌, ⊎_elim, Bool, true, false, cond, not, List}
use Rattle.std.proofs.Common.{[], ◌∷◌, ◌++◌, length, take, drop, filter, refl, sym, ap, ◌∙◌, eqb, arith}
use Rattle.std.proofs.lemmas.Bool.{true≢false, false≢true, ne_eqb, eq-eqb, eqb-true, cases_eq}
use Rattle.std.proofs.lemmas.List.{length-take-le}
use Rattle.std.proofs.lemmas.List.Elements.{All-head, All-tail, All-nil, All-cons, All-append, All-push, All-take, All-drop, All-filter, All-weaker}
use Rattle.std.proofs.lemmas.List.Sums.{sum_by-cons, sum_by-append, sum_by-take-drop, length-filter}
use Rattle.std.proofs.lemmas.List.Filters.{length-filter_both}
use Rattle.std.specs.Prelude.{count_by}
use Rattle.std.specs.List.{All}
use Rattle.std.specs.Map.{values_of}
use Rattle.hsm_types.specs.Messages.{has_token, no_token, IsMessage, IsOf}
use Rattle.hsm_types.specs.Sessions.{is_of_user, put_messages, with_tokens}
use Rattle.hsm_types.specs.declared.keys.Token.{Token}
use Rattle.hsm_types.specs.declared.dm.Kind.{Kind}
use Rattle.hsm_types.specs.declared.dm.Kind.TheVariants.{Read, Write, Truncate, NoSpace, User}
use Rattle.hsm_types.specs.declared.messages.Message.{Message}
use Rattle.hsm_types.proofs.Queues.{count-filter_gone, count-put_messages, others-stay}
use Rattle.dm_sessions.specs.Moves.{keyed, AreApart}
use Rattle.dm_sessions.specs.Tables.{IsEvent, IsQueued, IsKept, IsSession, in_order}
use Rattle.dm_sessions.proofs.Moves.{values-keyed, values-append, OwnKey}
use Rattle.dm_sessions.proofs.InOrder.{count-in_order}

abbrev Entries : Type 0
Entries = List (Token × Message)

-- one or none
abbrev pub one_if : Bool → ℕ
one_if b = cond b 1 0

-- ---- messages of accesses

event-token : (m : Message) → IsEvent m → m.token.0 ≡ 0 → ⊥
event-token m is = by m.kind is.0 is.1
  where
    by : (k : Kind) → IsOf k m → is_of_user k ≡ false → m.token.0 ≡ 0 → ⊥
    by User of_kind other = absurd (true≢false other)
    by Truncate of_kind other = of_kind.0
    by Read of_kind other = of_kind.0
    by Write of_kind other = of_kind.0
    by NoSpace of_kind other = of_kind.0

event-tokened : (m : Message) → IsEvent m → has_token no_token m ≡ false
event-tokened m is = ne_eqb m.token.0 0 (event-token m is)

pub event-queued : (m : Message) → IsEvent m → IsQueued m
event-queued m is = (is.0, is.1 ∙ sym (event-tokened m is))

events-tokened : (l : List Message) → All IsEvent l → count_by (has_token no_token) l ≡ 0
events-tokened [] all = refl
events-tokened (m ∷ more) all =
    let none : one_if (has_token no_token m) ≡ 0 = ap one_if (event-tokened m (All-head IsEvent m more all)) in
    omega (arith, events-tokened more (All-tail IsEvent m more all), sum_by-cons (λ x. one_if (has_token no_token x)) m more)

-- ---- a message more

pub session-pushed : (queue : List Message) (waiting more : ℕ) (entries : Entries) (m : Message) → IsSession queue waiting entries → IsQueued m → more ≡ one_if (has_token no_token m) → IsSession (queue ++ m ∷ []) (waiting + more) entries
session-pushed queue waiting more entries m is of_queue one = record {
  counted = let had = is.counted in omega (arith, sum_by-append (λ x. one_if (has_token no_token x)) queue (m ∷ []));
  queued = All-push IsQueued queue m is.queued of_queue;
  kept = is.kept;
  apart = is.apart;
}

pub session-joined : (queue messages : List Message) (p : Message → Bool) (waiting : ℕ) (entries : Entries) → IsSession queue waiting entries → All IsEvent messages → IsSession (queue ++ filter p messages) waiting entries
session-joined queue messages p waiting entries is events =
    let joined = All-filter p IsEvent messages events in
    record {
      counted = let had = is.counted in omega (arith, events-tokened (filter p messages) joined, sum_by-append (λ x. one_if (has_token no_token x)) queue (filter p messages));
      queued = All-append IsQueued queue (filter p messages) is.queued (All-weaker IsEvent IsQueued event-queued (filter p messages) joined);
      kept = is.kept;
      apart = is.apart;
    }

pub session-put : (queue : List Message) (waiting : ℕ) (entries : Entries) (m : Message) → IsSession queue waiting entries → IsMessage m → 0 < m.token.0 → count_by (has_token m.token) (values_of entries) ≡ 0 → IsSession queue waiting (entries ++ (m.token, m) ∷ [])
session-put queue waiting entries m is message real absent = record {
  counted = is.counted;
  queued = is.queued;
  kept = All-push IsKept entries (m.token, m) is.kept (refl, real, message);
  apart = λ u. by u (has_token u m) refl;
}
  where
    all : (u : Token) → count_by (has_token u) (values_of (entries ++ (m.token, m) ∷ [])) ≡ count_by (has_token u) (values_of entries) + one_if (has_token u m)
    all u = ap (count_by (has_token u)) (values-append entries ((m.token, m) ∷ [])) ∙ omega (arith, sum_by-append (λ x. one_if (has_token u x)) (values_of entries) (m ∷ []))

    by : (u : Token) (b : Bool) → has_token u m ≡ b → count_by (has_token u) (values_of (entries ++ (m.token, m) ∷ [])) ≤ 1
    by u true own =
        let one : one_if (has_token u m) ≡ 1 = ap one_if own in
        let same : count_by (has_token u) (values_of entries) ≡ count_by (has_token m.token) (values_of entries) = ap (λ n. count_by (λ (x : Message). eqb x.token.0 n) (values_of entries)) (sym (eqb-true m.token.0 u.0 own)) in
        omega (arith, all u)
    by u false other = let none : one_if (has_token u m) ≡ 0 = ap one_if other in let few = is.apart u in omega (arith, all u)

-- ---- messages that are handed out

-- how many of them have a token
pub tokened : (queue : List Message) (count : ℕ) → count ≤ length queue → length (with_tokens (take count queue)) + count_by (has_token no_token) (take count queue) ≡ count
tokened queue count within =
    omega (arith, length-filter (has_token no_token) (take count queue), length-filter_both (has_token no_token) (λ m. not (has_token no_token m)) (λ m. refl) (take count queue), length-take-le count queue within)

pub own-keys : (entries : Entries) → All IsKept entries → All OwnKey entries
own-keys entries kept = All-weaker IsKept OwnKey (λ e is. is.0) entries kept

pub handed-apart : (queue : List Message) (entries : Entries) → ((u : Token) → 0 < u.0 → count_by (has_token u) queue + count_by (has_token u) (in_order entries) ≤ 1) → AreApart queue entries
handed-apart queue entries once u real = let few = once u real in omega (arith, count-in_order (has_token u) entries)

kept-handed : (messages : List Message) → All IsQueued messages → All IsKept (keyed (with_tokens messages))
kept-handed [] all = All-nil IsKept
kept-handed (m ∷ more) all = by (has_token no_token m) refl (kept-handed more (All-tail IsQueued m more all))
  where
    by : (b : Bool) → has_token no_token m ≡ b → All IsKept (keyed (with_tokens more)) → All IsKept (keyed (cond (not b) (m ∷ with_tokens more) (with_tokens more)))
    by true none rest = rest
    by false other rest = All-cons IsKept (m.token, m) (keyed (with_tokens more)) (refl, real, (All-head IsQueued m more all).0) rest
      where
        real : 0 < m.token.0
        real = ⊎_elim (λ (is : m.token.0 ≡ 0). absurd (false≢true (sym other ∙ eq-eqb m.token.0 0 is))) (λ (is : m.token.0 ≡ 0 → ⊥). omega arith) (cases_eq m.token.0 0)

pub session-handed : (queue : List Message) (waiting over : ℕ) (entries : Entries) (count : ℕ) → IsSession queue waiting entries → over ≡ count_by (has_token no_token) (take count queue) → AreApart queue entries
    → IsSession (drop count queue) (waiting - over) (entries ++ keyed (with_tokens (take count queue)))
session-handed queue waiting over entries count is over_is once = record {
  counted = let had = is.counted in omega (arith, sum_by-take-drop (λ x. one_if (has_token no_token x)) queue count);
  queued = All-drop IsQueued count queue is.queued;
  kept = All-append IsKept entries (keyed (with_tokens (take count queue))) is.kept (kept-handed (take count queue) (All-take IsQueued count queue is.queued));
  apart = λ u. ⊎_elim (λ (is_zero : u.0 ≡ 0). at_zero u is_zero) (λ (not_zero : u.0 ≡ 0 → ⊥). at_other u not_zero) (cases_eq u.0 0);
}
  where
    all : (u : Token) → count_by (has_token u) (values_of (entries ++ keyed (with_tokens (take count queue)))) ≡ count_by (has_token u) (values_of entries) + count_by (has_token u) (with_tokens (take count queue))
    all u = ap (count_by (has_token u)) (values-append entries (keyed (with_tokens (take count queue))) ∙ ap (λ (l : List Message). values_of entries ++ l) (values-keyed (with_tokens (take count queue))))
        ∙ sum_by-append (λ x. one_if (has_token u x)) (values_of entries) (with_tokens (take count queue))

    at_zero : (u : Token) → u.0 ≡ 0 → count_by (has_token u) (values_of (entries ++ keyed (with_tokens (take count queue)))) ≤ 1
    at_zero u is_zero =
        let few = is.apart u in
        let none = count-filter_gone (has_token u) (λ m. not (has_token no_token m)) (λ m own. ap not (eq-eqb m.token.0 0 (eqb-true m.token.0 u.0 own ∙ is_zero))) (take count queue) in
        omega (arith, all u)

    at_other : (u : Token) → (u.0 ≡ 0 → ⊥) → count_by (has_token u) (values_of (entries ++ keyed (with_tokens (take count queue)))) ≤ 1
    at_other u not_zero =
        let few = once u (omega arith) in
        let same = others-stay no_token u not_zero (take count queue) in
        omega (arith, all u, sum_by-take-drop (λ x. one_if (has_token u x)) queue count)

-- none of them is of a user event
users-tokened : (messages : List Message) → All IsQueued messages → count_by (λ m. is_of_user m.kind) (with_tokens messages) ≡ 0
users-tokened [] all = refl
users-tokened (m ∷ more) all = by (has_token no_token m) refl (users-tokened more (All-tail IsQueued m more all))
  where
    by : (b : Bool) → has_token no_token m ≡ b → count_by (λ x. is_of_user x.kind) (with_tokens more) ≡ 0 → count_by (λ x. is_of_user x.kind) (cond (not b) (m ∷ with_tokens more) (with_tokens more)) ≡ 0
    by true none rest = rest
    by false other rest =
        let off : one_if (is_of_user m.kind) ≡ 0 = ap one_if ((All-head IsQueued m more all).1 ∙ other) in
        omega (arith, rest, off, sum_by-cons (λ (x : Message). one_if (is_of_user x.kind)) m (with_tokens more))

pub users-handed : (queue outstanding : List Message) (count : ℕ) → All IsQueued queue → count_by (λ m. is_of_user m.kind) (put_messages outstanding (with_tokens (take count queue))) ≡ count_by (λ m. is_of_user m.kind) outstanding
users-handed queue outstanding count all =
    omega (arith, count-put_messages (λ m. is_of_user m.kind) outstanding (with_tokens (take count queue)), users-tokened (take count queue) (All-take IsQueued count queue all))
