-- Messages that move from one list to another, one at a time.
use Rattle.std.proofs.Common.{◌≡◌, ℕ, ◌+◌, ◌<◌, ◌≤◌, Bool, true, false, cond, not, List, [], ◌∷◌, ◌++◌, length}
use Rattle.std.proofs.Common.{take, drop, filter, get_or, None, refl, sym, ap, ◌∙◌, eqb, arith, length-append}
use Rattle.std.proofs.lemmas.Bool.{eqb-true, eq-eqb}
use Rattle.std.proofs.lemmas.List.{drop_more, drop_all, take_all, append-nil, append_assoc, length-take-le, length-drop, take-take, get_or-take, map-append}
use Rattle.std.proofs.lemmas.List.Elements.{filter_more, All-head, All-tail, All-nil, All-cons, All-append, All-same}
use Rattle.std.proofs.lemmas.List.Sums.{sum_by-cons, sum_by-append, sum_by_more_le, length-filter}
use Rattle.std.specs.Prelude.{count_by}
use Rattle.std.specs.List.{All}
use Rattle.std.specs.Map.{values_of, lookup}
use Rattle.hsm_types.specs.Messages.{has_token, no_token}
use Rattle.hsm_types.specs.Sessions.{with_tokens}
use Rattle.hsm_types.specs.declared.keys.Token.{Token}
use Rattle.hsm_types.specs.declared.messages.Message.{Message}
use Rattle.hsm_types.proofs.Queues.{others-stay}
use Rattle.dm_sessions.specs.Moves.{keyed, same_token, AreApart}

-- one or none
abbrev one_if : Bool → ℕ
one_if b = cond b 1 0

-- the first of what is left of a list
pub popped : {X : Type 0} (whole kept from rest : List X) (i : ℕ) (x : X) → i < length whole → from ≡ drop i whole ++ kept → from ≡ (x ∷ []) ++ rest → (x ≡ get_or whole i x) × (rest ≡ drop (i + 1) whole ++ kept)
popped {X} whole kept from rest i x lt was is =
    let next : drop i whole ≡ get_or whole i x ∷ drop (i + 1) whole = drop_more whole i x lt in
    let same : x ∷ rest ≡ get_or whole i x ∷ (drop (i + 1) whole ++ kept) = sym is ∙ was ∙ ap (λ (l : List X). l ++ kept) next in
    (cc, cc)

-- one more that is filtered
pub filter_next : {X : Type 0} (p : X → Bool) (whole : List X) (i : ℕ) (x : X) → i < length whole → x ≡ get_or whole i x → filter p (take (i + 1) whole) ≡ filter p (take i whole) ++ cond (p x) (x ∷ []) []
filter_next {X} p whole i x lt is = filter_more p whole i x lt ∙ ap (λ (y : X). filter p (take i whole) ++ cond (p y) (y ∷ []) []) (sym is)

-- so many were looked at: those that pass are at the end of one list, the others at the end of their own
pub record AreParted (p : Message → Bool) (whole target from to : List Message) (i : ℕ) : Type 0 where
  pub left : from ≡ drop i whole ++ filter (λ m. not (p m)) (take i whole)
  pub moved : to ≡ target ++ filter p (take i whole)

pub parted-yes : (p : Message → Bool) (whole target from to rest : List Message) (i : ℕ) (m : Message) → i < length whole → AreParted p whole target from to i → from ≡ (m ∷ []) ++ rest → p m ≡ true → AreParted p whole target rest (to ++ m ∷ []) (i + 1)
parted-yes p whole target from to rest i m lt h is passes =
    let first = popped whole (filter (λ x. not (p x)) (take i whole)) from rest i m lt h.left is in
    let mine : filter p (take (i + 1) whole) ≡ filter p (take i whole) ++ m ∷ [] = filter_next p whole i m lt first.0 ∙ ap (λ (b : Bool). filter p (take i whole) ++ cond b (m ∷ []) []) passes in
    let others : filter (λ x. not (p x)) (take (i + 1) whole) ≡ filter (λ x. not (p x)) (take i whole) =
    filter_next (λ x. not (p x)) whole i m lt first.0 ∙ ap (λ (b : Bool). filter (λ x. not (p x)) (take i whole) ++ cond (not b) (m ∷ []) []) passes ∙ append-nil (filter (λ x. not (p x)) (take i whole)) in
    record {
      left = first.1 ∙ ap (λ (l : List Message). drop (i + 1) whole ++ l) (sym others);
      moved = ap (λ (l : List Message). l ++ m ∷ []) h.moved ∙ append_assoc target (filter p (take i whole)) (m ∷ []) ∙ ap (λ (l : List Message). target ++ l) (sym mine);
    }

pub parted-no : (p : Message → Bool) (whole target from to rest : List Message) (i : ℕ) (m : Message) → i < length whole → AreParted p whole target from to i → from ≡ (m ∷ []) ++ rest → p m ≡ false → AreParted p whole target (rest ++ m ∷ []) to (i + 1)
parted-no p whole target from to rest i m lt h is fails =
    let first = popped whole (filter (λ x. not (p x)) (take i whole)) from rest i m lt h.left is in
    let mine : filter p (take (i + 1) whole) ≡ filter p (take i whole) =
    filter_next p whole i m lt first.0 ∙ ap (λ (b : Bool). filter p (take i whole) ++ cond b (m ∷ []) []) fails ∙ append-nil (filter p (take i whole)) in
    let others : filter (λ x. not (p x)) (take (i + 1) whole) ≡ filter (λ x. not (p x)) (take i whole) ++ m ∷ [] =
    filter_next (λ x. not (p x)) whole i m lt first.0 ∙ ap (λ (b : Bool). filter (λ x. not (p x)) (take i whole) ++ cond (not b) (m ∷ []) []) fails in
    record {
      left = ap (λ (l : List Message). l ++ m ∷ []) first.1 ∙ append_assoc (drop (i + 1) whole) (filter (λ x. not (p x)) (take i whole)) (m ∷ []) ∙ ap (λ (l : List Message). drop (i + 1) whole ++ l) (sym others);
      moved = h.moved ∙ ap (λ (l : List Message). target ++ l) (sym mine);
    }

pub parted-all : (p : Message → Bool) (whole target from to : List Message) (i : ℕ) → length whole ≤ i → AreParted p whole target from to i → (from ≡ filter (λ m. not (p m)) whole) × (to ≡ target ++ filter p whole)
parted-all p whole target from to i end h =
    let all : take i whole ≡ whole = take_all i whole end in
    let none : drop i whole ≡ [] = drop_all i whole end in
    (h.left ∙ (λ j. none j ++ filter (λ m. not (p m)) (all j)), h.moved ∙ (λ j. target ++ filter p (all j)))

-- there is room for the next that passes
pub parted-room : (p : Message → Bool) (whole target from to rest : List Message) (i room : ℕ) (m : Message) → i < length whole → AreParted p whole target from to i → from ≡ (m ∷ []) ++ rest → p m ≡ true
    → length target + count_by p whole ≤ room → length to < room
parted-room p whole target from to rest i room m lt h is passes fits =
    let first = popped whole (filter (λ x. not (p x)) (take i whole)) from rest i m lt h.left is in
    let one : one_if (p (get_or whole i m)) ≡ 1 = ap (λ (x : Message). one_if (p x)) (sym first.0) ∙ ap one_if passes in
    let long : length to ≡ length target + length (filter p (take i whole)) = ap length h.moved ∙ length-append target (filter p (take i whole)) in
    omega (arith, length-filter p (take i whole), sum_by_more_le (λ x. one_if (p x)) whole i m lt)

-- something is left until all were looked at
pub parted-some : (p : Message → Bool) (whole target from to : List Message) (i : ℕ) → i < length whole → AreParted p whole target from to i → 0 < length from
parted-some p whole target from to i lt h =
    let long : length from ≡ length (drop i whole) + length (filter (λ m. not (p m)) (take i whole)) = ap length h.left ∙ length-append (drop i whole) (filter (λ m. not (p m)) (take i whole)) in
    omega (arith, length-drop i whole)

-- ---- into a table by token

keyed-append : (a b : List Message) → keyed (a ++ b) ≡ keyed a ++ keyed b
keyed-append a b = map-append (λ (m : Message). (m.token, m)) a b

pub values-keyed : (messages : List Message) → values_of (keyed messages) ≡ messages
values-keyed [] = refl
values-keyed (m ∷ more) = ap (λ (l : List Message). m ∷ l) (values-keyed more)

pub values-append : (a b : List (Token × Message)) → values_of (a ++ b) ≡ values_of a ++ values_of b
values-append a b = map-append (λ (e : Token × Message). e.1) a b

-- a token that no message has is in no entry under its message's token
pub absent : (t : Token) (entries : List (Token × Message)) → All (λ (e : Token × Message). e.0 ≡ e.1.token) entries → count_by (has_token t) (values_of entries) ≡ 0 → lookup (same_token t) entries ≡ None
absent t [] own none = refl
absent t (e ∷ rest) own none = by (eqb t.0 e.0.0) refl (absent t rest (All-tail (λ (e : Token × Message). e.0 ≡ e.1.token) e rest own))
  where
    all : count_by (has_token t) (values_of (e ∷ rest)) ≡ one_if (has_token t e.1) + count_by (has_token t) (values_of rest)
    all = sum_by-cons (λ m. one_if (has_token t m)) e.1 (values_of rest)

    key : e.0 ≡ e.1.token
    key = All-head (λ (e : Token × Message). e.0 ≡ e.1.token) e rest own

    by : (b : Bool) → eqb t.0 e.0.0 ≡ b → (count_by (has_token t) (values_of rest) ≡ 0 → lookup (same_token t) rest ≡ None) → lookup (same_token t) (e ∷ rest) ≡ None
    by true here later =
        let mine : has_token t e.1 ≡ true = eq-eqb e.1.token.0 t.0 (ap (λ (x : Token). x.0) (sym key) ∙ sym (eqb-true t.0 e.0.0 here)) in
        let one : one_if (has_token t e.1) ≡ 1 = ap one_if mine in
        absurd (omega (arith, all))
    by false other later = rw other (later (omega (arith, all)))

-- so many were handed out, those with a token into the table
pub record AreHanded (whole : List Message) (held : List (Token × Message)) (queue : List Message) (entries : List (Token × Message)) (i : ℕ) : Type 0 where
  pub left : queue ≡ drop i whole
  pub held_is : entries ≡ held ++ keyed (with_tokens (take i whole))

handed-values : (whole : List Message) (held entries : List (Token × Message)) (i : ℕ) → entries ≡ held ++ keyed (with_tokens (take i whole)) → values_of entries ≡ values_of held ++ with_tokens (take i whole)
handed-values whole held entries i is = ap values_of is ∙ values-append held (keyed (with_tokens (take i whole))) ∙ ap (λ (l : List Message). values_of held ++ l) (values-keyed (with_tokens (take i whole)))

pub handed-front : (whole : List Message) (held : List (Token × Message)) (queue : List Message) (entries : List (Token × Message)) (i : ℕ) (m : Message) (rest : List Message) → i < length whole → AreHanded whole held queue entries i → queue ≡ (m ∷ []) ++ rest
    → (m ≡ get_or whole i m) × (rest ≡ drop (i + 1) whole)
handed-front whole held queue entries i m rest lt h is =
    let first = popped whole [] queue rest i m lt (h.left ∙ sym (append-nil (drop i whole))) is in
    (first.0, first.1 ∙ append-nil (drop (i + 1) whole))

pub handed-more : (whole : List Message) (held : List (Token × Message)) (queue : List Message) (entries after : List (Token × Message)) (i : ℕ) (m : Message) (rest : List Message) → i < length whole → AreHanded whole held queue entries i → queue ≡ (m ∷ []) ++ rest
    → after ≡ entries ++ keyed (with_tokens (m ∷ [])) → AreHanded whole held rest after (i + 1)
handed-more whole held queue entries after i m rest lt h is put =
    let first = handed-front whole held queue entries i m rest lt h is in
    let more : with_tokens (take (i + 1) whole) ≡ with_tokens (take i whole) ++ with_tokens (m ∷ []) = filter_next (λ x. not (has_token no_token x)) whole i m lt first.0 in
    record {
      left = first.1;
      held_is = put ∙ ap (λ (l : List (Token × Message)). l ++ keyed (with_tokens (m ∷ []))) h.held_is ∙ append_assoc held (keyed (with_tokens (take i whole))) (keyed (with_tokens (m ∷ [])))
          ∙ ap (λ (l : List (Token × Message)). held ++ l) (sym (keyed-append (with_tokens (take i whole)) (with_tokens (m ∷ []))) ∙ ap keyed (sym more));
    }

-- the next token isn't in the table yet
pub handed-absent : (whole : List Message) (held : List (Token × Message)) (queue : List Message) (entries : List (Token × Message)) (i : ℕ) (m : Message) (rest : List Message) → i < length whole → AreHanded whole held queue entries i → queue ≡ (m ∷ []) ++ rest
    → AreApart whole held → 0 < m.token.0 → count_by (has_token m.token) (values_of entries) ≡ 0
handed-absent whole held queue entries i m rest lt h is apart real =
    let first = handed-front whole held queue entries i m rest lt h is in
    let mine : has_token m.token (get_or whole i m) ≡ true = ap (has_token m.token) (sym first.0) ∙ eq-eqb m.token.0 m.token.0 refl in
    let one : one_if (has_token m.token (get_or whole i m)) ≡ 1 = ap one_if mine in
    let both : count_by (has_token m.token) (values_of entries) ≡ count_by (has_token m.token) (values_of held) + count_by (has_token m.token) (with_tokens (take i whole)) =
    ap (count_by (has_token m.token)) (handed-values whole held entries i h.held_is) ∙ sum_by-append (λ x. one_if (has_token m.token x)) (values_of held) (with_tokens (take i whole)) in
    let kept : count_by (has_token m.token) (with_tokens (take i whole)) ≡ count_by (has_token m.token) (take i whole) = others-stay no_token m.token (λ zero. omega arith) (take i whole) in
    let few = apart m.token real in
    omega (arith, sum_by_more_le (λ x. one_if (has_token m.token x)) whole i m lt)

-- what is handed out fits in what was
pub handed-room : (whole : List Message) (i count : ℕ) (m : Message) → i < count → count ≤ length whole → m ≡ get_or whole i m → length (with_tokens (take i whole)) + length (with_tokens (m ∷ [])) ≤ length (with_tokens (take count whole))
handed-room whole i count m lt within is =
    let p : Message → Bool = λ x. not (has_token no_token x) in
    let before : count_by p (take i (take count whole)) ≡ count_by p (take i whole) = ap (count_by p) (take-take i count whole (omega arith)) in
    let here : one_if (p (get_or (take count whole) i m)) ≡ one_if (p m) = ap (λ (x : Message). one_if (p x)) (get_or-take count whole i m lt ∙ sym is) in
    omega (arith, before, here, length-filter p (take i whole), length-filter p (m ∷ []), length-filter p (take count whole), sum_by_more_le (λ x. one_if (p x)) (take count whole) i m (omega (arith, length-take-le count whole within)))

abbrev pub OwnKey : Token × Message → Type 0
OwnKey e = e.0 ≡ e.1.token

own-keyed : (messages : List Message) → All OwnKey (keyed messages)
own-keyed [] = All-nil OwnKey
own-keyed (m ∷ more) = All-cons OwnKey (m.token, m) (keyed more) refl (own-keyed more)

pub handed-own : (whole : List Message) (held : List (Token × Message)) (entries : List (Token × Message)) (i : ℕ) → entries ≡ held ++ keyed (with_tokens (take i whole)) → All OwnKey held → All OwnKey entries
handed-own whole held entries i is own = All-same OwnKey entries (held ++ keyed (with_tokens (take i whole))) is (All-append OwnKey held (keyed (with_tokens (take i whole))) own (own-keyed (with_tokens (take i whole))))

pub next-length : (whole : List Message) (i : ℕ) (m : Message) → i < length whole → m ≡ get_or whole i m → length (with_tokens (take (i + 1) whole)) ≡ length (with_tokens (take i whole)) + length (with_tokens (m ∷ []))
next-length whole i m lt is = ap length (filter_next (λ x. not (has_token no_token x)) whole i m lt is) ∙ length-append (with_tokens (take i whole)) (with_tokens (m ∷ []))
