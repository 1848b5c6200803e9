-- The messages of a table in the order of their tokens.
use Rattle.std.proofs.Common.{Bor, ◌≡◌, ℕ, zero, suc, ◌+◌, ◌-◌, get_or, set, ◌<◌, ◌≤◌, Bool, true, false, cond, not, ◌||◌}
use Rattle.std.proofs.Common.{List, [], ◌∷◌, ◌++◌, length, Option, None, Some, is_some, refl, sym, ap, subst, ◌∙◌, eqb, arith}
use Rattle.std.proofs.lemmas.Bool.{true≢false, false≢true, ne_eqb, eq-eqb, eqb-true, ltb-true, ltb-false}
use Rattle.std.proofs.lemmas.List.Elements.{All-head, All-tail, All-take, All-set, All-get_or}
use Rattle.std.proofs.lemmas.List.Sums.{sum_by-cons, fold-append, fold_push, sum_by-swap_remove}
use Rattle.std.proofs.lemmas.List.Quantifiers.{position-Some}
use Rattle.std.proofs.lemmas.Map.Entries.{length-keys_of}
use Rattle.std.specs.Prelude.{count_by, sum_by, nat_lt, position, swap_remove}
use Rattle.std.specs.Option.{option_map_or, option_copied, IfSome}
use Rattle.indexmap.specs.IndexMap.{swap_remove_entry}
use Rattle.std.specs.List.{All, find, list_any}
use Rattle.std.specs.Map.{values_of, keys_of, lookup}
use Rattle.hsm_types.specs.Messages.{has_token, IsMessage}
use Rattle.hsm_types.specs.Sessions.{put_message, put_messages, message_in, without_token}
use Rattle.hsm_types.specs.declared.keys.Token.{Token}
use Rattle.hsm_types.specs.declared.messages.Message.{Message}
use Rattle.hsm_types.proofs.Queues.{count-put_message, count-put_messages, token-gone}
use Rattle.dm_sessions.specs.Moves.{keyed, same_token}
use Rattle.dm_sessions.specs.Tables.{in_order, IsKept}
use Rattle.dm_sessions.proofs.Moves.{values-keyed, values-append}
use Rattle.dm_sessions.proofs.Climbing.{Climbs, climbs-same, climbs-filter}

abbrev Entries : Type 0
Entries = List (Token × Message)

-- one or none
abbrev one_if : Bool → ℕ
one_if b = cond b 1 0

abbrev pub number : Message → ℕ
number m = m.token.0

-- ---- how many there are

length-put : (l : List Message) (m : Message) → length (put_message l m) ≡ suc (length l)
length-put [] m = refl
length-put (n ∷ more) m =
    let rest = length-put more m in
    elim (nat_lt m.token.0 n.token.0) as (λ (b : Bool). length (cond b (m ∷ n ∷ more) (n ∷ put_message more m)) ≡ suc (suc (length more))) [ true ↦ refl | false ↦ ap suc rest ]

length-puts : (l messages : List Message) → length (put_messages l messages) ≡ length l + length messages
length-puts l [] = omega arith
length-puts l (m ∷ more) = omega (arith, length-puts (put_message l m) more, length-put l m)

length-values : (entries : Entries) → length (values_of entries) ≡ length entries
length-values [] = refl
length-values (e ∷ rest) = ap suc (length-values rest)

pub length-in_order : (entries : Entries) → length (in_order entries) ≡ length entries
length-in_order entries = omega (arith, length-puts [] (values_of entries), length-values entries)

pub count-in_order : (p : Message → Bool) (entries : Entries) → count_by p (in_order entries) ≡ count_by p (values_of entries)
count-in_order p entries = omega (arith, count-put_messages p [] (values_of entries))

-- ---- an entry more at the end of the table

pub in_order-push : (entries : Entries) (m : Message) → in_order (entries ++ (m.token, m) ∷ []) ≡ put_message (in_order entries) m
in_order-push entries m = ap (put_messages []) (values-append entries ((m.token, m) ∷ [])) ∙ fold_push put_message [] (values_of entries) m

pub in_order-keyed : (entries : Entries) (messages : List Message) → in_order (entries ++ keyed messages) ≡ put_messages (in_order entries) messages
in_order-keyed entries messages =
    ap (put_messages []) (values-append entries (keyed messages) ∙ ap (λ (l : List Message). values_of entries ++ l) (values-keyed messages)) ∙ fold-append put_message [] (values_of entries) messages

-- ---- what is found under a token

find-none : (t : Token) (l : List Message) → count_by (has_token t) l ≡ 0 → find (has_token t) l ≡ None
find-none t [] none = refl
find-none t (m ∷ more) none = by (has_token t m) refl (find-none t more)
  where
    all : count_by (has_token t) (m ∷ more) ≡ one_if (has_token t m) + count_by (has_token t) more
    all = sum_by-cons (λ x. one_if (has_token t x)) m more

    by : (b : Bool) → has_token t m ≡ b → (count_by (has_token t) more ≡ 0 → find (has_token t) more ≡ None) → find (has_token t) (m ∷ more) ≡ None
    by true here later = let one : one_if (has_token t m) ≡ 1 = ap one_if here in absurd (omega (arith, all))
    by false other later = rw other (later (omega (arith, all)))

find-put-other : (t : Token) (l : List Message) (m : Message) → has_token t m ≡ false → find (has_token t) (put_message l m) ≡ find (has_token t) l
find-put-other t [] m other = rw other refl
find-put-other t (n ∷ more) m other =
    let rest = find-put-other t more m other in
    elim (nat_lt m.token.0 n.token.0) as (λ (b : Bool). find (has_token t) (cond b (m ∷ n ∷ more) (n ∷ put_message more m)) ≡ find (has_token t) (n ∷ more)) [
      | true ↦ rw other refl
      | false ↦ ap (λ (o : Option Message). cond (has_token t n) (Some n) o) rest
    ]

find-put-own : (t : Token) (l : List Message) (m : Message) → has_token t m ≡ true → find (has_token t) l ≡ None → find (has_token t) (put_message l m) ≡ Some m
find-put-own t [] m own none = rw own refl
find-put-own t (n ∷ more) m own none = by (has_token t n) (nat_lt m.token.0 n.token.0) refl refl (find-put-own t more m own)
  where
    by : (b c : Bool) → has_token t n ≡ b → nat_lt m.token.0 n.token.0 ≡ c → (find (has_token t) more ≡ None → find (has_token t) (put_message more m) ≡ Some m)
        → find (has_token t) (cond c (m ∷ n ∷ more) (n ∷ put_message more m)) ≡ Some m
    by b true is lt later = rw own refl
    by true false is ge later = let met : Some n ≡ None = rw is at none in absurd cc
    by false false is ge later = rw is (later (rw is at none))

find-puts-some : (t : Token) (l messages : List Message) (x : Message) → find (has_token t) l ≡ Some x → count_by (has_token t) messages ≡ 0 → find (has_token t) (put_messages l messages) ≡ Some x
find-puts-some t l [] x there none = there
find-puts-some t l (m ∷ more) x there none = by (has_token t m) refl (find-puts-some t (put_message l m) more x)
  where
    all : count_by (has_token t) (m ∷ more) ≡ one_if (has_token t m) + count_by (has_token t) more
    all = sum_by-cons (λ y. one_if (has_token t y)) m more

    by : (b : Bool) → has_token t m ≡ b → (find (has_token t) (put_message l m) ≡ Some x → count_by (has_token t) more ≡ 0 → find (has_token t) (put_messages (put_message l m) more) ≡ Some x)
        → find (has_token t) (put_messages (put_message l m) more) ≡ Some x
    by true here later = let one : one_if (has_token t m) ≡ 1 = ap one_if here in absurd (omega (arith, all))
    by false other later = later (find-put-other t l m other ∙ there) (omega (arith, all))

find-puts : (t : Token) (l messages : List Message) → find (has_token t) l ≡ None → count_by (has_token t) messages ≤ 1 → find (has_token t) (put_messages l messages) ≡ find (has_token t) messages
find-puts t l [] none few = none
find-puts t l (m ∷ more) none few = by (has_token t m) refl (find-puts t (put_message l m) more)
  where
    all : count_by (has_token t) (m ∷ more) ≡ one_if (has_token t m) + count_by (has_token t) more
    all = sum_by-cons (λ y. one_if (has_token t y)) m more

    by : (b : Bool) → has_token t m ≡ b → (find (has_token t) (put_message l m) ≡ None → count_by (has_token t) more ≤ 1 → find (has_token t) (put_messages (put_message l m) more) ≡ find (has_token t) more)
        → find (has_token t) (put_messages (put_message l m) more) ≡ cond (has_token t m) (Some m) (find (has_token t) more)
    by true here later =
        let one : one_if (has_token t m) ≡ 1 = ap one_if here in
        rw here (find-puts-some t (put_message l m) more m (find-put-own t l m here none) (omega (arith, all)))
    by false other later = rw other (later (find-put-other t l m other ∙ none) (omega (arith, all)))

find-values : (t : Token) (entries : Entries) → All IsKept entries → find (has_token t) (values_of entries) ≡ lookup (same_token t) entries
find-values t [] kept = refl
find-values t (e ∷ rest) kept = by (has_token t e.1) refl (find-values t rest (All-tail IsKept e rest kept))
  where
    own : e.0 ≡ e.1.token
    own = (All-head IsKept e rest kept).0

    by : (b : Bool) → has_token t e.1 ≡ b → find (has_token t) (values_of rest) ≡ lookup (same_token t) rest → find (has_token t) (values_of (e ∷ rest)) ≡ lookup (same_token t) (e ∷ rest)
    by true here later =
        let key : same_token t e.0 ≡ true = eq-eqb t.0 e.0.0 (sym (eqb-true e.1.token.0 t.0 here) ∙ ap (λ (x : Token). x.0) (sym own)) in
        rw (here, key) refl
    by false other later =
        let key : same_token t e.0 ≡ false = ne_eqb t.0 e.0.0 (λ same. false≢true (sym other ∙ eq-eqb e.1.token.0 t.0 (ap (λ (x : Token). x.0) (sym own) ∙ sym same))) in
        rw (other, key) later

pub message_in-in_order : (t : Token) (entries : Entries) → All IsKept entries → ((u : Token) → count_by (has_token u) (values_of entries) ≤ 1) → message_in t (in_order entries) ≡ lookup (same_token t) entries
message_in-in_order t entries kept apart = find-puts t [] (values_of entries) refl (apart t) ∙ find-values t entries kept

-- what is found stands under its token
pub found-kept : (t : Token) (entries : Entries) (m : Message) → All IsKept entries → lookup (same_token t) entries ≡ Some m → (m.token.0 ≡ t.0) × (0 < t.0) × IsMessage m
found-kept t [] m kept is = absurd cc
found-kept t (e ∷ rest) m kept is = by (same_token t e.0) refl (found-kept t rest m (All-tail IsKept e rest kept))
  where
    by : (b : Bool) → same_token t e.0 ≡ b → (lookup (same_token t) rest ≡ Some m → (m.token.0 ≡ t.0) × (0 < t.0) × IsMessage m) → (m.token.0 ≡ t.0) × (0 < t.0) × IsMessage m
    by true here later =
        let own = All-head IsKept e rest kept in
        let met : Some e.1 ≡ Some m = rw here at is in
        let one : e.1 ≡ m = cc in
        let key = eqb-true t.0 e.0.0 here in
        let real = own.1 in
        (ap (λ (x : Message). x.token.0) (sym one) ∙ ap (λ (x : Token). x.0) (sym own.0) ∙ sym key, omega arith, subst IsMessage one own.2)
    by false other later = later (rw other at is)

pub holds-real : (t : Token) (entries : Entries) → All IsKept entries → is_some (lookup (same_token t) entries) ≡ true → 0 < t.0
holds-real t entries kept is = by (lookup (same_token t) entries) refl
  where
    by : (o : Option Message) → lookup (same_token t) entries ≡ o → 0 < t.0
    by None none = absurd (false≢true (ap is_some (sym none) ∙ is))
    by (Some m) there = (found-kept t entries m kept there).1

pub told-token : (t : Token) (entries : Entries) (o : Option (Bor Message)) → All IsKept entries → option_copied o ≡ lookup (same_token t) entries → IfSome o (λ _. 0 < t.0)
told-token t entries None kept is = tt
told-token t entries (Some m) kept is = (found-kept t entries m.now kept (sym is)).1

pub told-message : (t : Token) (entries : Entries) (o : Option (Bor Message)) → All IsKept entries → option_copied o ≡ lookup (same_token t) entries → IfSome o (λ m. IsMessage m.now)
told-message t entries None kept is = tt
told-message t entries (Some m) kept is = (found-kept t entries m.now kept (sym is)).2

pub any-found : (t : Token) (l : List Message) → list_any (has_token t) l ≡ is_some (find (has_token t) l)
any-found t [] = refl
any-found t (m ∷ more) = let rest = any-found t more in elim (has_token t m) as (λ (b : Bool). (b || list_any (has_token t) more) ≡ is_some (cond b (Some m) (find (has_token t) more))) [ true ↦ refl | false ↦ rest ]

-- ---- their tokens ascend

climbs-put : (low : ℕ) (l : List Message) (m : Message) → Climbs number low l → low < m.token.0 → count_by (has_token m.token) l ≡ 0 → Climbs number low (put_message l m)
climbs-put low [] m h above none = (above, tt)
climbs-put low (n ∷ more) m h above none = by (nat_lt m.token.0 n.token.0) refl (climbs-put n.token.0 more m h.1)
  where
    all : count_by (has_token m.token) (n ∷ more) ≡ one_if (has_token m.token n) + count_by (has_token m.token) more
    all = sum_by-cons (λ y. one_if (has_token m.token y)) n more

    other : n.token.0 ≡ m.token.0 → ⊥
    other same = let one : one_if (has_token m.token n) ≡ 1 = ap one_if (eq-eqb n.token.0 m.token.0 same) in omega (arith, all)

    by : (b : Bool) → nat_lt m.token.0 n.token.0 ≡ b → (n.token.0 < m.token.0 → count_by (has_token m.token) more ≡ 0 → Climbs number n.token.0 (put_message more m)) → Climbs number low (cond b (m ∷ n ∷ more) (n ∷ put_message more m))
    by true lt later = (above, (ltb-true m.token.0 n.token.0 lt, h.1))
    by false ge later = let le = ltb-false m.token.0 n.token.0 ge in (h.0, later (grind (arith, other)) (omega (arith, all)))

climbs-puts : (l messages : List Message) → Climbs number 0 l → All (λ (m : Message). 0 < m.token.0) messages → ((u : Token) → count_by (has_token u) l + count_by (has_token u) messages ≤ 1) → Climbs number 0 (put_messages l messages)
climbs-puts l [] h real apart = h
climbs-puts l (m ∷ more) h real apart =
    let own : one_if (has_token m.token m) ≡ 1 = ap one_if (eq-eqb m.token.0 m.token.0 refl) in
    let here = apart m.token in
    climbs-puts (put_message l m) more (climbs-put 0 l m h (All-head (λ (x : Message). 0 < x.token.0) m more real) (omega (arith, sum_by-cons (λ y. one_if (has_token m.token y)) m more))) (All-tail (λ (x : Message). 0 < x.token.0) m more real)
    (λ u. let all = apart u in omega (arith, count-put_message (has_token u) l m, sum_by-cons (λ y. one_if (has_token u y)) m more))

real-values : (entries : Entries) → All IsKept entries → All (λ (m : Message). 0 < m.token.0) (values_of entries)
real-values [] kept k d within = absurd (omega arith)
real-values (e ∷ rest) kept zero d within = let own = All-head IsKept e rest kept in let real = own.1 in let same : e.0.0 ≡ e.1.token.0 = ap (λ (x : Token). x.0) own.0 in omega arith
real-values (e ∷ rest) kept (suc k) d within = real-values rest (All-tail IsKept e rest kept) k d (omega arith)

pub climbs-in_order : (entries : Entries) → All IsKept entries → ((u : Token) → count_by (has_token u) (values_of entries) ≤ 1) → Climbs number 0 (in_order entries)
climbs-in_order entries kept apart = climbs-puts [] (values_of entries) tt (real-values entries kept) (λ u. let few = apart u in omega arith)

-- ---- an entry less

find-without-own : (t : Token) (l : List Message) → find (has_token t) (without_token t l) ≡ None
find-without-own t l = find-none t (without_token t l) (token-gone t l)

find-without-other : (t u : Token) (l : List Message) → (u.0 ≡ t.0 → ⊥) → find (has_token u) (without_token t l) ≡ find (has_token u) l
find-without-other t u [] apart = refl
find-without-other t u (m ∷ more) apart = by (has_token t m) (has_token u m) refl refl (find-without-other t u more apart)
  where
    by : (b c : Bool) → has_token t m ≡ b → has_token u m ≡ c → find (has_token u) (without_token t more) ≡ find (has_token u) more → find (has_token u) (without_token t (m ∷ more)) ≡ find (has_token u) (m ∷ more)
    by true true here own later = absurd (apart (sym (eqb-true m.token.0 u.0 own) ∙ eqb-true m.token.0 t.0 here))
    by true false here own later = rw (here, own) later
    by false c here own later = rw here (ap (λ (o : Option Message). cond (has_token u m) (Some m) o) later)

-- the table after a token is taken out, in whatever order, is the list without it
pub in_order-without : (t : Token) (entries after : Entries) → All IsKept entries → ((u : Token) → count_by (has_token u) (values_of entries) ≤ 1) → All IsKept after → ((u : Token) → count_by (has_token u) (values_of after) ≤ 1)
    → ((u : Token) → lookup (same_token u) after ≡ cond (same_token t u) None (lookup (same_token u) entries)) → in_order after ≡ without_token t (in_order entries)
in_order-without t entries after kept apart kept_after apart_after left =
    climbs-same number 0 (in_order after) (without_token t (in_order entries)) (climbs-in_order after kept_after apart_after) (climbs-filter number (λ m. not (has_token t m)) 0 (in_order entries) (climbs-in_order entries kept apart))
    (λ n. by (record { 0 = n }) (eqb t.0 n) refl)
  where
    by : (u : Token) (b : Bool) → eqb t.0 u.0 ≡ b → find (has_token u) (in_order after) ≡ find (has_token u) (without_token t (in_order entries))
    by u true same =
        let gone : lookup (same_token u) after ≡ None = left u ∙ ap (λ (c : Bool). cond c None (lookup (same_token u) entries)) same in
        let one : t.0 ≡ u.0 = eqb-true t.0 u.0 same in
        let token : t ≡ u = λ i. record { 0 = one i } in
        message_in-in_order u after kept_after apart_after ∙ gone ∙ subst (λ (x : Token). None ≡ find (has_token x) (without_token t (in_order entries))) token (sym (find-without-own t (in_order entries)))
    by u false other =
        let stays : lookup (same_token u) after ≡ lookup (same_token u) entries = left u ∙ ap (λ (c : Bool). cond c None (lookup (same_token u) entries)) other in
        message_in-in_order u after kept_after apart_after ∙ stays ∙ sym (message_in-in_order u entries kept apart)
        ∙ sym (find-without-other t u (in_order entries) (λ same. true≢false (sym (eq-eqb t.0 u.0 (sym same)) ∙ other)))

-- ---- what swapping an entry out keeps

values-sum : (f : Message → ℕ) (entries : Entries) → sum_by f (values_of entries) ≡ sum_by (λ e. f e.1) entries
values-sum f [] = refl
values-sum f (e ∷ rest) = omega (arith, values-sum f rest, sum_by-cons f e.1 (values_of rest), sum_by-cons (λ (x : Token × Message). f x.1) e rest)

pub kept-swapped : (t : Token) (entries : Entries) → All IsKept entries → All IsKept (swap_remove_entry (same_token t) entries)
kept-swapped t [] kept = kept
kept-swapped t (e ∷ rest) kept = by (position (same_token t) (keys_of (e ∷ rest)))
  where
    by : (o : Option ℕ) → All IsKept (option_map_or (λ i. swap_remove (e ∷ rest) i e) o (e ∷ rest))
    by None = kept
    by (Some i) = All-take IsKept (length (e ∷ rest) - 1) (set (e ∷ rest) i (get_or (e ∷ rest) (length (e ∷ rest) - 1) e)) (All-set IsKept (e ∷ rest) i (get_or (e ∷ rest) (length (e ∷ rest) - 1) e) (All-get_or IsKept (e ∷ rest) (length (e ∷ rest) - 1) e (omega arith) kept) kept)

pub apart-swapped : (t : Token) (entries : Entries) (u : Token) → count_by (has_token u) (values_of entries) ≤ 1 → count_by (has_token u) (values_of (swap_remove_entry (same_token t) entries)) ≤ 1
apart-swapped t [] u few = few
apart-swapped t (e ∷ rest) u few = by (position (same_token t) (keys_of (e ∷ rest))) refl
  where
    by : (o : Option ℕ) → position (same_token t) (keys_of (e ∷ rest)) ≡ o → count_by (has_token u) (values_of (option_map_or (λ i. swap_remove (e ∷ rest) i e) o (e ∷ rest))) ≤ 1
    by None is = few
    by (Some i) is =
        let within : i < length (keys_of (e ∷ rest)) = (position-Some (same_token t) (keys_of (e ∷ rest)) i t is).0 in
        omega (arith, length-keys_of (e ∷ rest), values-sum (λ m. one_if (has_token u m)) (e ∷ rest), values-sum (λ m. one_if (has_token u m)) (swap_remove (e ∷ rest) i e), sum_by-swap_remove (λ (x : Token × Message). one_if (has_token u x.1)) (e ∷ rest) i e (omega (arith, length-keys_of (e ∷ rest))))
