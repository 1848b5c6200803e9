-- At how many places tokens stand after each call, and who holds them.
use Rattle.std.proofs.Common.{◌≡◌, ℕ, ◌+◌, ◌<◌, ◌≤◌, Bool, true, false, cond, not, List, [], ◌∷◌, ◌++◌, length, map, take, drop, filter, Option, None}
use Rattle.std.proofs.Common.{Some, is_some, refl, sym, ap, ◌∙◌, eqb, arith}
use Rattle.std.proofs.lemmas.Bool.{true≢false, false≢true, eqb-true, ne_eqb, eq-eqb}
use Rattle.std.proofs.lemmas.List.Sums.{sum_by-cons, sum_by-append, sum_by-take-drop, count_by-le-length}
use Rattle.std.proofs.lemmas.List.Filters.{sum_by-filter_both}
use Rattle.std.specs.Prelude.{count_by, sum_by, nat_lt}
use Rattle.std.specs.List.{find, list_any}
use Rattle.std.specs.Option.{option_map}
use Rattle.std.specs.Map.{lookup, remove_entry}
use Rattle.hsm_types.specs.Messages.{has_token, takes, no_token, user_message}
use Rattle.hsm_types.specs.Sessions.{LiveSession, SessionTable, Ascend, same_sid, session_of, lives, outstanding_of, outstanding_or_none, taker}
use Rattle.hsm_types.specs.Sessions.{holds, owner, destruction_refusal, events_left, next_sid, heir, with_session, without_session, change_live}
use Rattle.hsm_types.specs.Sessions.{change_session, loses, queued, with_kinds, posted_to, posted, put_message, put_messages, with_tokens, hands_out}
use Rattle.hsm_types.specs.Sessions.{delivered, without_token, responded, user_event, sent, places_in, places}
use Rattle.hsm_types.specs.declared.keys.Sid.{Sid}
use Rattle.hsm_types.specs.declared.keys.Token.{Token}
use Rattle.hsm_types.specs.declared.dm.Kinds.{Kinds}
use Rattle.hsm_types.specs.declared.dm.DmRefusal.TheVariants.{EventsLeft}
use Rattle.hsm_types.specs.declared.messages.Message.{Message}

abbrev Live : Type 0
Live = List (Sid × LiveSession)

-- ---- counts over lists

-- one or none
abbrev one_if : Bool → ℕ
one_if b = cond b 1 0

module _ {X : Type 0} (p q : X → Bool) where
  -- a filter that keeps all that are counted
  pub count-filter_kept : ((x : X) → p x ≡ true → q x ≡ true) → (xs : List X) → count_by p (filter q xs) ≡ count_by p xs
  count-filter_kept keeps [] = refl
  count-filter_kept keeps (x ∷ xs) = by (p x) (q x) refl refl (count-filter_kept keeps xs)
    where
      by : (b c : Bool) → p x ≡ b → q x ≡ c → count_by p (filter q xs) ≡ count_by p xs → count_by p (cond c (x ∷ filter q xs) (filter q xs)) ≡ count_by p (x ∷ xs)
      by b true is passes rest = omega (arith, rest, sum_by-cons (λ y. one_if (p y)) x (filter q xs), sum_by-cons (λ y. one_if (p y)) x xs)
      by true false is passes rest = absurd (true≢false (sym (keeps x is) ∙ passes))
      by false false is passes rest = let none : one_if (p x) ≡ 0 = ap one_if is in omega (arith, none, rest, sum_by-cons (λ y. one_if (p y)) x xs)

  -- and one that keeps none of them
  pub count-filter_gone : ((x : X) → p x ≡ true → q x ≡ false) → (xs : List X) → count_by p (filter q xs) ≡ 0
  count-filter_gone drops [] = refl
  count-filter_gone drops (x ∷ xs) = by (p x) (q x) refl refl (count-filter_gone drops xs)
    where
      by : (b c : Bool) → p x ≡ b → q x ≡ c → count_by p (filter q xs) ≡ 0 → count_by p (cond c (x ∷ filter q xs) (filter q xs)) ≡ 0
      by b false is passes rest = rest
      by true true is passes rest = absurd (true≢false (sym passes ∙ drops x is))
      by false true is passes rest = let none : one_if (p x) ≡ 0 = ap one_if is in omega (arith, none, rest, sum_by-cons (λ y. one_if (p y)) x (filter q xs))

-- ---- messages in the order of their tokens

pub count-put_message : (p : Message → Bool) (l : List Message) (m : Message) → count_by p (put_message l m) ≡ count_by p l + cond (p m) 1 0
count-put_message p [] m = omega arith
count-put_message p (n ∷ more) m =
    let rest = count-put_message p more m in
    elim (nat_lt m.token.0 n.token.0) as (λ (b : Bool). count_by p (cond b (m ∷ n ∷ more) (n ∷ put_message more m)) ≡ count_by p (n ∷ more) + cond (p m) 1 0) [
      | true ↦ omega (arith, sum_by-cons (λ x. one_if (p x)) m (n ∷ more))
      | false ↦ omega (arith, rest, sum_by-cons (λ x. one_if (p x)) n (put_message more m), sum_by-cons (λ x. one_if (p x)) n more)
    ]

pub count-put_messages : (p : Message → Bool) (l messages : List Message) → count_by p (put_messages l messages) ≡ count_by p l + count_by p messages
count-put_messages p l [] = omega arith
count-put_messages p l (m ∷ more) = omega (arith, count-put_messages p (put_message l m) more, count-put_message p l m, sum_by-cons (λ x. one_if (p x)) m more)

-- ---- tokens in lists of messages

pub differs : (t u : Token) → (u.0 ≡ t.0 → ⊥) → (m : Message) → has_token u m ≡ true → has_token t m ≡ false
differs t u apart m is = ne_eqb m.token.0 t.0 (λ same. apart (sym (eqb-true m.token.0 u.0 is) ∙ same))

not-differs : (t u : Token) → (u.0 ≡ t.0 → ⊥) → (m : Message) → has_token u m ≡ true → not (has_token t m) ≡ true
not-differs t u apart m is = rw (differs t u apart m is) refl

-- other tokens stay
pub others-stay : (t u : Token) → (u.0 ≡ t.0 → ⊥) → (l : List Message) → count_by (has_token u) (without_token t l) ≡ count_by (has_token u) l
others-stay t u apart l = count-filter_kept (has_token u) (λ m. not (has_token t m)) (not-differs t u apart) l

-- and of the token itself none is left
pub token-gone : (t : Token) (l : List Message) → count_by (has_token t) (without_token t l) ≡ 0
token-gone t l = count-filter_gone (has_token t) (λ m. not (has_token t m)) (λ m is. rw is refl) l

pub split-filter : (u : Token) (q : Message → Bool) (l : List Message) → count_by (has_token u) (filter q l) + count_by (has_token u) (filter (λ m. not (q m)) l) ≡ count_by (has_token u) l
split-filter u q l = sum_by-filter_both q (λ m. not (q m)) (λ m. refl) (λ m. one_if (has_token u m)) l

pub split-take : (u : Token) (n : ℕ) (l : List Message) → count_by (has_token u) (take n l) + count_by (has_token u) (drop n l) ≡ count_by (has_token u) l
split-take u n l = sum_by-take-drop (λ m. one_if (has_token u m)) l n

pub count-push : (u : Token) (l : List Message) (m : Message) → count_by (has_token u) (l ++ m ∷ []) ≡ count_by (has_token u) l + cond (has_token u m) 1 0
count-push u l m = omega (arith, sum_by-append (λ x. one_if (has_token u x)) l (m ∷ []))

pub count-any : (t : Token) (l : List Message) → list_any (has_token t) l ≡ true → 1 ≤ count_by (has_token t) l
count-any t [] is = absurd (false≢true is)
count-any t (m ∷ more) is = by (has_token t m) refl (count-any t more)
  where
    by : (b : Bool) → has_token t m ≡ b → (list_any (has_token t) more ≡ true → 1 ≤ count_by (has_token t) more) → 1 ≤ count_by (has_token t) (m ∷ more)
    by true here later = let one : one_if (has_token t m) ≡ 1 = ap one_if here in omega (arith, one, sum_by-cons (λ x. one_if (has_token t x)) m more)
    by false other later = let rest = later (rw other at is) in omega (arith, rest, sum_by-cons (λ x. one_if (has_token t x)) m more)

-- ---- tables of sessions

module _ (g : LiveSession → ℕ) where
  -- one session is changed
  pub sum-change_live : (sid : Sid) (change : LiveSession → LiveSession) (live : Live) (s : LiveSession) → lookup (same_sid sid) live ≡ Some s
      → sum_by (λ e. g e.1) (change_live sid change live) + g s ≡ sum_by (λ e. g e.1) live + g (change s)
  sum-change_live sid change [] s is = absurd cc
  sum-change_live sid change (e ∷ rest) s is =
      elim (same_sid sid e.0) as (λ (b : Bool). cond b (Some e.1) (lookup (same_sid sid) rest) ≡ Some s
      → sum_by (λ x. g x.1) (cond b ((e.0, change e.1) ∷ rest) (e ∷ change_live sid change rest)) + g s ≡ sum_by (λ x. g x.1) (e ∷ rest) + g (change s)) [
        | true ↦ λ here.
            let same : e.1 ≡ s = cc in
            let one : g e.1 ≡ g s = ap g same in
            let other : g (change e.1) ≡ g (change s) = ap (λ x. g (change x)) same in
            omega (arith, one, other, sum_by-cons (λ x. g x.1) (e.0, change e.1) rest, sum_by-cons (λ x. g x.1) e rest)
        | false ↦ λ there. omega (arith, sum-change_live sid change rest s there, sum_by-cons (λ x. g x.1) e (change_live sid change rest), sum_by-cons (λ x. g x.1) e rest)
      ] is

  -- one session less
  pub sum-remove : (sid : Sid) (live : Live) (s : LiveSession) → lookup (same_sid sid) live ≡ Some s → sum_by (λ e. g e.1) (remove_entry (same_sid sid) live) + g s ≡ sum_by (λ e. g e.1) live
  sum-remove sid [] s is = absurd cc
  sum-remove sid (e ∷ rest) s is =
      elim (same_sid sid e.0) as (λ (b : Bool). cond b (Some e.1) (lookup (same_sid sid) rest) ≡ Some s
      → sum_by (λ x. g x.1) (cond b rest (e ∷ remove_entry (same_sid sid) rest)) + g s ≡ sum_by (λ x. g x.1) (e ∷ rest)) [
        | true ↦ λ here.
            let same : e.1 ≡ s = cc in
            let one : g e.1 ≡ g s = ap g same in
            omega (arith, one, sum_by-cons (λ x. g x.1) e rest)
        | false ↦ λ there. omega (arith, sum-remove sid rest s there, sum_by-cons (λ x. g x.1) e (remove_entry (same_sid sid) rest), sum_by-cons (λ x. g x.1) e rest)
      ] is

  -- all are changed, but not in what is counted
  pub sum-mapped : (h : LiveSession → LiveSession) → ((s : LiveSession) → g (h s) ≡ g s) → (live : Live) → sum_by (λ (e : Sid × LiveSession). g e.1) (map (λ (e : Sid × LiveSession). (e.0, h e.1)) live) ≡ sum_by (λ e. g e.1) live
  sum-mapped h same [] = refl
  sum-mapped h same (e ∷ rest) =
      omega (arith, same e.1, sum-mapped h same rest, sum_by-cons (λ (x : Sid × LiveSession). g x.1) (e.0, h e.1) (map (λ (x : Sid × LiveSession). (x.0, h x.1)) rest), sum_by-cons (λ x. g x.1) e rest)

-- a session that isn't there
pub change_live-absent : (sid : Sid) (change : LiveSession → LiveSession) (live : Live) → lookup (same_sid sid) live ≡ None → change_live sid change live ≡ live
change_live-absent sid change [] none = refl
change_live-absent sid change (e ∷ rest) none =
    elim (same_sid sid e.0) as (λ (b : Bool). cond b (Some e.1) (lookup (same_sid sid) rest) ≡ None → cond b ((e.0, change e.1) ∷ rest) (e ∷ change_live sid change rest) ≡ e ∷ rest) [
      | true ↦ λ here. absurd cc
      | false ↦ λ there. ap (λ (l : Live). e ∷ l) (change_live-absent sid change rest there)
    ] none

pub remove-absent : (sid : Sid) (live : Live) → lookup (same_sid sid) live ≡ None → remove_entry (same_sid sid) live ≡ live
remove-absent sid [] none = refl
remove-absent sid (e ∷ rest) none =
    elim (same_sid sid e.0) as (λ (b : Bool). cond b (Some e.1) (lookup (same_sid sid) rest) ≡ None → cond b rest (e ∷ remove_entry (same_sid sid) rest) ≡ e ∷ rest) [
      | true ↦ λ here. absurd cc
      | false ↦ λ there. ap (λ (l : Live). e ∷ l) (remove-absent sid rest there)
    ] none

pub lookup-mapped : (sid : Sid) (h : LiveSession → LiveSession) (live : Live) → lookup (same_sid sid) (map (λ (e : Sid × LiveSession). (e.0, h e.1)) live) ≡ option_map h (lookup (same_sid sid) live)
lookup-mapped sid h [] = refl
lookup-mapped sid h (e ∷ rest) =
    elim (same_sid sid e.0) as (λ (b : Bool). cond b (Some (h e.1)) (lookup (same_sid sid) (map (λ (x : Sid × LiveSession). (x.0, h x.1)) rest)) ≡ option_map h (cond b (Some e.1) (lookup (same_sid sid) rest))) [
      | true ↦ refl
      | false ↦ lookup-mapped sid h rest
    ]

-- the id of one that is found is that of a live one
pub found-lives : (p : Sid × LiveSession → Bool) (sid : Sid) (live : Live) → option_map (λ s. s.0) (find p live) ≡ Some sid → is_some (lookup (same_sid sid) live) ≡ true
found-lives p sid [] is = absurd cc
found-lives p sid (e ∷ rest) is =
    elim (p e) as (λ (b : Bool). option_map (λ s. s.0) (cond b (Some e) (find p rest)) ≡ Some sid → is_some (cond (same_sid sid e.0) (Some e.1) (lookup (same_sid sid) rest)) ≡ true) [
      | true ↦ λ here.
          let same : e.0 ≡ sid = cc in
          let own : same_sid sid e.0 ≡ true = eq-eqb sid.0 e.0.0 (ap (λ (x : Sid). x.0) (sym same)) in
          rw own refl
      | false ↦ λ there.
          let later = found-lives p sid rest there in
          elim (same_sid sid e.0) as (λ (c : Bool). is_some (cond c (Some e.1) (lookup (same_sid sid) rest)) ≡ true) [ true ↦ refl | false ↦ later ]
    ] is

live-some : (o : Option LiveSession) → is_some o ≡ true → (s : LiveSession) × (o ≡ Some s)
live-some None is = absurd (false≢true is)
live-some (Some s) is = (s, refl)

pub session-lives : (sid : Sid) (t : SessionTable) → lives sid t ≡ true → (s : LiveSession) × (session_of sid t ≡ Some s)
session-lives sid t is = live-some (session_of sid t) is

-- ---- places

-- one session has so many more, and it lives
pub change-more : (u : Token) (n : ℕ) (sid : Sid) (change : LiveSession → LiveSession) (t : SessionTable) → lives sid t ≡ true → ((s : LiveSession) → places_in u (change s) ≡ places_in u s + n)
    → places u (change_session sid change t) ≡ places u t + n
change-more u n sid change t is more =
    let s = session-lives sid t is in
    omega (arith, more s.0, sum-change_live (places_in u) sid change t.live s.0 s.1)

-- one session, if it lives, has as many
pub change-same : (u : Token) (sid : Sid) (change : LiveSession → LiveSession) (t : SessionTable) → ((s : LiveSession) → places_in u (change s) ≡ places_in u s) → places u (change_session sid change t) ≡ places u t
change-same u sid change t same = by (session_of sid t) refl
  where
    by : (o : Option LiveSession) → session_of sid t ≡ o → places u (change_session sid change t) ≡ places u t
    by None none = rw (change_live-absent sid change t.live none) refl
    by (Some s) there = omega (arith, same s, sum-change_live (places_in u) sid change t.live s there)

pub places-created : (u : Token) (old : Sid) (info : List ℕ) (t : SessionTable) → places u (with_session old info t) ≡ places u t
places-created u old info t = by (session_of old t) refl
  where
    at : (s : LiveSession) → sum_by (λ e. places_in u e.1) (remove_entry (same_sid old) t.live ++ (next_sid t, s) ∷ []) ≡ sum_by (λ e. places_in u e.1) (remove_entry (same_sid old) t.live) + places_in u s
    at s = omega (arith, sum_by-append (λ (e : Sid × LiveSession). places_in u e.1) (remove_entry (same_sid old) t.live) ((next_sid t, s) ∷ []))

    by : (o : Option LiveSession) → session_of old t ≡ o → places u (record t { given = t.given + 1; live = remove_entry (same_sid old) t.live ++ (next_sid t, heir info o) ∷ [] }) ≡ places u t
    by None none = let whole = at (heir info None) in let same : sum_by (λ e. places_in u e.1) (remove_entry (same_sid old) t.live) ≡ sum_by (λ e. places_in u e.1) t.live = ap (sum_by (λ (e : Sid × LiveSession). places_in u e.1)) (remove-absent old t.live none) in omega arith
    by (Some s) there = omega (arith, at (heir info (Some s)), sum-remove (places_in u) old t.live s there)

none-left : (n : ℕ) → events_left n ≡ None → n ≡ 0
none-left n is = by (eqb n 0) refl
  where
    by : (b : Bool) → eqb n 0 ≡ b → n ≡ 0
    by true e = eqb-true n 0 e
    by false e = let told : Some (EventsLeft n) ≡ None = rw e at is in absurd cc

pub places-destroyed : (u : Token) (sid : Sid) (t : SessionTable) → destruction_refusal sid t ≡ None → places u (without_session sid t) ≡ places u t
places-destroyed u sid t none = by (session_of sid t) refl
  where
    by : (o : Option LiveSession) → session_of sid t ≡ o → places u (without_session sid t) ≡ places u t
    by None absent = rw (remove-absent sid t.live absent) refl
    by (Some s) there =
        let empty : length s.queue + length s.outstanding ≡ 0 = none-left (length s.queue + length s.outstanding) (rw there at none) in
        omega (arith, sum-remove (places_in u) sid t.live s there, count_by-le-length (has_token u) s.queue, count_by-le-length (has_token u) s.outstanding)

pub places-disposed : (u : Token) (sid : Sid) (kinds : Kinds) (t : SessionTable) → lives sid t ≡ true → places u (with_kinds sid kinds t) ≡ places u t
places-disposed u sid kinds t is =
    let joined : List Message = filter (λ m. takes kinds m.kind) t.unrouted in
    let others : Live = map (λ (e : Sid × LiveSession). (e.0, loses kinds e.1)) t.live in
    let s = session-lives sid t is in
    let there : lookup (same_sid sid) others ≡ Some (loses kinds s.0) = lookup-mapped sid (loses kinds) t.live ∙ ap (option_map (loses kinds)) s.1 in
    omega (arith, sum-change_live (places_in u) sid (λ x. queued joined (record x { kinds = kinds })) others (loses kinds s.0) there, sum-mapped (places_in u) (loses kinds) (λ x. refl) t.live, split-filter u (λ m. takes kinds m.kind) t.unrouted, sum_by-append (λ m. one_if (has_token u m)) s.0.queue joined)

pub places-posted : (u : Token) (m : Message) (t : SessionTable) → places u (posted m t) ≡ places u t + cond (has_token u m) 1 0
places-posted u m t = by (taker m.kind t) refl
  where
    by : (o : Option Sid) → taker m.kind t ≡ o → places u (posted_to o m t) ≡ places u t + cond (has_token u m) 1 0
    by None none = omega (arith, count-push u t.unrouted m)
    by (Some sid) there = change-more u (one_if (has_token u m)) sid (queued (m ∷ [])) t (found-lives (λ s. takes s.1.kinds m.kind) sid t.live there) (λ s. omega (arith, count-push u s.queue m))

pub places-delivered : (u : Token) (sid : Sid) (count : ℕ) (t : SessionTable) → 0 < u.0 → places u (delivered sid count t) ≡ places u t
places-delivered u sid count t real = change-same u sid (hands_out count) t
    (λ s. omega (arith, split-take u count s.queue, count-put_messages (has_token u) s.outstanding (with_tokens (take count s.queue)), others-stay no_token u (λ zero. omega arith) (take count s.queue)))

-- another token stays where it is
pub places-responded-other : (u : Token) (sid : Sid) (token : Token) (t : SessionTable) → (u.0 ≡ token.0 → ⊥) → places u (responded sid token t) ≡ places u t
places-responded-other u sid token t apart = change-same u sid (λ s. record s { outstanding = without_token token s.outstanding }) t (λ s. omega (arith, others-stay token u apart s.outstanding))

-- and the token itself leaves the places that it had there
pub places-responded : (sid : Sid) (token : Token) (t : SessionTable) → places token (responded sid token t) + count_by (has_token token) (outstanding_of sid t) ≡ places token t
places-responded sid token t = by (session_of sid t) refl
  where
    by : (o : Option LiveSession) → session_of sid t ≡ o → places token (responded sid token t) + count_by (has_token token) (outstanding_or_none o) ≡ places token t
    by None none = rw (change_live-absent sid (λ s. record s { outstanding = without_token token s.outstanding }) t.live none) (omega arith)
    by (Some s) there = omega (arith, sum-change_live (places_in token) sid (λ x. record x { outstanding = without_token token x.outstanding }) t.live s there, token-gone token s.outstanding)

pub places-user_event : (u : Token) (sid : Sid) (token : Token) (body : List ℕ) (t : SessionTable) → lives sid t ≡ true → places u (user_event sid token body t) ≡ places u t + cond (has_token u (user_message token body)) 1 0
places-user_event u sid token body t is = change-more u (one_if (has_token u (user_message token body))) sid (λ s. record s { outstanding = put_message s.outstanding (user_message token body) }) t is (λ s. omega (arith, count-put_message (has_token u) s.outstanding (user_message token body)))

-- a message without a token stands for none
pub places-sent : (u : Token) (target : Sid) (body : List ℕ) (t : SessionTable) → 0 < u.0 → places u (sent target body t) ≡ places u t
places-sent u target body t real =
    let none : has_token u (user_message no_token body) ≡ false = ne_eqb 0 u.0 (λ same. omega arith) in
    let zero : one_if (has_token u (user_message no_token body)) ≡ 0 = ap one_if none in
    change-same u target (queued (user_message no_token body ∷ [])) t (λ s. omega (arith, zero, count-push u s.queue (user_message no_token body)))

-- ---- who holds a token

-- what one session has is among all
pub places-held : (u : Token) (sid : Sid) (t : SessionTable) (s : LiveSession) → session_of sid t ≡ Some s → places_in u s ≤ places u t
places-held u sid t s there = let all = sum-remove (places_in u) sid t.live s there in omega arith

holds-place : (token : Token) (s : LiveSession) → holds token s ≡ true → 1 ≤ places_in token s
holds-place token s is = let some = count-any token s.outstanding is in omega arith

owned : (token : Token) (sid : Sid) (s : LiveSession) (live : Live) → sum_by (λ e. places_in token e.1) live ≤ 1 → lookup (same_sid sid) live ≡ Some s → holds token s ≡ true
    → option_map (λ x. x.0) (find (λ x. holds token x.1) live) ≡ Some sid
owned token sid s [] once there is = absurd cc
owned token sid s (e ∷ rest) once there is = by (same_sid sid e.0) (holds token e.1) refl refl (λ fewer there. owned token sid s rest fewer there is)
  where
    all : sum_by (λ x. places_in token x.1) (e ∷ rest) ≡ places_in token e.1 + sum_by (λ x. places_in token x.1) rest
    all = sum_by-cons (λ (x : Sid × LiveSession). places_in token x.1) e rest

    by : (b c : Bool) → same_sid sid e.0 ≡ b → holds token e.1 ≡ c
        → (sum_by (λ x. places_in token x.1) rest ≤ 1 → lookup (same_sid sid) rest ≡ Some s → option_map (λ x. x.0) (find (λ x. holds token x.1) rest) ≡ Some sid)
        → option_map (λ x. x.0) (cond c (Some e) (find (λ x. holds token x.1) rest)) ≡ Some sid
    by true true own has later = let same : e.0.0 ≡ sid.0 = sym (eqb-true sid.0 e.0.0 own) in λ i. Some (record { 0 = same i })
    by true false own has later =
        let mine : Some e.1 ≡ Some s = rw own at there in
        let one : e.1 ≡ s = cc in
        absurd (false≢true (sym has ∙ ap (holds token) one ∙ is))
    by false true own has more =
        let later : lookup (same_sid sid) rest ≡ Some s = rw own at there in
        absurd (omega (arith, all, holds-place token e.1 has, holds-place token s is, sum-remove (places_in token) sid rest s later))
    by false false own has later = later (omega (arith, all)) (rw own at there)

-- a session that holds a token that stands at one place only is its owner
pub owner-own : (token : Token) (sid : Sid) (s : LiveSession) (t : SessionTable) → places token t ≤ 1 → session_of sid t ≡ Some s → holds token s ≡ true → owner token t ≡ Some sid
owner-own token sid s t once there is = owned token sid s t.live (omega arith) there is

-- a session that is there has an id above the least
pub lookup-above : (sid : Sid) (low high : ℕ) (live : Live) → Ascend low high live → is_some (lookup (same_sid sid) live) ≡ true → low < sid.0
lookup-above sid low high [] h is = absurd (false≢true is)
lookup-above sid low high (e ∷ rest) h is = by (same_sid sid e.0) refl (lookup-above sid e.0.0 high rest h.2)
  where
    by : (b : Bool) → same_sid sid e.0 ≡ b → (is_some (lookup (same_sid sid) rest) ≡ true → e.0.0 < sid.0) → low < sid.0
    by true own later = let same = eqb-true sid.0 e.0.0 own in let above = h.0 in omega arith
    by false other later = let below = later (rw other at is) in let above = h.0 in omega arith

owner-in : (token : Token) (sid : Sid) (low high : ℕ) (live : Live) → Ascend low high live → option_map (λ x. x.0) (find (λ x. holds token x.1) live) ≡ Some sid
    → (s : LiveSession) × (lookup (same_sid sid) live ≡ Some s) × (holds token s ≡ true)
owner-in token sid low high [] h is = absurd cc
owner-in token sid low high (e ∷ rest) h is = by (holds token e.1) refl (owner-in token sid e.0.0 high rest h.2)
  where
    by : (c : Bool) → holds token e.1 ≡ c
        → (option_map (λ x. x.0) (find (λ x. holds token x.1) rest) ≡ Some sid → (s : LiveSession) × (lookup (same_sid sid) rest ≡ Some s) × (holds token s ≡ true))
        → (s : LiveSession) × (lookup (same_sid sid) (e ∷ rest) ≡ Some s) × (holds token s ≡ true)
    by true has later =
        let mine : Some e.0 ≡ Some sid = rw has at is in
        let same : e.0 ≡ sid = cc in
        let own : same_sid sid e.0 ≡ true = eq-eqb sid.0 e.0.0 (ap (λ (x : Sid). x.0) (sym same)) in
        (e.1, rw own refl, has)
    by false has more =
        let later = more (rw has at is) in
        let above = lookup-above sid e.0.0 high rest h.2 (ap is_some later.1) in
        let other : same_sid sid e.0 ≡ false = ne_eqb sid.0 e.0.0 (λ same. omega arith) in
        (later.0, rw other later.1, later.2)

-- where ids ascend, an owner lives and holds the token
pub owner-holds : (token : Token) (sid : Sid) (low high : ℕ) (t : SessionTable) → Ascend low high t.live → owner token t ≡ Some sid → (s : LiveSession) × (session_of sid t ≡ Some s) × (holds token s ≡ true)
owner-holds token sid low high t h is = owner-in token sid low high t.live h is

-- a response to a token that stands at one place only leaves none
pub places-answered : (sid : Sid) (token : Token) (low high : ℕ) (t : SessionTable) → Ascend low high t.live → places token t ≤ 1 → owner token t ≡ Some sid → places token (responded sid token t) ≡ 0
places-answered sid token low high t h once is =
    let own = owner-holds token sid low high t h is in
    let some : 1 ≤ count_by (has_token token) (outstanding_of sid t) = rw own.1 (count-any token own.0.outstanding own.2) in
    omega (arith, places-responded sid token t)
