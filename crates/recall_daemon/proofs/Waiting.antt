-- Fewer events wait where one is put off or forgotten, and fewer segments are away where one is back.
use Rattle.std.proofs.Common.{◌≡◌, ℕ, zero, suc, ◌<◌, ◌≤◌, Bool, true, false, not, cond, List, [], ◌∷◌, length, filter, slice_index_or, Contains}
use Rattle.std.proofs.Common.{if◌then◌else◌, ◌==◌, refl, ap, ◌∙◌, arith, eq-eqb}
use Rattle.hsm_types.specs.declared.keys.Token.{Token}
use Rattle.daemon_session.specs.declared.events.Event.{Event}
use Rattle.daemon_session.specs.declared.events.Kept.{Kept}
use Rattle.daemon_session.specs.Seats.{has_kept_token, forgot, marked_at}
use Rattle.recall_daemon.specs.declared.away.Away.{Away}
use Rattle.recall_daemon.specs.Bounds.{waiting, IsWaiting}

abbrev kept_as : Event → Bool → Kept
kept_as e m = record { event = e; marked = m }

abbrev put : Bool → Event → Bool → Kept
put b e m = if b then kept_as e true else kept_as e m

-- ---- put off

put_le : (b m : Bool) (e : Event) (xs ys : List Kept) → length (waiting xs) ≤ length (waiting ys) → length (waiting (put b e m ∷ xs)) ≤ length (waiting (kept_as e m ∷ ys))
put_le true true e xs ys le = le
put_le true false e xs ys le = omega (arith, le)
put_le false true e xs ys le = le
put_le false false e xs ys le = omega (arith, le)

put_less : (b m : Bool) (e : Event) (xs ys : List Kept) → length (waiting xs) < length (waiting ys) → length (waiting (put b e m ∷ xs)) < length (waiting (kept_as e m ∷ ys))
put_less true true e xs ys lt = lt
put_less true false e xs ys lt = omega (arith, lt)
put_less false true e xs ys lt = lt
put_less false false e xs ys lt = omega (arith, lt)

put_here : (b m : Bool) (e : Event) (xs ys : List Kept) → b ≡ true → m ≡ false → length (waiting xs) ≤ length (waiting ys) → length (waiting (put b e m ∷ xs)) < length (waiting (kept_as e m ∷ ys))
put_here true false e xs ys b m le = omega (arith, le)
put_here true true e xs ys b m le = cc
put_here false m e xs ys b n le = cc

marked_le : (t : Token) (kept : List Kept) → length (waiting (marked_at t kept)) ≤ length (waiting kept)
marked_le t [] = omega arith
marked_le t (k ∷ ks) = put_le (has_kept_token t k) k.marked k.event (marked_at t ks) ks (marked_le t ks)

marked_less : (t : Token) (kept : List Kept) (i : ℕ) (k : Kept) → i < length kept → slice_index_or kept i k ≡ k → k.marked ≡ false → has_kept_token t k ≡ true → length (waiting (marked_at t kept)) < length (waiting kept)
marked_less t [] i k within is waits has = absurd (omega (arith, within))
marked_less t (x ∷ xs) zero k within is waits has = put_here (has_kept_token t x) x.marked x.event (marked_at t xs) xs (ap (has_kept_token t) is ∙ has) (ap (λ (o : Kept). o.marked) is ∙ waits) (marked_le t xs)
marked_less t (x ∷ xs) (suc i) k within is waits has = put_less (has_kept_token t x) x.marked x.event (marked_at t xs) xs (marked_less t xs i k (omega (arith, within)) is waits has)

-- ---- forgotten

drop_le : (b m : Bool) (e : Event) (xs ys : List Kept) → length (waiting xs) ≤ length (waiting ys) → length (waiting (cond (not b) (kept_as e m ∷ xs) xs)) ≤ length (waiting (kept_as e m ∷ ys))
drop_le true true e xs ys le = le
drop_le true false e xs ys le = omega (arith, le)
drop_le false true e xs ys le = le
drop_le false false e xs ys le = omega (arith, le)

drop_less : (b m : Bool) (e : Event) (xs ys : List Kept) → length (waiting xs) < length (waiting ys) → length (waiting (cond (not b) (kept_as e m ∷ xs) xs)) < length (waiting (kept_as e m ∷ ys))
drop_less true true e xs ys lt = lt
drop_less true false e xs ys lt = omega (arith, lt)
drop_less false true e xs ys lt = lt
drop_less false false e xs ys lt = omega (arith, lt)

drop_here : (b m : Bool) (e : Event) (xs ys : List Kept) → b ≡ true → m ≡ false → length (waiting xs) ≤ length (waiting ys) → length (waiting (cond (not b) (kept_as e m ∷ xs) xs)) < length (waiting (kept_as e m ∷ ys))
drop_here true false e xs ys b m le = omega (arith, le)
drop_here true true e xs ys b m le = cc
drop_here false m e xs ys b n le = cc

forgot_le : (t : Token) (kept : List Kept) → length (waiting (forgot t kept)) ≤ length (waiting kept)
forgot_le t [] = omega arith
forgot_le t (k ∷ ks) = drop_le (has_kept_token t k) k.marked k.event (forgot t ks) ks (forgot_le t ks)

forgot_less : (t : Token) (kept : List Kept) (i : ℕ) (k : Kept) → i < length kept → slice_index_or kept i k ≡ k → k.marked ≡ false → has_kept_token t k ≡ true → length (waiting (forgot t kept)) < length (waiting kept)
forgot_less t [] i k within is waits has = absurd (omega (arith, within))
forgot_less t (x ∷ xs) zero k within is waits has = drop_here (has_kept_token t x) x.marked x.event (forgot t xs) xs (ap (has_kept_token t) is ∙ has) (ap (λ (o : Kept). o.marked) is ∙ waits) (forgot_le t xs)
forgot_less t (x ∷ xs) (suc i) k within is waits has = drop_less (has_kept_token t x) x.marked x.event (forgot t xs) xs (forgot_less t xs i k (omega (arith, within)) is waits has)

-- ---- of an event that waits

has_its_token : (t : Token) (e : Event) → e.token ≡ t → has_kept_token t (kept_as e false) ≡ true
has_its_token t e is = eq-eqb e.token.0 t.0 (ap (λ (o : Token). o.0) is)

pub put_off_waits_less : (t : Token) (kept : List Kept) → IsWaiting t kept → length (waiting (marked_at t kept)) < length (waiting kept)
put_off_waits_less t kept waits = let at = waits.1 in marked_less t kept at.0 (kept_as waits.0 false) at.1 at.2 refl (has_its_token t waits.0 waits.2)

pub forgot_waits_less : (t : Token) (kept : List Kept) → IsWaiting t kept → length (waiting (forgot t kept)) < length (waiting kept)
forgot_waits_less t kept waits = let at = waits.1 in forgot_less t kept at.0 (kept_as waits.0 false) at.1 at.2 refl (has_its_token t waits.0 waits.2)

-- ---- of segments

one_le : {X : Type 0} (b : Bool) (x : X) (xs ys : List X) → length xs ≤ length ys → length (cond b (x ∷ xs) xs) ≤ length (x ∷ ys)
one_le true x xs ys le = omega (arith, le)
one_le false x xs ys le = omega (arith, le)

one_less : {X : Type 0} (b : Bool) (x : X) (xs ys : List X) → length xs < length ys → length (cond b (x ∷ xs) xs) < length (x ∷ ys)
one_less true x xs ys lt = omega (arith, lt)
one_less false x xs ys lt = omega (arith, lt)

one_here : {X : Type 0} (b : Bool) (x : X) (xs ys : List X) → b ≡ false → length xs ≤ length ys → length (cond b (x ∷ xs) xs) < length (x ∷ ys)
one_here true x xs ys is le = cc
one_here false x xs ys is le = omega (arith, le)

filter_le : {X : Type 0} (p : X → Bool) (xs : List X) → length (filter p xs) ≤ length xs
filter_le p [] = omega arith
filter_le p (x ∷ xs) = one_le (p x) x (filter p xs) xs (filter_le p xs)

filter_less : {X : Type 0} (p : X → Bool) (xs : List X) (i : ℕ) (x : X) → i < length xs → slice_index_or xs i x ≡ x → p x ≡ false → length (filter p xs) < length xs
filter_less p [] i x within is out = absurd (omega (arith, within))
filter_less p (y ∷ ys) zero x within is out = one_here (p y) y (filter p ys) ys (ap p is ∙ out) (filter_le p ys)
filter_less p (y ∷ ys) (suc i) x within is out = one_less (p y) y (filter p ys) ys (filter_less p ys i x (omega (arith, within)) is out)

abbrev pub not_of : ℕ → Away → Bool
not_of j a = not (a.segment == j)

pub back_less : (j : ℕ) (away : List Away) (a : Away) → Contains away a → a.segment ≡ j → length (filter (not_of j) away) < length away
back_less j away a at is = filter_less (not_of j) away at.0 a at.1 at.2 (ap not (eq-eqb a.segment j is))
