-- What is outstanding to a session after each call, and what an owner's token stands for.
use Rattle.std.proofs.Common.{◌≡◌, ℕ, zero, suc, ◌+◌, ◌-◌, ◌<◌, ◌≤◌, Bool, true, false, cond, not, List, [], ◌∷◌, ◌++◌, length, map, take, filter}
use Rattle.std.proofs.Common.{Option, None, Some, refl, sym, ap, subst, ◌∙◌, eqb, arith}
use Rattle.std.proofs.lemmas.Bool.{false≢true, eqb-true, eqb-false, ne_eqb, eq-eqb}
use Rattle.std.proofs.lemmas.List.Elements.{All-nil, All-cons, All-head, All-tail, All-weaker, All-filter, filter_passes}
use Rattle.std.proofs.lemmas.List.Sums.{sum_by-cons}
use Rattle.std.specs.Prelude.{◌||◌, count_by, nat_le}
use Rattle.std.specs.List.{All, find, list_any}
use Rattle.std.specs.Map.{lookup, remove_entry}
use Rattle.std.specs.Option.{option_map}
use Rattle.hsm_types.specs.Messages.{message_bytes, has_token, no_token, takes, user_message, fitting, handed_out}
use Rattle.hsm_types.specs.Sessions.{LiveSession, SessionTable, Ascend, same_sid, session_of, outstanding_or_none, outstanding_of, queue_or_none}
use Rattle.hsm_types.specs.Sessions.{queue_of, taker, holds, owner, message_in, outstanding_message, heir, next_sid, with_session, without_session}
use Rattle.hsm_types.specs.Sessions.{change_live, change_session, loses, queued, with_kinds, posted_to, posted, put_message, with_tokens, hands_out}
use Rattle.hsm_types.specs.Sessions.{delivered, without_token, responded, user_event, sent, places}
use Rattle.hsm_types.specs.declared.dm.Kinds.{Kinds}
use Rattle.hsm_types.specs.declared.keys.Sid.{Sid}
use Rattle.hsm_types.specs.declared.keys.Token.{Token}
use Rattle.hsm_types.specs.declared.messages.Message.{Message}
use Rattle.hsm_types.proofs.AscendingIds.{ascend-removed}
use Rattle.hsm_types.proofs.Queues.{found-lives, lookup-above, lookup-mapped, places-held, owner-own}
use Rattle.marked_history.proofs.Carrying.{put_each, puts_each}

abbrev Live : Type 0
Live = List (Sid × LiveSession)

abbrev one_if : Bool → ℕ
one_if b = cond b 1 0

abbrev out_of : Option LiveSession → List Message
out_of found = outstanding_or_none found

-- two facts of each element
pub zip_each : {X : Type 0} (P Q R : X → Type 0) → ((x : X) → P x → Q x → R x) → (l : List X) → All P l → All Q l → All R l
zip_each P Q R both [] p q = All-nil R
zip_each P Q R both (x ∷ l) p q = All-cons R x l (both x (All-head P x l p) (All-head Q x l q)) (zip_each P Q R both l (All-tail P x l p) (All-tail Q x l q))

-- ---- one session is changed

module _ (change : LiveSession → LiveSession) where
  pub changed_other : (sid x : Sid) → (sid.0 ≡ x.0 → ⊥) → (live : Live) → lookup (same_sid sid) (change_live x change live) ≡ lookup (same_sid sid) live
  changed_other sid x apart [] = refl
  changed_other sid x apart (e ∷ rest) = by (same_sid x e.0) (same_sid sid e.0) refl refl (changed_other sid x apart rest)
    where
      by : (b c : Bool) → same_sid x e.0 ≡ b → same_sid sid e.0 ≡ c → lookup (same_sid sid) (change_live x change rest) ≡ lookup (same_sid sid) rest
          → lookup (same_sid sid) (cond b ((e.0, change e.1) ∷ rest) (e ∷ change_live x change rest)) ≡ cond c (Some e.1) (lookup (same_sid sid) rest)
      by true true own mine later = absurd (apart (eqb-true sid.0 e.0.0 mine ∙ sym (eqb-true x.0 e.0.0 own)))
      by true false own mine later = rw mine refl
      by false true own mine later = rw mine refl
      by false false own mine later = rw mine later

  pub changed_own : (sid : Sid) (live : Live) → lookup (same_sid sid) (change_live sid change live) ≡ option_map change (lookup (same_sid sid) live)
  changed_own sid [] = refl
  changed_own sid (e ∷ rest) = by (same_sid sid e.0) refl (changed_own sid rest)
    where
      by : (b : Bool) → same_sid sid e.0 ≡ b → lookup (same_sid sid) (change_live sid change rest) ≡ option_map change (lookup (same_sid sid) rest)
          → lookup (same_sid sid) (cond b ((e.0, change e.1) ∷ rest) (e ∷ change_live sid change rest)) ≡ option_map change (cond b (Some e.1) (lookup (same_sid sid) rest))
      by true mine later = rw mine refl
      by false mine later = rw mine later

  -- but not in what is outstanding to it
  kept_out : ((s : LiveSession) → (change s).outstanding ≡ s.outstanding) → (sid x : Sid) (live : Live) → out_of (lookup (same_sid sid) (change_live x change live)) ≡ out_of (lookup (same_sid sid) live)
  kept_out same sid x [] = refl
  kept_out same sid x (e ∷ rest) = elim (same_sid x e.0) as (λ (b : Bool). out_of (lookup (same_sid sid) (cond b ((e.0, change e.1) ∷ rest) (e ∷ change_live x change rest))) ≡ out_of (lookup (same_sid sid) (e ∷ rest))) [
    | true ↦ elim (same_sid sid e.0) as (λ (c : Bool). out_of (cond c (Some (change e.1)) (lookup (same_sid sid) rest)) ≡ out_of (cond c (Some e.1) (lookup (same_sid sid) rest))) [ true ↦ same e.1 | false ↦ refl ]
    | false ↦ elim (same_sid sid e.0) as (λ (c : Bool). out_of (cond c (Some e.1) (lookup (same_sid sid) (change_live x change rest))) ≡ out_of (cond c (Some e.1) (lookup (same_sid sid) rest))) [ true ↦ refl | false ↦ kept_out same sid x rest ]
  ]

  changed_each : (P : Message → Type 0) (sid x : Sid) (live : Live) → (sid ≡ x → All P (out_of (option_map change (lookup (same_sid sid) live)))) → All P (out_of (lookup (same_sid sid) live)) → All P (out_of (lookup (same_sid sid) (change_live x change live)))
  changed_each P sid x live own each = by (same_sid sid x) refl
    where
      by : (b : Bool) → same_sid sid x ≡ b → All P (out_of (lookup (same_sid sid) (change_live x change live)))
      by true is =
          let same : sid ≡ x = λ i. record { 0 = eqb-true sid.0 x.0 is i } in
          subst (λ (y : Sid). All P (out_of (lookup (same_sid sid) (change_live y change live)))) same (subst (λ (o : Option LiveSession). All P (out_of o)) (sym (changed_own sid live)) (own same))
      by false is = subst (λ (o : Option LiveSession). All P (out_of o)) (sym (changed_other sid x (eqb-false sid.0 x.0 is) live)) each

-- ---- ids ascend

pub below : (sid : Sid) (low high : ℕ) (live : Live) → Ascend low high live → sid.0 ≤ low → lookup (same_sid sid) live ≡ None
below sid low high [] h le = refl
below sid low high (e ∷ rest) h le =
    let above = h.0 in
    let other : same_sid sid e.0 ≡ false = ne_eqb sid.0 e.0.0 (λ same. omega arith) in
    rw other (below sid e.0.0 high rest h.2 (omega arith))

pub above : (sid : Sid) (low high : ℕ) (live : Live) → Ascend low high live → high < sid.0 → lookup (same_sid sid) live ≡ None
above sid low high [] h lt = refl
above sid low high (e ∷ rest) h lt =
    let within = h.1 in
    let other : same_sid sid e.0 ≡ false = ne_eqb sid.0 e.0.0 (λ same. omega arith) in
    rw other (above sid e.0.0 high rest h.2 lt)

module _ (P : Message → Type 0) where
  -- a session less
  removed_out : (sid old : Sid) (low high : ℕ) (live : Live) → Ascend low high live → All P (out_of (lookup (same_sid sid) live)) → All P (out_of (lookup (same_sid sid) (remove_entry (same_sid old) live)))
  removed_out sid old low high [] h each = each
  removed_out sid old low high (e ∷ rest) h each = by (same_sid old e.0) (same_sid sid e.0) refl refl each (removed_out sid old e.0.0 high rest h.2)
    where
      by : (b c : Bool) → same_sid old e.0 ≡ b → same_sid sid e.0 ≡ c → All P (out_of (cond c (Some e.1) (lookup (same_sid sid) rest)))
          → (All P (out_of (lookup (same_sid sid) rest)) → All P (out_of (lookup (same_sid sid) (remove_entry (same_sid old) rest))))
          → All P (out_of (lookup (same_sid sid) (cond b rest (e ∷ remove_entry (same_sid old) rest))))
      by true true own mine each later =
          let same = eqb-true sid.0 e.0.0 mine in
          let none : lookup (same_sid sid) rest ≡ None = below sid e.0.0 high rest h.2 (omega arith) in
          rw none (All-nil P)
      by true false own mine each later = each
      by false true own mine each later = rw mine each
      by false false own mine each later = rw mine (later each)

pub pushed_other : (sid next : Sid) (s : LiveSession) (live : Live) → (sid.0 ≡ next.0 → ⊥) → lookup (same_sid sid) (live ++ (next, s) ∷ []) ≡ lookup (same_sid sid) live
pushed_other sid next s [] apart = let other : same_sid sid next ≡ false = ne_eqb sid.0 next.0 apart in rw other refl
pushed_other sid next s (e ∷ rest) apart =
    let later = pushed_other sid next s rest apart in
    elim (same_sid sid e.0) as (λ (c : Bool). cond c (Some e.1) (lookup (same_sid sid) (rest ++ (next, s) ∷ [])) ≡ cond c (Some e.1) (lookup (same_sid sid) rest)) [ true ↦ refl | false ↦ later ]

pub pushed_own : (next : Sid) (s : LiveSession) (live : Live) → lookup (same_sid next) live ≡ None → lookup (same_sid next) (live ++ (next, s) ∷ []) ≡ Some s
pushed_own next s [] none = let own : same_sid next next ≡ true = eq-eqb next.0 next.0 refl in rw own refl
pushed_own next s (e ∷ rest) none = elim (same_sid next e.0) as (λ (c : Bool). cond c (Some e.1) (lookup (same_sid next) rest) ≡ None → cond c (Some e.1) (lookup (same_sid next) (rest ++ (next, s) ∷ [])) ≡ Some s) [
  | true ↦ λ is. absurd cc
  | false ↦ λ is. pushed_own next s rest is
] none

-- ---- what calls leave

module _ (P : Message → Type 0) (sid : Sid) (t : SessionTable) (each : All P (outstanding_of sid t)) where
  pub created_out : (old : Sid) (info : List ℕ) → Ascend 0 t.given t.live → sid.0 ≤ t.given → All P (outstanding_of sid (with_session old info t))
  created_out old info ascend within =
      subst (λ (o : Option LiveSession). All P (out_of o)) (sym (pushed_other sid (next_sid t) (heir info (session_of old t)) (remove_entry (same_sid old) t.live) (λ same. omega arith)))
      (removed_out P sid old 0 t.given t.live ascend each)

  pub ended_out : (x : Sid) → Ascend 0 t.given t.live → All P (outstanding_of sid (without_session x t))
  ended_out x ascend = removed_out P sid x 0 t.given t.live ascend each

  less_out : (kinds : Kinds) (found : Option LiveSession) → out_of (option_map (loses kinds) found) ≡ out_of found
  less_out kinds None = refl
  less_out kinds (Some s) = refl

  pub disposed_out : (x : Sid) (kinds : Kinds) → All P (outstanding_of sid (with_kinds x kinds t))
  disposed_out x kinds =
      let joined : List Message = filter (λ (m : Message). takes kinds m.kind) t.unrouted in
      let others : Live = map (λ (s : Sid × LiveSession). (s.0, loses kinds s.1)) t.live in
      let same = kept_out (λ s. queued joined (record s { kinds = kinds })) (λ s. refl) sid x others in
      let lost : out_of (lookup (same_sid sid) others) ≡ outstanding_of sid t = ap (λ (o : Option LiveSession). out_of o) (lookup-mapped sid (loses kinds) t.live) ∙ less_out kinds (session_of sid t) in
      subst (λ (l : List Message). All P l) (sym (same ∙ lost)) each

  pub queued_out : (x : Sid) (messages : List Message) → All P (outstanding_of sid (change_session x (queued messages) t))
  queued_out x messages = subst (λ (l : List Message). All P l) (sym (kept_out (queued messages) (λ s. refl) sid x t.live)) each

  to_out : (found : Option Sid) (m : Message) → All P (outstanding_of sid (posted_to found m t))
  to_out None m = each
  to_out (Some x) m = queued_out x (m ∷ [])

  pub posted_out : (m : Message) → All P (outstanding_of sid (posted m t))
  posted_out m = to_out (taker m.kind t) m

  pub sent_out : (target : Sid) (body : List ℕ) → All P (outstanding_of sid (sent target body t))
  sent_out target body = queued_out target (user_message no_token body ∷ [])

  handed_over : (count : ℕ) (found : Option LiveSession) → All P (take count (queue_or_none found)) → All P (out_of found) → All P (out_of (option_map (hands_out count) found))
  handed_over count None are has = All-nil P
  handed_over count (Some s) are has = puts_each P s.outstanding (with_tokens (take count s.queue)) has (All-filter (λ m. not (has_token no_token m)) P (take count s.queue) are)

  pub delivered_out : (x : Sid) (count : ℕ) → (sid ≡ x → All P (take count (queue_of sid t))) → All P (outstanding_of sid (delivered x count t))
  delivered_out x count are = changed_each (hands_out count) P sid x t.live (λ own. handed_over count (session_of sid t) (are own) each) each

  answered : (token : Token) (found : Option LiveSession) → All P (out_of found) → All P (out_of (option_map (λ (s : LiveSession). record s { outstanding = without_token token s.outstanding }) found))
  answered token None has = All-nil P
  answered token (Some s) has = All-filter (λ m. not (has_token token m)) P s.outstanding has

  pub responded_out : (x : Sid) (token : Token) → All P (outstanding_of sid (responded x token t))
  responded_out x token = changed_each (λ s. record s { outstanding = without_token token s.outstanding }) P sid x t.live (λ own. answered token (session_of sid t) each) each

  more : (m : Message) → P m → (found : Option LiveSession) → All P (out_of found) → All P (out_of (option_map (λ (s : LiveSession). record s { outstanding = put_message s.outstanding m }) found))
  more m is None has = All-nil P
  more m is (Some s) has = put_each P s.outstanding m has is

  pub user_out : (x : Sid) (token : Token) (body : List ℕ) → P (user_message token body) → All P (outstanding_of sid (user_event x token body t))
  user_out x token body is =
      changed_each (λ s. record s { outstanding = put_message s.outstanding (user_message token body) }) P sid x t.live (λ own. more (user_message token body) is (session_of sid t) each) each

-- a session beside the others has nothing
pub created_empty : (old : Sid) (info : List ℕ) (t : SessionTable) → Ascend 0 t.given t.live → old.0 ≡ 0 → outstanding_of (next_sid t) (with_session old info t) ≡ []
created_empty old info t ascend zero_id =
    let none : session_of old t ≡ None = below old 0 t.given t.live ascend (omega (arith, zero_id)) in
    let absent = above (next_sid t) 0 t.given (remove_entry (same_sid old) t.live) (ascend-removed (same_sid old) 0 t.given t.live ascend) (omega arith) in
    ap (λ (o : Option LiveSession). out_of o) (pushed_own (next_sid t) (heir info (session_of old t)) (remove_entry (same_sid old) t.live) absent) ∙ ap (λ (o : Option LiveSession). (heir info o).outstanding) none

-- of a token that is responded to none is left
lacks : (token : Token) (m : Message) → not (has_token token m) ≡ true → has_token token m ≡ false
lacks token m is = by (has_token token m) is
  where
    by : (b : Bool) → not b ≡ true → b ≡ false
    by true wrong = absurd (false≢true wrong)
    by false wrong = refl

gone_from : (token : Token) (found : Option LiveSession) → All (λ (m : Message). has_token token m ≡ false) (out_of (option_map (λ (s : LiveSession). record s { outstanding = without_token token s.outstanding }) found))
gone_from token None = All-nil (λ m. has_token token m ≡ false)
gone_from token (Some s) = All-weaker (λ m. not (has_token token m) ≡ true) (λ m. has_token token m ≡ false) (lacks token) (without_token token s.outstanding) (filter_passes (λ m. not (has_token token m)) s.outstanding)

pub responded_gone : (x : Sid) (token : Token) (t : SessionTable) → All (λ (m : Message). has_token token m ≡ false) (outstanding_of x (responded x token t))
responded_gone x token t = subst (λ (o : Option LiveSession). All (λ (m : Message). has_token token m ≡ false) (out_of o)) (sym (changed_own (λ s. record s { outstanding = without_token token s.outstanding }) x t.live)) (gone_from token (session_of x t))

-- ---- what is handed out stands first in the queue

fits_first : (room : ℕ) (l : List Message) → take (length (fitting room l)) l ≡ fitting room l
fits_first room [] = refl
fits_first room (m ∷ rest) =
    let later = fits_first (room - message_bytes m) rest in
    elim (nat_le (message_bytes m) room) as (λ (b : Bool). take (length (cond b (m ∷ fitting (room - message_bytes m) rest) [])) (m ∷ rest) ≡ cond b (m ∷ fitting (room - message_bytes m) rest) []) [
      | true ↦ ap (λ (l : List Message). m ∷ l) later
      | false ↦ refl
    ]

some_first : (k room : ℕ) (l : List Message) → take (length (fitting room (take k l))) l ≡ fitting room (take k l)
some_first zero room l = refl
some_first (suc k) room [] = refl
some_first (suc k) room (m ∷ rest) =
    let later = some_first k (room - message_bytes m) rest in
    elim (nat_le (message_bytes m) room) as (λ (b : Bool). take (length (cond b (m ∷ fitting (room - message_bytes m) (take k rest)) [])) (m ∷ rest) ≡ cond b (m ∷ fitting (room - message_bytes m) (take k rest)) []) [
      | true ↦ ap (λ (l : List Message). m ∷ l) later
      | false ↦ refl
    ]

pub handed_first : (most room : ℕ) (l : List Message) → take (length (handed_out most room l)) l ≡ handed_out most room l
handed_first most room l = elim (eqb most 0) as (λ (b : Bool). take (length (fitting room (cond b l (take most l)))) l ≡ fitting room (cond b l (take most l))) [ true ↦ fits_first room l | false ↦ some_first most room l ]

-- ---- who owns a token

any_of : (p : Message → Bool) (l : List Message) → All (λ m. p m ≡ true → list_any p l ≡ true) l
any_of p [] = All-nil (λ m. p m ≡ true → list_any p [] ≡ true)
any_of p (x ∷ l) = All-cons (λ m. p m ≡ true → list_any p (x ∷ l) ≡ true) x l (λ is. rw is refl)
    (All-weaker (λ m. p m ≡ true → list_any p l ≡ true) (λ m. p m ≡ true → list_any p (x ∷ l) ≡ true) (λ m later is. or_later (p x) (list_any p l) (later is)) l (any_of p l))
  where
    or_later : (a b : Bool) → b ≡ true → (a || b) ≡ true
    or_later true b is = refl
    or_later false b is = is

module _ (t : SessionTable) (once : (u : Token) → 0 < u.0 → places u t ≤ 1) where
  -- a session owns each token that is outstanding to it
  pub owns_each : (sid : Sid) (u : Token) → 0 < u.0 → All (λ (m : Message). has_token u m ≡ true → owner u t ≡ Some sid) (outstanding_of sid t)
  owns_each sid u real = by (session_of sid t) refl
    where
      by : (found : Option LiveSession) → session_of sid t ≡ found → All (λ (m : Message). has_token u m ≡ true → owner u t ≡ Some sid) (out_of found)
      by None none = All-nil (λ m. has_token u m ≡ true → owner u t ≡ Some sid)
      by (Some s) there = All-weaker (λ m. has_token u m ≡ true → list_any (has_token u) s.outstanding ≡ true) (λ m. has_token u m ≡ true → owner u t ≡ Some sid)
          (λ m any is. owner-own u sid s t (once u real) there (any is)) s.outstanding (any_of (has_token u) s.outstanding)

  pub once_out : (sid : Sid) (u : Token) → 0 < u.0 → count_by (has_token u) (outstanding_of sid t) ≤ 1
  once_out sid u real = by (session_of sid t) refl
    where
      by : (found : Option LiveSession) → session_of sid t ≡ found → count_by (has_token u) (out_of found) ≤ 1
      by None none = omega arith
      by (Some s) there = let one = once u real in omega (arith, places-held u sid t s there)

-- the message of a token is that of its owner
held_by : (token : Token) (sid : Sid) (low high : ℕ) (live : Live) → Ascend low high live → option_map (λ x. x.0) (find (λ x. holds token x.1) live) ≡ Some sid
    → option_map (λ (x : Sid × LiveSession). x.1) (find (λ (x : Sid × LiveSession). holds token x.1) live) ≡ lookup (same_sid sid) live
held_by token sid low high [] h is = absurd cc
held_by token sid low high (e ∷ rest) h is = by (holds token e.1) refl (held_by token sid e.0.0 high rest h.2)
  where
    by : (c : Bool) → holds token e.1 ≡ c
        → (option_map (λ x. x.0) (find (λ x. holds token x.1) rest) ≡ Some sid → option_map (λ (x : Sid × LiveSession). x.1) (find (λ (x : Sid × LiveSession). holds token x.1) rest) ≡ lookup (same_sid sid) rest)
        → option_map (λ (x : Sid × LiveSession). x.1) (cond c (Some e) (find (λ (x : Sid × LiveSession). holds token x.1) rest)) ≡ lookup (same_sid sid) (e ∷ rest)
    by true has later =
        let mine : Some e.0 ≡ Some sid = rw has at is in
        let same : e.0 ≡ sid = cc in
        let own : same_sid sid e.0 ≡ true = eq-eqb sid.0 e.0.0 (ap (λ (x : Sid). x.0) (sym same)) in
        rw own refl
    by false has later =
        let there : option_map (λ x. x.0) (find (λ x. holds token x.1) rest) ≡ Some sid = rw has at is in
        let past = lookup-above sid e.0.0 high rest h.2 (found-lives (λ x. holds token x.1) sid rest there) in
        let other : same_sid sid e.0 ≡ false = ne_eqb sid.0 e.0.0 (λ same. omega arith) in
        rw other (later there)

pub owned_message : (token : Token) (sid : Sid) (t : SessionTable) → Ascend 0 t.given t.live → owner token t ≡ Some sid → outstanding_message token t ≡ message_in token (outstanding_of sid t)
owned_message token sid t ascend is = ap (λ (o : Option LiveSession). message_in token (out_of o)) (held_by token sid 0 t.given t.live ascend is)

-- where one at most has the token, it is the one that is found
none_has : (p : Message → Bool) (l : List Message) → count_by p l ≡ 0 → All (λ m. p m ≡ false) l
none_has p [] zero_count = All-nil (λ m. p m ≡ false)
none_has p (x ∷ l) zero_count = by (p x) refl (none_has p l)
  where
    all : count_by p (x ∷ l) ≡ one_if (p x) + count_by p l
    all = sum_by-cons (λ y. one_if (p y)) x l

    by : (b : Bool) → p x ≡ b → (count_by p l ≡ 0 → All (λ m. p m ≡ false) l) → All (λ m. p m ≡ false) (x ∷ l)
    by true here later = let one : one_if (p x) ≡ 1 = ap one_if here in absurd (omega (arith, all))
    by false other later = All-cons (λ m. p m ≡ false) x l other (later (omega (arith, all)))

pub found_one : (p : Message → Bool) (l : List Message) → count_by p l ≤ 1 → All (λ m. p m ≡ true → find p l ≡ Some m) l
found_one p [] few = All-nil (λ m. p m ≡ true → find p [] ≡ Some m)
found_one p (x ∷ l) few = by (p x) refl (found_one p l)
  where
    all : count_by p (x ∷ l) ≡ one_if (p x) + count_by p l
    all = sum_by-cons (λ y. one_if (p y)) x l

    by : (b : Bool) → p x ≡ b → (count_by p l ≤ 1 → All (λ m. p m ≡ true → find p l ≡ Some m) l) → All (λ m. p m ≡ true → find p (x ∷ l) ≡ Some m) (x ∷ l)
    by true here later =
        let one : one_if (p x) ≡ 1 = ap one_if here in
        All-cons (λ m. p m ≡ true → find p (x ∷ l) ≡ Some m) x l (λ is. rw here refl)
        (All-weaker (λ m. p m ≡ false) (λ m. p m ≡ true → find p (x ∷ l) ≡ Some m) (λ m not_it is. absurd (false≢true (sym not_it ∙ is))) l (none_has p l (omega (arith, all))))
    by false other later =
        All-cons (λ m. p m ≡ true → find p (x ∷ l) ≡ Some m) x l (λ is. absurd (false≢true (sym other ∙ is)))
        (All-weaker (λ m. p m ≡ true → find p l ≡ Some m) (λ m. p m ≡ true → find p (x ∷ l) ≡ Some m) (λ m found is. rw other (found is)) l (later (omega (arith, all))))
