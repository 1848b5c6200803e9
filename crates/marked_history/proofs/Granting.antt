-- In a served history a token that no line has named holds just what recall was given for it.
use Rattle.std.proofs.Common.{◌≡◌, ◌≢◌, ℕ, Bool, true, false, cond, not, ◌&&◌, ◌==◌, List, [], ◌∷◌, ◌++◌, Option, None, Some, is_some, inl, inr}
use Rattle.std.proofs.Common.{refl, sym, ◌∙◌, ap, subst, append_assoc, append-nil}
use Rattle.std.specs.Prelude.{◌⊎◌, IfSome, if◌then◌else◌}
use Rattle.std.specs.List.{All, find}
use Rattle.std.specs.Map.{keys_of, values_of, lookup}
use Rattle.std.specs.Option.{option_map}
use Rattle.std.proofs.lemmas.Bool.{false≢true, eq-eqb, and_parts, not-true}
use Rattle.std.proofs.lemmas.List.Elements.{All-head, All-tail}
use Rattle.std.proofs.lemmas.Map.Entries.{lookup-filter-keys}
use Rattle.std.proofs.lemmas.Map.Views.{All-keys_from_lookup}
use Rattle.hsm_types.specs.Handles.{same_key}
use Rattle.hsm_types.specs.Refusals.{first_refusal}
use Rattle.hsm_types.specs.Rights.{reaches, excludes, same_token, same_holding, Rights, holding, right_or_null, right_of, hinders, conflict, busy}
use Rattle.hsm_types.specs.Rights.{too_low, with_right, requested, without_right, released, AreRights}
use Rattle.hsm_types.specs.Sessions.{lives, owner, same_sid, dead_session, not_yours}
use Rattle.hsm_types.specs.declared.calls.CallRefusal.{CallRefusal}
use Rattle.hsm_types.specs.declared.daemons.Daemon.{Daemon}
use Rattle.hsm_types.specs.declared.daemons.Daemon.TheVariants.{Recall, Migrate}
use Rattle.hsm_types.specs.declared.dm.DmCall.{DmCall}
use Rattle.hsm_types.specs.declared.dm.DmCall.TheVariants.{Respond, RequestRight, ReleaseRight, UpgradeRight, DowngradeRight}
use Rattle.hsm_types.specs.declared.dm.DmRefusal.{DmRefusal}
use Rattle.hsm_types.specs.declared.dm.DmRefusal.TheVariants.{NoSession, NoToken, NotYours, NoObject, Busy}
use Rattle.hsm_types.specs.declared.dm.DmReply.{DmReply}
use Rattle.hsm_types.specs.declared.dm.DmReply.TheVariants.{Done, Refused}
use Rattle.hsm_types.specs.declared.dm.Right.{Right}
use Rattle.hsm_types.specs.declared.dm.Right.TheVariants.{Null, Shared, Excl}
use Rattle.hsm_types.specs.declared.keys.FileKey.{FileKey}
use Rattle.hsm_types.specs.declared.keys.Handle.{Handle}
use Rattle.hsm_types.specs.declared.keys.Holding.{Holding}
use Rattle.hsm_types.specs.declared.keys.Sid.{Sid}
use Rattle.hsm_types.specs.declared.keys.Token.{Token}
use Rattle.hsm_types.specs.declared.stores.Superblock.{Superblock}
use Rattle.hsm_types.proofs.Righted.{holding-same, holding-equiv, lookup-with, lookup-without, conflict-held}
use Rattle.plain_model.specs.declared.entries.Action.{Action}
use Rattle.plain_model.specs.declared.entries.Action.TheVariants.{Issue, Resume, Dm}
use Rattle.plain_model.specs.declared.entries.Actor.{Actor}
use Rattle.plain_model.specs.declared.entries.Actor.TheVariants.{Caller, Session}
use Rattle.plain_model.specs.declared.entries.Answer.{Answer}
use Rattle.plain_model.specs.declared.entries.Answer.TheVariants.{Dm as Told}
use Rattle.plain_model.specs.declared.entries.Entry.{Entry}
use Rattle.plain_model.specs.Effects.{change_of}
use Rattle.plain_model.specs.Exact.{IsOwn, IsAnswer, IsAnswerSeen, left_own, left_answered, left_by, ExactSeen, state_by}
use Rattle.plain_model.specs.Faults.{is_fault, fault_of}
use Rattle.plain_model.specs.Ledger.{Meant, Fixed, Means}
use Rattle.plain_model.specs.Services.{bad_own_token, is_live, bad_handle, service, dm_judged, dm_reply_where, dm_reply_to, dm_state_where}
use Rattle.plain_model.specs.Stands.{InOrder}
use Rattle.plain_model.specs.State.{Held, Flags, State, just_opened, noted, changed}
use Rattle.plain_model.specs.Verdict.{flags_now, objection_in, meant_in, state_where}
use Rattle.plain_model.proofs.AnyDisk.{seen_ordered, state_seen_ordered}
use Rattle.plain_model.proofs.Faultless.{fault_is}
use Rattle.plain_model.proofs.Histories.{ExactSeen-first}
use Rattle.plain_model.proofs.Judged.{none_first}
use Rattle.plain_model.proofs.Orders.{ordered_at_first}
use Rattle.plain_model.proofs.Seeing.{left_own_by}
use Rattle.hsm_policy.specs.Settings.{Numbers}
use Rattle.hsm_core.specs.Answers.{entry_of}
use Rattle.marked_history.specs.Marks.{Mark, entries_of}
use Rattle.marked_history.specs.Served.{Shown, nothing_shown, learned, IsServedBy, ServedFrom}
use Rattle.marked_history.specs.Quiet.{is_refusal}
use Rattle.marked_history.specs.Waiting.{PutsOff}
use Rattle.marked_history.specs.Tokens.{NamesIt, IsNamed, IsGranted, ServedHoldsGranted, IsHindered, RequestIsGranted}
use Rattle.marked_history.proofs.QuietEvents.{served_plainly}
use Rattle.marked_history.proofs.Seen.{over, is_over, ordered_over}

-- ---- rights after a change

-- what tokens hold in ys they hold in xs
abbrev OnlyLoses : Rights → Rights → Type 0
OnlyLoses xs ys = (u : Token) (j : FileKey) → right_of u j ys ≢ Null → right_of u j ys ≡ right_of u j xs

-- or it is this right of the token on the file
abbrev OnlyGains : Token → FileKey → Right → Rights → Rights → Type 0
OnlyGains t k right xs ys = (u : Token) (j : FileKey) → (right_of u j ys ≡ right_of u j xs) ⊎ ((u ≡ t) × (j ≡ k) × (right_of u j ys ≡ right))

loses_without : (t : Token) (k : FileKey) (rights : Rights) → AreRights rights → OnlyLoses rights (without_right t k rights)
loses_without t k rights are u j some = by (same_holding (holding t k) (holding u j)) (ap right_or_null (lookup-without (holding u j) (holding t k) rights are))
  where
    by : (b : Bool) → right_of u j (without_right t k rights) ≡ right_or_null (cond b None (lookup (same_holding (holding u j)) rights)) → right_of u j (without_right t k rights) ≡ right_of u j rights
    by true is = absurd (some is)
    by false is = is

loses_released : (t : Token) (rights : Rights) → OnlyLoses rights (released t rights)
loses_released t rights u j some =
    by (not (same_token u t))
    (ap right_or_null
    (lookup-filter-keys (same_holding (holding u j)) (λ (h : Holding). not (same_token h.token t)) (not (same_token u t)) (λ h same. ap (λ (o : Holding). not (same_token o.token t)) (sym (holding-same (holding u j) h same))) rights))
  where
    by : (b : Bool) → right_of u j (released t rights) ≡ right_or_null (cond b (lookup (same_holding (holding u j)) rights) None) → right_of u j (released t rights) ≡ right_of u j rights
    by true is = is
    by false is = absurd (some is)

gains_with : (t : Token) (k : FileKey) (right : Right) (rights : Rights) → OnlyGains t k right rights (with_right t k right rights)
gains_with t k right rights u j = by (same_holding (holding u j) (holding t k)) refl (ap right_or_null (lookup-with (holding u j) (holding t k) right rights))
  where
    by : (b : Bool) → same_holding (holding u j) (holding t k) ≡ b → right_of u j (with_right t k right rights) ≡ right_or_null (cond b (Some right) (lookup (same_holding (holding u j)) rights))
        → (right_of u j (with_right t k right rights) ≡ right_of u j rights) ⊎ ((u ≡ t) × (j ≡ k) × (right_of u j (with_right t k right rights) ≡ right))
    by true same is =
        let one : holding u j ≡ holding t k = holding-same (holding u j) (holding t k) same in
        inr (ap (λ (h : Holding). h.token) one, ap (λ (h : Holding). h.key) one, is)
    by false other is = inl is

gains_requested : (t : Token) (k : FileKey) (right : Right) (rights : Rights) → OnlyGains t k right rights (requested t k right rights)
gains_requested t k right rights = elim (reaches (right_of t k rights) right) as (λ (b : Bool). OnlyGains t k right rights (if b then rights else with_right t k right rights)) [
  | true ↦ λ u j. inl refl
  | false ↦ gains_with t k right rights
]

-- ---- what is known of a right

-- A line has named its token, or recall was given the file.
abbrev IsKnown : List Mark → Token → FileKey → Right → Type 0
IsKnown marks t k right = IsNamed marks t ⊎ ((right ≡ Excl) × IsGranted marks t k)

-- so is each
abbrev AreKnown : List Mark → Rights → Type 0
AreKnown marks rights = (t : Token) (k : FileKey) → right_of t k rights ≢ Null → IsKnown marks t k (right_of t k rights)

module _ (marks : List Mark) (m : Mark) where
  abbrev more : List Mark
  more = marks ++ m ∷ []

  named_more : (t : Token) → IsNamed marks t → IsNamed more t
  named_more t is = record {
    before = is.before;
    mark = is.mark;
    rest = is.rest ++ m ∷ [];
    parted = ap (λ (l : List Mark). l ++ m ∷ []) is.parted ∙ append_assoc is.before _ (m ∷ []);
    names = is.names;
  }

  granted_more : (t : Token) (k : FileKey) → IsGranted marks t k → IsGranted more t k
  granted_more t k is = record {
    before = is.before;
    sid = is.sid;
    handle = is.handle;
    rest = is.rest ++ m ∷ [];
    parted = ap (λ (l : List Mark). l ++ m ∷ []) is.parted ∙ append_assoc is.before _ (m ∷ []);
    file = is.file;
  }

  known_more : (t : Token) (k : FileKey) (right : Right) → IsKnown marks t k right → IsKnown more t k right
  known_more t k right (inl named) = inl (named_more t named)
  known_more t k right (inr granted) = inr (granted.0, granted_more t k granted.1)

  named_last : (t : Token) → NamesIt t m → IsNamed more t
  named_last t names = record { before = marks; mark = m; rest = []; parted = refl; names = names }

  module _ (xs ys : Rights) (known : AreKnown marks xs) where
    still_of : (t : Token) (k : FileKey) → right_of t k ys ≢ Null → right_of t k ys ≡ right_of t k xs → IsKnown more t k (right_of t k ys)
    still_of t k some same = subst (IsKnown more t k) (sym same) (known_more t k (right_of t k xs) (known t k (λ null. some (same ∙ null))))

    still : OnlyLoses xs ys → AreKnown more ys
    still loses t k some = still_of t k some (loses t k some)

    gained : (t : Token) (k : FileKey) (right : Right) → OnlyGains t k right xs ys → IsKnown more t k right → AreKnown more ys
    gained t k right gains is u j some = elim (gains u j) [
      | inl same ↦ still_of u j some same
      | inr own ↦ subst (IsKnown more u j) (sym own.2) (subst (λ (v : Token). IsKnown more v j right) (sym own.0) (subst (λ (i : FileKey). IsKnown more t i right) (sym own.1) is))
    ]

-- ---- a session's call

some_shared : (have : Right) → too_low Shared have ≡ None → have ≢ Null
some_shared Null low null = cc
some_shared Shared low null = cc
some_shared Excl low null = cc

module _ (s : Superblock) (now : State) (done : List Mark) (shown : Shown) (ordered : InOrder now) (known : AreKnown done now.rights) where
  module _ (sid : Sid) where
    abbrev mark : Option Daemon → DmCall → DmReply → Mark
    mark by call reply = record { entry = entry_of (Session sid) (Dm call) (Told reply); by = by }

    abbrev after : Option Daemon → DmCall → DmReply → List Mark
    after by call reply = done ++ mark by call reply ∷ []

    -- who upgrades a right has one
    upgraded_some : (t : Token) (h : Handle) → dm_judged s now sid (UpgradeRight t h) ≡ None → right_of t h.key now.rights ≢ Null
    upgraded_some t h none =
        let last : List (Option DmRefusal) = busy (conflict h.key Excl t now.rights) ∷ [] in
        let past_session = none_first (dead_session sid now.sessions) (bad_own_token sid t now.sessions ∷ bad_handle s now.held.files h ∷ too_low Shared (right_of t h.key now.rights) ∷ last) none in
        let past_token = none_first (bad_own_token sid t now.sessions) (bad_handle s now.held.files h ∷ too_low Shared (right_of t h.key now.rights) ∷ last) past_session.1 in
        let past_handle = none_first (bad_handle s now.held.files h) (too_low Shared (right_of t h.key now.rights) ∷ last) past_token.1 in
        some_shared (right_of t h.key now.rights) (none_first (too_low Shared (right_of t h.key now.rights)) last past_handle.1).0

    upgraded : (m : Mark) (t : Token) (h : Handle) → dm_judged s now sid (UpgradeRight t h) ≡ None → IsKnown (done ++ m ∷ []) t h.key Excl
    upgraded m t h none = elim (known t h.key (upgraded_some t h none)) [
      | inl named ↦ inl (named_more done m t named)
      | inr granted ↦ inr (refl, granted_more done m t h.key granted.1)
    ]

    downgraded : (by : Option Daemon) (t : Token) (h : Handle) (reply : DmReply) → IsServedBy by shown (mark by (DowngradeRight t h) reply) → IsKnown (after by (DowngradeRight t h) reply) t h.key Shared
    downgraded None t h reply served = inl (named_last done (mark None (DowngradeRight t h) reply) t (sid, h, reply, inr refl))
    downgraded (Some Recall) t h reply served = absurd served
    downgraded (Some Migrate) t h reply served = absurd served

    granted : (t : Token) (h : Handle) (right : Right) (reply : DmReply) → right ≡ Excl → reply ≡ Done → IsGranted (after (Some Recall) (RequestRight t h right) reply) t h.key
    granted t h right reply whole is = record {
      before = done;
      sid = sid;
      handle = h;
      rest = [];
      parted = ap (λ (r : Right). after (Some Recall) (RequestRight t h r) reply) whole ∙ ap (after (Some Recall) (RequestRight t h Excl)) is;
      file = refl;
    }

    requests : (by : Option Daemon) (t : Token) (h : Handle) (right : Right) (reply : DmReply) → IsServedBy by shown (mark by (RequestRight t h right) reply) → reply ≡ Done → IsKnown (after by (RequestRight t h right) reply) t h.key right
    requests None t h right reply served is = inl (named_last done (mark None (RequestRight t h right) reply) t (sid, h, reply, inl (right, refl)))
    requests (Some Recall) t h right reply served is = inr (served.1, granted t h right reply served.1 is)
    requests (Some Migrate) t h right reply served is = absurd served

    module _ (by : Option Daemon) where
      call_by : (call : DmCall) (reply : DmReply) → IsServedBy by shown (mark by call reply) → dm_judged s now sid call ≡ None → reply ≡ (service s now sid call).reply → AreKnown (after by call reply) (changed (change_of sid call) now).rights
      call_by (RequestRight t h right) reply served none is =
          gained done (mark by (RequestRight t h right) reply) now.rights (requested t h.key right now.rights) known t h.key right (gains_requested t h.key right now.rights) (requests by t h right reply served is)
      call_by (ReleaseRight t h) reply served none is = still done (mark by (ReleaseRight t h) reply) now.rights (without_right t h.key now.rights) known (loses_without t h.key now.rights ordered.rights)
      call_by (UpgradeRight t h) reply served none is =
          gained done (mark by (UpgradeRight t h) reply) now.rights (with_right t h.key Excl now.rights) known t h.key Excl (gains_with t h.key Excl now.rights) (upgraded (mark by (UpgradeRight t h) reply) t h none)
      call_by (DowngradeRight t h) reply served none is =
          gained done (mark by (DowngradeRight t h) reply) now.rights (with_right t h.key Shared now.rights) known t h.key Shared (gains_with t h.key Shared now.rights) (downgraded by t h reply served)
      call_by (Respond t response) reply served none is = still done (mark by (Respond t response) reply) now.rights (released t now.rights) known (loses_released t now.rights)
      call_by call reply served none is = still done (mark by call reply) now.rights now.rights known (λ u j some. refl)

      told_by : (why : Option DmRefusal) (call : DmCall) (reply : DmReply) → IsServedBy by shown (mark by call reply) → dm_judged s now sid call ≡ why → reply ≡ dm_reply_where why s now sid call → AreKnown (after by call reply) (dm_state_where why s now sid call).rights
      told_by None call reply served judged is = call_by call reply served judged is
      told_by (Some why) call reply served judged is = still done (mark by call reply) now.rights now.rights known (λ u j some. refl)

  -- ---- any event

  -- a caller's leaves them
  where_same : (c : ℕ) (fl : Flags) (why : Option CallRefusal) (m : Meant) → (state_where s now c fl why m).rights ≡ now.rights
  where_same c fl why (Fixed reply) = refl
  where_same c fl (Some why) (Means k call) = refl
  where_same c fl None (Means k call) = refl

  abbrev event : Option Daemon → Actor → Action → Answer → Mark
  event by who what answer = record { entry = entry_of who what answer; by = by }

  own_by : (by : Option Daemon) (who : Actor) (what : Action) (answer : Answer) → IsOwn s now who what answer → IsServedBy by shown (event by who what answer) → AreKnown (done ++ event by who what answer ∷ []) (left_own s now who what).rights
  own_by by (Caller c) (Issue call) answer is served =
      still done (event by (Caller c) (Issue call) answer) now.rights _ known (λ u j some. ap (right_of u j) (where_same c (flags_now now c (Issue call)) (objection_in s now c (Issue call)) (meant_in now c (Issue call))))
  own_by by (Caller c) Resume answer is served =
      still done (event by (Caller c) Resume answer) now.rights _ known (λ u j some. ap (right_of u j) (where_same c (flags_now now c Resume) (objection_in s now c Resume) (meant_in now c Resume)))
  own_by by (Session sid) (Dm call) answer is served =
      subst (λ (a : Answer). IsServedBy by shown (event by (Session sid) (Dm call) a) → AreKnown (done ++ event by (Session sid) (Dm call) a ∷ []) (left_own s now (Session sid) (Dm call)).rights) (sym is.1)
      (λ told. told_by sid by (dm_judged s now sid call) call (dm_reply_to s now sid call) told refl refl) served
  own_by by who what answer is served = still done (event by who what answer) now.rights now.rights known (λ u j some. refl)

  if_known : (marks : List Mark) (fault : Bool) (own : State) → AreKnown marks now.rights → AreKnown marks own.rights → AreKnown marks (if fault then noted now else own).rights
  if_known marks true own old is = old
  if_known marks false own old is = is

  left_known : (m : Mark) → IsAnswer s now m.entry.actor m.entry.action m.entry.answer → IsServedBy m.by shown m → AreKnown (done ++ m ∷ []) (left_by s now m.entry.actor m.entry.action m.entry.answer).rights
  left_known m (inl is) served =
      let fault : is_fault m.entry.answer ≡ true = ap is_fault is.1 ∙ fault_is m.entry.action in
      subst (λ (b : Bool). AreKnown (done ++ m ∷ []) (if b then noted now else left_answered s now m.entry.actor m.entry.action m.entry.answer).rights) (sym fault) (still done m now.rights now.rights known (λ u j some. refl))
  left_known m (inr is) served =
      if_known (done ++ m ∷ []) (is_fault m.entry.answer) (left_answered s now m.entry.actor m.entry.action m.entry.answer) (still done m now.rights now.rights known (λ u j some. refl))
      (subst (λ (left : State). AreKnown (done ++ m ∷ []) left.rights) (sym (left_own_by s now m.entry.actor m.entry.action m.entry.answer is)) (own_by m.by m.entry.actor m.entry.action m.entry.answer is served))

-- on any disk
seen_known : (s : Superblock) (now : State) (done : List Mark) (shown : Shown) → InOrder now → AreKnown done now.rights → (m : Mark) → IsAnswerSeen ⊥ s now m.entry.actor m.entry.action m.entry.answer → IsServedBy m.by shown m
    → AreKnown (done ++ m ∷ []) (left_by s now m.entry.actor m.entry.action m.entry.answer).rights
seen_known s now done shown ordered known m answer served =
    let there = is_over s now m.entry.actor m.entry.action m.entry.answer answer in
    subst (λ (left : State). AreKnown (done ++ m ∷ []) left.rights) (sym there.left) (left_known s (over now there.seen) done shown (ordered_over now there.seen ordered) known m there.exact served)

-- ---- whole histories

known_on : (limits : Numbers) (s : Superblock) (now : State) (done : List Mark) (shown : Shown) (marks : List Mark) → InOrder now → ExactSeen ⊥ s now (entries_of marks) → ServedFrom limits shown marks → AreKnown done now.rights
    → AreKnown (done ++ marks) (state_by s now (entries_of marks)).rights
known_on limits s now done shown [] ordered exact served known = subst (λ (l : List Mark). AreKnown l now.rights) (sym (append-nil done)) known
known_on limits s now done shown (m ∷ marks) ordered exact served known =
    subst (λ (l : List Mark). AreKnown l (state_by s now (entries_of (m ∷ marks))).rights) (append_assoc done (m ∷ []) marks)
    (known_on limits s (left_by s now m.entry.actor m.entry.action m.entry.answer) (done ++ m ∷ []) (learned limits shown m) marks (seen_ordered ⊥ s now m.entry ordered exact.0) exact.2 served.1
    (seen_known s now done shown ordered known m exact.0 served.0))

pub served_holds_granted : (limits : Numbers) (s : Superblock) (base : ℕ) (h : Held) (marks : List Mark) (es : List Entry) → ServedHoldsGranted limits s base h marks es
served_holds_granted limits s base h marks es same served run =
    known_on limits s (just_opened base h) [] nothing_shown marks (ordered_at_first base h) (subst (ExactSeen ⊥ s (just_opened base h)) (sym same) run.exact) served (λ t k some. absurd (some refl))

-- ---- requests that another token hinders

-- of a rule for no cause of which recall puts an event off
abbrev NeverOff : Option DmRefusal → Type 0
NeverOff rule = IfSome rule (λ why. PutsOff why → ⊥)

-- where the cause is such, it's a later rule that refuses
past : (rule : Option DmRefusal) (rest : List (Option DmRefusal)) (why : DmRefusal) → NeverOff rule → PutsOff why → first_refusal (rule ∷ rest) ≡ Some why → first_refusal rest ≡ Some why
past None rest why never off is = is
past (Some own) rest why never off is = let same : own ≡ why = cc in absurd (never (subst PutsOff (sym same) off))

unless_never : (b : Bool) (why : DmRefusal) → (PutsOff why → ⊥) → NeverOff (if b then None else Some why)
unless_never true why never = tt
unless_never false why never = never

owner_never : (sid : Sid) (found : Option Sid) → NeverOff (not_yours sid found)
owner_never sid None = λ off. off
owner_never sid (Some owner) = unless_never (same_sid owner sid) (NotYours owner) (λ off. off)

token_never : (sid : Sid) (t : Token) (found : Option Sid) → NeverOff (if t.0 == 0 then Some NoToken else not_yours sid found)
token_never sid t found = elim (t.0 == 0) as (λ (b : Bool). NeverOff (if b then Some NoToken else not_yours sid found)) [
  | true ↦ λ off. off
  | false ↦ owner_never sid found
]

low_never : (have : Right) → NeverOff (too_low Null have)
low_never Null = tt
low_never Shared = tt
low_never Excl = tt

busy_with : (found : Option Token) (why : DmRefusal) → first_refusal (busy found ∷ []) ≡ Some why → (other : Token) × (found ≡ Some other) × (why ≡ Busy other)
busy_with None why is = absurd cc
busy_with (Some other) why is = (other, refl, cc)

-- a call is refused for what was judged
pub refused_so : (judged : Option DmRefusal) (s : Superblock) (now : State) (sid : Sid) (call : DmCall) (why : DmRefusal) → Refused why ≡ dm_reply_where judged s now sid call → judged ≡ Some why
refused_so None s now sid call why is = absurd (false≢true (sym (served_plainly s now sid call) ∙ ap is_refusal (sym is)))
refused_so (Some own) s now sid call why is = let same : why ≡ own = cc in ap (λ (x : DmRefusal). Some x) (sym same)

-- who hinders is another token
hinders_another : (k : FileKey) (need : Right) (own other : Token) (rights : Rights) → conflict k need own rights ≡ Some other → same_token other own ≡ false
hinders_another k need own other [] is = cc
hinders_another k need own other (e ∷ rest) is = by (hinders k need own e) refl is (hinders_another k need own other rest)
  where
    by : (b : Bool) → hinders k need own e ≡ b → option_map (λ (held : Holding × Right). held.0.token) (cond b (Some e) (find (hinders k need own) rest)) ≡ Some other
        → (conflict k need own rest ≡ Some other → same_token other own ≡ false) → same_token other own ≡ false
    by true hinder told later =
        let token : e.0.token ≡ other = cc in
        subst (λ (u : Token). same_token u own ≡ false) token
        (not-true (same_token e.0.token own) (and_parts (same_key e.0.key k) (not (same_token e.0.token own)) (and_parts (same_key e.0.key k && not (same_token e.0.token own)) (excludes need e.1) hinder).0).1)
    by false hinder told later = later told

-- whoever is listed has a right
looked_some : (test : Holding → Bool) (rights : Rights) → All (λ (right : Right). right ≢ Null) (values_of rights) → is_some (lookup test rights) ≡ true → right_or_null (lookup test rights) ≢ Null
looked_some test [] some there = absurd (false≢true there)
looked_some test (e ∷ rest) some there = by (test e.0) there (looked_some test rest (All-tail (λ (right : Right). right ≢ Null) e.1 (values_of rest) some))
  where
    by : (b : Bool) → is_some (cond b (Some e.1) (lookup test rest)) ≡ true → (is_some (lookup test rest) ≡ true → right_or_null (lookup test rest) ≢ Null) → right_or_null (cond b (Some e.1) (lookup test rest)) ≢ Null
    by true found later = All-head (λ (right : Right). right ≢ Null) e.1 (values_of rest) some
    by false found later = later found

pub hindered_by : (k : FileKey) (need : Right) (own other : Token) (rights : Rights) → AreRights rights → conflict k need own rights ≡ Some other → IsHindered rights own k need other
hindered_by k need own other rights are told =
    let each : All (λ (h : Holding). right_of h.token h.key rights ≢ Null) (keys_of rights) =
    All-keys_from_lookup holding-equiv (λ (h : Holding). right_of h.token h.key rights ≢ Null) rights (λ h there. looked_some (same_holding h) rights are.some there) in
    let holds : right_of other k rights ≢ Null = conflict-held (λ (h : Holding). right_of h.token h.key rights ≢ Null) k need own other rights each told in
    let apart : other ≢ own = λ same. false≢true (sym (hinders_another k need own other rights told) ∙ eq-eqb other.0 own.0 (ap (λ (u : Token). u.0) same)) in
    record { told = told; holds = holds; apart = apart; lacks = λ excl. apart (sym (are.alone own other k excl holds)) }

module _ (s : Superblock) where
  -- a request that is refused for such a cause is hindered
  pub judged_busy : (now : State) (sid : Sid) (t : Token) (h : Handle) (right : Right) (why : DmRefusal) → PutsOff why → dm_judged s now sid (RequestRight t h right) ≡ Some why
      → (other : Token) × (conflict h.key right t now.rights ≡ Some other) × (why ≡ Busy other)
  judged_busy now sid t h right why off judged =
      let have : Right = right_of t h.key now.rights in
      let by_right : List (Option DmRefusal) = busy (conflict h.key right t now.rights) ∷ [] in
      let by_need : List (Option DmRefusal) = too_low Null have ∷ by_right in
      let by_handle : List (Option DmRefusal) = bad_handle s now.held.files h ∷ by_need in
      let past_session = past (dead_session sid now.sessions) (bad_own_token sid t now.sessions ∷ by_handle) why (unless_never (lives sid now.sessions) NoSession (λ off. off)) off judged in
      let past_token = past (bad_own_token sid t now.sessions) by_handle why (token_never sid t (owner t now.sessions)) off past_session in
      let past_handle = past (bad_handle s now.held.files h) by_need why (unless_never (is_live s now.held.files h) NoObject (λ off. off)) off past_token in
      busy_with (conflict h.key right t now.rights) why (past (too_low Null have) by_right why (low_never have) off past_handle)

  hindered_now : (now : State) (sid : Sid) (t : Token) (h : Handle) (right : Right) (other : Token) → InOrder now → IsAnswer s now (Session sid) (Dm (RequestRight t h right)) (Told (Refused (Busy other))) → IsHindered now.rights t h.key right other
  hindered_now now sid t h right other ordered (inl is) = absurd (let wrong : Told (Refused (Busy other)) ≡ fault_of (Dm (RequestRight t h right)) = is.1 in cc)
  hindered_now now sid t h right other ordered (inr is) =
      let own : Told (Refused (Busy other)) ≡ Told (dm_reply_to s now sid (RequestRight t h right)) = is.1 in
      let found = judged_busy now sid t h right (Busy other) tt (refused_so (dm_judged s now sid (RequestRight t h right)) s now sid (RequestRight t h right) (Busy other) cc) in
      let same : found.0 ≡ other = let busy : Busy other ≡ Busy found.0 = found.2 in cc in
      hindered_by h.key right t other now.rights ordered.rights (found.1 ∙ ap (λ (u : Token). Some u) same)

  -- each end of an exact history is so
  pub exact_rest : (st : State) (before rest : List Entry) → ExactSeen ⊥ s st (before ++ rest) → ExactSeen ⊥ s (state_by s st before) rest
  exact_rest st [] rest exact = exact
  exact_rest st (e ∷ before) rest exact = exact_rest (left_by s st e.actor e.action e.answer) before rest exact.2

pub request_is_granted : (s : Superblock) (base : ℕ) (h : Held) (es : List Entry) → RequestIsGranted s base h es
request_is_granted s base h es run before sid t handle right other rest is =
    let first : State = just_opened base h in
    let later : List Entry = entry_of (Session sid) (Dm (RequestRight t handle right)) (Told (Refused (Busy other))) ∷ rest in
    let exact : ExactSeen ⊥ s first (before ++ later) = subst (ExactSeen ⊥ s first) is run.exact in
    let now : State = state_by s first before in
    let ordered : InOrder now = state_seen_ordered ⊥ s first before (ordered_at_first base h) (ExactSeen-first ⊥ s first before later exact) in
    let there = is_over s now (Session sid) (Dm (RequestRight t handle right)) (Told (Refused (Busy other))) (exact_rest s first before later exact).0 in
    hindered_now s (over now there.seen) sid t handle right other (ordered_over now there.seen ordered) there.exact
